-- All of it is written, and its last byte last.
use Rattle.std.proofs.Common.{refl, ◌∙◌}
use Rattle.safe_text.specs.Writer.{before_in}
use Rattle.safe_text.proofs.PlainLemmas.{last-slice, plain-taken}
use Rattle.safe_text.proofs.performer.SafeWriter.put_plain.Goals as goal

pub returns-in-Some : goal.returns-in-Some
returns-in-Some g c =
    plain-taken g.W.Sink c.args.self.now _ c.args.text.now c.requires.nothing c.requires.plain refl
    (c.from-self.ensures ∙ last-slice (before_in c.args.self.now) c.args.text.now c.in-Some.last.now c.in-Some.ensures.value) c.put.ensures
