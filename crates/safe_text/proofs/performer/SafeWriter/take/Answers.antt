-- It waits too, or what waits is written first.
use Rattle.std.proofs.Common.{refl, sym, ◌∙◌}
use Rattle.safe_text.proofs.WriterLemmas.{less_u-taken, released-taken}
use Rattle.safe_text.proofs.performer.SafeWriter.take.Goals as goal

pub returns-then-goes_on : goal.returns-then-goes_on
returns-then-goes_on g c =
    less_u-taken g.W.Sink c.args.self.now _ c.args.c (sym c.goes_on.ensures ∙ c.if-goes_on.true) refl refl refl

pub returns-else-goes_on : goal.returns-else-goes_on
returns-else-goes_on g c =
    released-taken g.W.Sink c.args.self.now c.release.new.self c.begin.new.self c.args.c (sym c.goes_on.ensures ∙ c.if-goes_on.false) c.release.ensures c.begin.ensures
