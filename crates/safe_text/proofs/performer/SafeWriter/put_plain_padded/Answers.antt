-- All of it is written, and its last byte last.
use Rattle.std.proofs.Common.{◌≡◌, ◌-◌, length, refl, ◌∙◌, subst}
use Rattle.std.specs.Prelude.{Some, slice_get}
use Rattle.safe_text.specs.Writer.{before_in}
use Rattle.safe_text.proofs.PlainLemmas.{last-slice, plain-taken}
use Rattle.safe_text.proofs.performer.SafeWriter.put_plain_padded.Goals as goal

pub returns-in-Some : goal.returns-in-Some
returns-in-Some g c =
    let text = c.args.text.now in
    let there : Some c.in-Some.byte.now ≡ slice_get text (length text - 1) =
    subst (λ l. Some c.in-Some.byte.now ≡ slice_get l (length l - 1)) c.as_bytes.ensures c.in-Some.ensures.value in
    plain-taken g.W.Sink c.args.self.now _ text c.requires.nothing c.requires.plain refl
    (c.from-self.ensures ∙ last-slice (before_in c.args.self.now) text c.in-Some.byte.now there) c.put_padded.ensures
