-- Answers that are put one after another.
use Rattle.std.proofs.Common.{◌≡◌, ℕ, List, [], ◌∷◌, ◌++◌, sym, ap, ◌∙◌, subst, append-nil}
use Rattle.std.specs.List.{flat_map}
use Rattle.std.proofs.lemmas.Grind.{flat_map-append}
use Rattle.ansi_answers.specs.declared.answer.Answer.{Answer}
use Rattle.ansi_answers.specs.Text.{answer_text}
use Rattle.screen_pieces.specs.declared.text.TextWriter.{TextWriter}
use Rattle.screen_pieces.specs.Text.{Puts}
use Rattle.screen_pieces.proofs.TextLemmas.{Puts-append}

pub Puts-answer : (passed : List Answer) (answer : Answer) (text : List ℕ) (a b c : TextWriter) → Puts (flat_map answer_text passed) a b → Puts text b c
    → text ≡ answer_text answer → Puts (flat_map answer_text (passed ++ answer ∷ [])) a c
Puts-answer passed answer text a b c first second is =
    subst (λ (t : List ℕ). Puts t a c)
    (ap (λ (t : List ℕ). flat_map answer_text passed ++ t) (is ∙ sym (append-nil (answer_text answer))) ∙ sym (flat_map-append answer_text passed (answer ∷ [])))
    (Puts-append (flat_map answer_text passed) text a b c first second)
