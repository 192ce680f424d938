-- One word more of those that say the form.
use Rattle.std.proofs.Common.{◌≡◌, ℕ, List, [], ◌∷◌, ◌++◌, refl}
use Rattle.ansi2html.specs.declared.form.Form.{Form}
use Rattle.ansi2html.specs.Words.{form_after, form_from}

pub form_from-push : (form : Form) (words : List (List ℕ)) (word : List ℕ)
    → form_from form (words ++ word ∷ []) ≡ form_after (form_from form words) word
form_from-push form [] word = refl
form_from-push form (first ∷ words) word = form_from-push (form_after form first) words word
