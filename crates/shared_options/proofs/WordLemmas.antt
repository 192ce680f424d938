-- One word more of those that say the scheme.
use Rattle.std.proofs.Common.{◌≡◌, ℕ, List, [], ◌∷◌, ◌++◌, refl}
use Rattle.ansi_html.specs.declared.scheme.Scheme.{Scheme}
use Rattle.shared_options.specs.Scheme.{scheme_after, scheme_from}

pub scheme_from-push : (scheme : Scheme) (words : List (List ℕ)) (word : List ℕ)
    → scheme_from scheme (words ++ word ∷ []) ≡ scheme_after (scheme_from scheme words) word
scheme_from-push scheme [] word = refl
scheme_from-push scheme (first ∷ words) word = scheme_from-push (scheme_after scheme first) words word
