-- The pages that colours are for.
use Rattle.std.specs.Prelude.{ℕ, List, [], ◌∷◌, codes, bytes_eq, if◌then◌else◌}
use Rattle.ansi_html.specs.declared.scheme.Scheme.{Scheme}
use Rattle.ansi_html.specs.declared.scheme.Scheme.TheVariants.{Light, Dark, Both}

-- The scheme after one word more, and after all: the last of --light and --dark, and else both.
abbrev pub scheme_after : Scheme → (word : List ℕ) → Scheme
scheme_after scheme word =
    if bytes_eq word (codes "--light") then Light else if bytes_eq word (codes "--dark") then Dark else scheme

abbrev pub scheme_from : Scheme → (words : List (List ℕ)) → Scheme
scheme_from scheme [] = scheme
scheme_from scheme (word ∷ words) = scheme_from (scheme_after scheme word) words

abbrev pub scheme_of : (words : List (List ℕ)) → Scheme
scheme_of words = scheme_from Both words
