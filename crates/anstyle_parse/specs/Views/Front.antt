-- The front of a character, as the decoder keeps it, and its bytes.
use Rattle.std.specs.Prelude.{◌≡◌, ℕ, Bool, ◌&&◌, ◌==◌, List, [], ◌∷◌, length}
use Rattle.std.specs.List.{list_any}
use Rattle.anstyle_parse.specs.declared.utf8.Taken.{Taken}
use Rattle.anstyle_parse.specs.declared.utf8.Front.{Front}
use Rattle.anstyle_parse.specs.declared.utf8.Front.TheVariants.{Empty, One, Two, Three}
use Rattle.anstyle_parse.specs.Stream.Characters.{rows, begins}

abbrev pub bytes_of : Front → List ℕ
bytes_of Empty = []
bytes_of (One a) = a ∷ []
bytes_of (Two a b) = a ∷ b ∷ []
bytes_of (Three a b c) = a ∷ b ∷ c ∷ []

-- the front of these bytes, of which there are at most three
abbrev pub front_with : List ℕ → Front
front_with [] = Empty
front_with (a ∷ []) = One a
front_with (a ∷ b ∷ []) = Two a b
front_with (a ∷ b ∷ c ∷ []) = Three a b c
front_with _ = Empty

-- the prefix of a well-formed sequence of this many bytes, the whole included
unfoldable pub is_front_of : ℕ → List ℕ → Bool
is_front_of size bytes = list_any (λ row. begins row bytes && size == length row) rows

-- the decoder's answer, as the code gives it
abbrev pub IsStep : List ℕ × Taken → Front × Taken → Type 0
IsStep step answer = (answer.0 ≡ front_with step.0) × (answer.1 ≡ step.1)
