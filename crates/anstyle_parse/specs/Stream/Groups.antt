-- Groups of fields, as lists.
use Rattle.std.specs.Prelude.{ℕ, suc, ◌+◌, ◌<◌, Bool, true, false, not, List, [], ◌∷◌, ◌++◌, length, take, drop, map, decimal}
use Rattle.std.specs.List.{AllByRecursion, join_with_byte, prefix_len}
use Rattle.anstyle_parse.specs.Stream.Bytes.{colon, semicolon}

-- the sum of the numbers
abbrev pub total : List ℕ → ℕ
total [] = 0
total (number ∷ numbers) = number + total numbers

-- numbers cut into groups of these lengths
abbrev pub cut : List ℕ → List ℕ → List (List ℕ)
cut [] numbers = []
cut (length ∷ lengths) numbers = take length numbers ∷ cut lengths (drop length numbers)

-- numbers cut into groups, each from a start to the number before the next start
abbrev pub cut_at : List Bool → List ℕ → List (List ℕ)
cut_at [] numbers = []
cut_at (true ∷ starts) numbers = take (suc (prefix_len not starts)) numbers ∷ cut_at starts (drop 1 numbers)
cut_at (false ∷ starts) numbers = cut_at starts (drop 1 numbers)

-- the closed groups, then the open one, if it has a field
abbrev pub shown_groups : List (List ℕ) → List ℕ → List (List ℕ)
shown_groups closed [] = closed
shown_groups closed (field ∷ fields) = closed ++ (field ∷ fields) ∷ []

-- each group has a field
abbrev pub HaveFields : List (List ℕ) → Type 0
HaveFields groups = AllByRecursion (λ group. 0 < length group) groups

-- fields in decimal, with 3A between them
abbrev pub fields_text : List ℕ → List ℕ
fields_text fields = join_with_byte colon (map decimal fields)

-- groups of fields, with 3B between them
abbrev pub groups_text : List (List ℕ) → List ℕ
groups_text groups = join_with_byte semicolon (map fields_text groups)
