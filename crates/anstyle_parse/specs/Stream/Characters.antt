-- The well-formed UTF-8 sequences of two to four bytes (The Unicode Standard, Table 3-7).
use Rattle.std.specs.Prelude.{◌≡◌, ◌≢◌, ℕ, Bool, true, false, ◌&&◌, nat_lt, ◌==◌, List, [], ◌∷◌, ◌++◌, ◌+◌, ◌*◌, ◌%◌, length, IsTrue}
use Rattle.std.specs.List.{list_any}
use Rattle.anstyle_parse.specs.Stream.Bytes.{is_within, Span, ◌‥◌}

-- the table, row by row
abbrev pub rows : List (List Span)
rows =
    (0xC2 ‥ 0xDF ∷ 0x80 ‥ 0xBF ∷ []) ∷
    (0xE0 ‥ 0xE0 ∷ 0xA0 ‥ 0xBF ∷ 0x80 ‥ 0xBF ∷ []) ∷
    (0xE1 ‥ 0xEC ∷ 0x80 ‥ 0xBF ∷ 0x80 ‥ 0xBF ∷ []) ∷
    (0xED ‥ 0xED ∷ 0x80 ‥ 0x9F ∷ 0x80 ‥ 0xBF ∷ []) ∷
    (0xEE ‥ 0xEF ∷ 0x80 ‥ 0xBF ∷ 0x80 ‥ 0xBF ∷ []) ∷
    (0xF0 ‥ 0xF0 ∷ 0x90 ‥ 0xBF ∷ 0x80 ‥ 0xBF ∷ 0x80 ‥ 0xBF ∷ []) ∷
    (0xF1 ‥ 0xF3 ∷ 0x80 ‥ 0xBF ∷ 0x80 ‥ 0xBF ∷ 0x80 ‥ 0xBF ∷ []) ∷
    (0xF4 ‥ 0xF4 ∷ 0x80 ‥ 0x8F ∷ 0x80 ‥ 0xBF ∷ 0x80 ‥ 0xBF ∷ []) ∷ []

-- each byte may stand at its place of the row, which may go on
abbrev pub begins : List Span → List ℕ → Bool
begins row [] = true
begins [] (b ∷ bytes) = false
begins (place ∷ row) (b ∷ bytes) = is_within place.first place.last b && begins row bytes

-- a whole row
unfoldable pub is_well_formed : List ℕ → Bool
is_well_formed bytes = list_any (λ row. begins row bytes && length bytes == length row) rows

-- A prefix of a well-formed sequence, the whole included: some bytes after it make it one.
abbrev pub IsFront : List ℕ → Type 0
IsFront bytes = (rest : List ℕ) × IsTrue (is_well_formed (bytes ++ rest))

-- a prefix that is neither empty nor the whole
pub record IsProperFront (bytes : List ℕ) : Type 0 where
  pub begun : bytes ≢ []
  pub rest : List ℕ
  pub proper : rest ≢ []
  pub whole : IsTrue (is_well_formed (bytes ++ rest))

-- the test for a prefix that is neither empty nor the whole: they begin a longer row
unfoldable pub is_proper_front : List ℕ → Bool
is_proper_front bytes =
    nat_lt 0 (length bytes) && list_any (λ row. begins row bytes && nat_lt (length bytes) (length row)) rows

-- the first byte of some well-formed sequence
unfoldable pub is_lead : ℕ → Bool
is_lead b = is_within 0xC2 0xF4 b

-- The character of a well-formed sequence: the low five, four or three bits of its first
-- byte, followed by the low six bits of each further byte.
abbrev pub character_of : List ℕ → ℕ
character_of (a ∷ b ∷ []) = a % 32 * 64 + b % 64
character_of (a ∷ b ∷ c ∷ []) = (a % 16 * 64 + b % 64) * 64 + c % 64
character_of (a ∷ b ∷ c ∷ d ∷ []) = ((a % 8 * 64 + b % 64) * 64 + c % 64) * 64 + d % 64
character_of _ = 0

-- the bytes begin with a whole well-formed sequence, of this character, and these are left
abbrev pub BeginWithWhole : List ℕ → ℕ → List ℕ → Type 0
BeginWithWhole bytes c left =
    (whole : List ℕ) × IsTrue (is_well_formed whole) × (c ≡ character_of whole) × (bytes ≡ whole ++ left)

-- U+FFFD, printed for a character that is broken
abbrev pub replacement : ℕ
replacement = 0xFFFD
