-- How many columns a character takes.
--
-- Sources: Unicode Standard Annex 11 (East Asian Width); The Unicode Standard, 4.5 (general
-- categories); xterm, which gives U+00AD one column and shows no C0, DEL and C1 that is printed.
use Rattle.std.specs.Prelude.{◌≡◌, ℕ, ◌*◌, ◌/◌, ◌%◌, ◌^◌, ◌<◌, Bool, false, ◌||◌, nat_lt, nat_le, not, List, [], ◌∷◌, length, slice_index_or, if◌then◌else◌}
use Rattle.anstyle_parse.specs.Stream.Bytes.{is_within}
use Rattle.ansi_screen.specs.Ranges.{no_column, two_columns}

-- C0, DEL and C1 show nothing
unfoldable pub is_shown : ℕ → Bool
is_shown c = not (nat_lt c 0x20 || is_within 0x7F 0x9F c)

-- whether a number is in one of the ranges, which are in ascending order: the first that ends
-- at it or past it decides
unfoldable pub is_among : ℕ → List (ℕ × ℕ) → Bool
is_among n [] = false
is_among n (range ∷ ranges) = if nat_le n range.1 then nat_le range.0 n else is_among n ranges

-- None, for marks and format characters; two, for East Asian Width W and F; one, for all others.
unfoldable pub columns : ℕ → ℕ
columns c = if is_among c no_column then 0 else if is_among c two_columns then 2 else 1

-- what a table has for a character: the index leads to the group of each 1,024, the group to the word of each 32, and
-- the word has them by two bits each
abbrev pub entry : List ℕ → List (List ℕ) → List ℕ → ℕ → ℕ
entry index groups words n =
    slice_index_or words
    (slice_index_or (slice_index_or groups (slice_index_or index (n / 1024) 0) []) (n % 1024 / 32) 0) 0
    / 2 ^ (n % 32 * 2) % 4

-- a table that has the columns of each character
pub record IsTable (index : List ℕ) (groups : List (List ℕ)) (words : List ℕ) : Type 0 where
  pub indexed : (n : ℕ) → n < 0x11_0000 → n / 1024 < length index
  pub grouped : (n : ℕ) → n < 0x11_0000 → slice_index_or index (n / 1024) 0 < length groups
  pub there : (n : ℕ) → n < 0x11_0000
      → slice_index_or (slice_index_or groups (slice_index_or index (n / 1024) 0) []) (n % 1024 / 32) 0 < length words
  pub right : (n : ℕ) → n < 0x11_0000 → entry index groups words n ≡ columns n
