-- What the laws speak of.
use Rattle.std.specs.Prelude.{◌≡◌, ◌≢◌, ⊤, ◌⊎◌, ℕ, true, false, List, [], ◌∷◌, ◌++◌, replicate, encode_utf8}
use Rattle.std.specs.List.{AllByRecursion, flat_map}
use Rattle.anstyle_parse.specs.Stream.Call.{Call, csi_dispatch}
use Rattle.anstyle_parse.specs.Laws.Lawful.{is_character}
use Rattle.ansi_screen.specs.Widths.{is_shown, columns}

-- The most bytes of a cell: those of a character and of two marks, each of four bytes at most in UTF-8.
abbrev pub most_cell_bytes : ℕ
most_cell_bytes = 12

-- it is empty, or its last byte is a line feed
abbrev pub IsEnded : List ℕ → Type 0
IsEnded text = (text ≡ []) ⊎ ((front : List ℕ) × (text ≡ front ++ 0x0A ∷ []))

-- its last line is empty
abbrev pub HasEmptyEnd : List ℕ → Type 0
HasEmptyEnd text = (text ≡ 0x0A ∷ []) ⊎ ((front : List ℕ) × (text ≡ front ++ 0x0A ∷ 0x0A ∷ []))

-- a character that is shown in one column or in two; lines of them
abbrev pub IsPlain : ℕ → Type 0
IsPlain c = (is_character c ≡ true) × (is_shown c ≡ true) × (columns c ≢ 0)

abbrev pub ArePlain : List (List ℕ) → Type 0
ArePlain lines = AllByRecursion (AllByRecursion IsPlain) lines

-- the last of the lines, if there is one, is not empty
abbrev pub LastIsNotEmpty : List (List ℕ) → Type 0
LastIsNotEmpty [] = ⊤
LastIsNotEmpty (line ∷ []) = line ≢ []
LastIsNotEmpty (line ∷ next ∷ lines) = LastIsNotEmpty (next ∷ lines)

-- the bytes of lines: UTF-8, each with a line feed
abbrev pub line_bytes : List ℕ → List ℕ
line_bytes line = flat_map encode_utf8 line ++ 0x0A ∷ []

abbrev pub lines_bytes : List (List ℕ) → List ℕ
lines_bytes lines = flat_map line_bytes lines

-- the same after a terminal's line, which puts a carriage return before each line feed
abbrev pub recorded_line : List ℕ → List ℕ
recorded_line line = flat_map encode_utf8 line ++ 0x0D ∷ 0x0A ∷ []

abbrev pub recorded_bytes : List (List ℕ) → List ℕ
recorded_bytes lines = flat_map recorded_line lines

-- so many empty lines
abbrev pub empty_lines : ℕ → List (List ℕ)
empty_lines n = replicate n []

-- EL as ESC [ 2 K makes it
abbrev pub erase_line : Call
erase_line = csi_dispatch ((2 ∷ []) ∷ []) [] false 0x4B

-- a line that does not end with a space, which a screen's text leaves out
abbrev pub HasNoBlankEnd : List ℕ → Type 0
HasNoBlankEnd [] = ⊤
HasNoBlankEnd (c ∷ []) = c ≢ 0x20
HasNoBlankEnd (c ∷ next ∷ line) = HasNoBlankEnd (next ∷ line)
