-- The size of a screen, and the texts that say one.
use Rattle.std.specs.Prelude.{◌≡◌, ◌⊎◌, ℕ, ◌≤◌, ◌==◌, ◌&&◌, nat_le, List, Option, None, Some, MatchOption, if◌then◌else◌}
use Rattle.std.specs.List.{before_first, after_first}
use Rattle.std.specs.Str.Parse.{IsNumeral, digits_value}
use Rattle.ansi_screen.specs.declared.size.Size.{Size}
use Rattle.ansi_screen.specs.Display.{most_columns, most_rows}

-- a size that a screen can have; a wide character has room in each row
abbrev pub IsTaken : Size → Type 0
IsTaken size =
    (2 ≤ size.columns) × (size.columns ≤ most_columns) × (1 ≤ size.rows) × (size.rows ≤ most_rows)

-- so many columns and rows, where a screen can have them
abbrev pub size_if_taken : (columns rows : ℕ) → Option Size
size_if_taken columns rows =
    if nat_le 2 columns && nat_le columns most_columns && nat_le 1 rows && nat_le rows most_rows
    then Some (record { columns = columns; rows = rows }) else None

-- 80 columns and 24 rows: those of the VT100, and of terminals that are told nothing else
abbrev pub a_terminal : Size
a_terminal = record { columns = 80; rows = 24 }

-- a number in decimal: digits alone
abbrev pub IsNumber : List ℕ → ℕ → Type 0
IsNumber text n = IsNumeral 10 text × (n ≡ digits_value 10 text)

-- COLUMNSxROWS, also with an X: one number before the first such sign, and one after it
abbrev pub SaysBy : (sign : ℕ) → List ℕ → Size → Type 0
SaysBy sign text size =
    IsNumber (before_first (λ b. b == sign) text) size.columns × IsNumber (after_first (λ b. b == sign) text) size.rows

abbrev pub Says : List ℕ → Size → Type 0
Says text size = SaysBy 0x78 text size ⊎ SaysBy 0x58 text size

-- what is made of a text: the size that it says, where a screen can have it, and else nothing
abbrev pub IsSaidBy : (says : List ℕ → Size → Type 0) → List ℕ → Option Size → Type 0
IsSaidBy says text said =
    MatchOption said ((size : Size) → says text size → ¬ (IsTaken size)) (λ size. says text size × IsTaken size)

abbrev pub IsSaid : List ℕ → Option Size → Type 0
IsSaid text said = IsSaidBy Says text said

-- the size of a screen where a text may name it: with no text a terminal's
abbrev pub IsNamed : Option (List ℕ) → Option Size → Type 0
IsNamed None named = named ≡ Some a_terminal
IsNamed (Some text) named = IsSaid text named
