-- The size of the terminal of which script(1) made a recording: the first line of the recording says it.
--
-- Source: util-linux, term-utils/script.c, `log_start`: the first line ends with ` COLUMNS="%d" LINES="%d"]` where
-- script stands on a terminal, after words in the user's language, and else it says no size.
use Rattle.std.specs.Prelude.{◌≡◌, ℕ, zero, suc, ◌+◌, ◌-◌, ◌*◌, ◌==◌, ◌&&◌, ◌||◌, not, nat_le, nat_eq, Bool, true, List, [], ◌∷◌, ◌++◌, length, take, drop, codes, Option, None, Some, ⊤, if◌then◌else◌}
use Rattle.std.specs.List.{starts_with, list_any}
use Rattle.std.specs.Option.{option_or, unwrap_or}
use Rattle.ansi_screen.specs.declared.size.Size.{Size}
use Rattle.ansi_screen.specs.After.{State, new_state}
use Rattle.ansi_screen.specs.Display.{most_columns}
use Rattle.ansi_screen.specs.Size.{size_if_taken, IsNumber, IsTaken}
use Rattle.screen_text.specs.declared.recording.ShownSize.{ShownSize}
use Rattle.screen_text.specs.declared.recording.ShownSize.TheVariants.{Recorded, Fixed}

-- no more of a stream is looked at for the size
abbrev pub most_front : ℕ
most_front = 4096

-- the bytes up to the first line feed
abbrev pub first_line : List ℕ → List ℕ
first_line [] = []
first_line (b ∷ bytes) = if b == 0x0A then [] else b ∷ first_line bytes

-- what follows a text that stands at the front
unfoldable pub after_text : (text bytes : List ℕ) → Option (List ℕ)
after_text text bytes = if starts_with nat_eq bytes text then Some (drop (length text) bytes) else None

-- The number that digits at the front say in decimal, and what follows them. A number past the limits of a screen is
-- not read on: what follows is then a digit, which no size has there.
abbrev pub is_digit_of : (number b : ℕ) → Bool
is_digit_of number b = nat_le 0x30 b && nat_le b 0x39 && nat_le number most_columns

abbrev pub number_from : ℕ → List ℕ → ℕ
number_from number [] = number
number_from number (b ∷ bytes) = if is_digit_of number b then number_from (number * 10 + (b - 0x30)) bytes else number

abbrev pub after_number : ℕ → List ℕ → List ℕ
after_number number [] = []
after_number number (b ∷ bytes) =
    if is_digit_of number b then after_number (number * 10 + (b - 0x30)) bytes else b ∷ bytes

-- this size, where a screen can have it, and where nothing follows
abbrev pub size_of_all : (columns rows : ℕ) → Option (List ℕ) → Option Size
size_of_all columns rows (Some []) = size_if_taken columns rows
size_of_all columns rows _ = None

-- the size that ` COLUMNS="120" LINES="40"]` says, if that is all
abbrev pub size_by_rows : (columns : ℕ) → Option (List ℕ) → Option Size
size_by_rows columns None = None
size_by_rows columns (Some bytes) =
    size_of_all columns (number_from 0 bytes) (after_text (codes "\"]") (after_number 0 bytes))

abbrev pub size_by_columns : Option (List ℕ) → Option Size
size_by_columns None = None
size_by_columns (Some bytes) =
    size_by_rows (number_from 0 bytes) (after_text (codes "\" LINES=\"") (after_number 0 bytes))

unfoldable pub size_of_end : List ℕ → Option Size
size_of_end bytes = size_by_columns (after_text (codes " COLUMNS=\"") bytes)

-- the size that the end of a line says
abbrev pub size_of_line : List ℕ → Option Size
size_of_line [] = None
size_of_line (b ∷ bytes) = option_or (size_of_end (b ∷ bytes)) (size_of_line bytes)

-- the size that a stream says in its first line
abbrev pub recorded_size : List ℕ → Option Size
recorded_size bytes = size_of_line (first_line (take most_front bytes))

-- What comes after the first line and its line feed; of a longer line what comes after so many bytes.
abbrev pub after_line : (most : ℕ) → List ℕ → List ℕ
after_line zero bytes = bytes
after_line (suc most) [] = []
after_line (suc most) (b ∷ bytes) = if b == 0x0A then bytes else after_line most bytes

-- What the terminal of a stream was given: where the first line says its size, which script(1) wrote, what comes after
-- that line, and else all.
abbrev pub given_after : Option Size → List ℕ → List ℕ
given_after None bytes = bytes
given_after (Some size) bytes = after_line most_front bytes

abbrev pub without_line : List ℕ → List ℕ
without_line bytes = given_after (recorded_size bytes) bytes

-- 1,000 columns and 100 rows, of what does not say on what terminal it was: most logs never were on one
abbrev pub of_a_log : Size
of_a_log = record { columns = 1000; rows = 100 }

-- the size of the screen that shows a stream
abbrev pub size_for : ShownSize → List ℕ → Size
size_for Recorded bytes = unwrap_or (recorded_size bytes) of_a_log
size_for (Fixed size) bytes = size

-- whether bytes at the front of a stream decide it, whatever comes after them
abbrev pub is_decided : ShownSize → List ℕ → Bool
is_decided Recorded front = nat_le most_front (length front) || list_any (λ b. b == 0x0A) front
is_decided (Fixed size) front = true

-- the screen that shows a stream of these bytes, before them
abbrev pub screen_for : ShownSize → (read : List ℕ) → State
screen_for shown read = new_state (size_for shown read).columns (size_for shown read).rows

-- A screen can have the size, where one is given.
abbrev pub CanBeShown : ShownSize → Type 0
CanBeShown shown = (size : Size) → shown ≡ Fixed size → IsTaken size

-- What is said of it in the words of script.c: a line says a size where it ends with these numbers, in decimal.
abbrev pub size_text : (columns rows : List ℕ) → List ℕ
size_text columns rows = codes " COLUMNS=\"" ++ (columns ++ (codes "\" LINES=\"" ++ (rows ++ codes "\"]")))

pub record SaysSize (line : List ℕ) (size : Size) : Type 0 where
  pub words : List ℕ
  pub columns : List ℕ
  pub rows : List ℕ
  pub whole : line ≡ words ++ size_text columns rows
  pub columns_are : IsNumber columns size.columns
  pub rows_are : IsNumber rows size.rows

-- a byte of a line, and what comes after one
abbrev pub is_of_line : ℕ → Bool
is_of_line b = not (b == 0x0A)

abbrev pub IsAtLineEnd : List ℕ → Type 0
IsAtLineEnd [] = ⊤
IsAtLineEnd (b ∷ bytes) = b ≡ 0x0A
