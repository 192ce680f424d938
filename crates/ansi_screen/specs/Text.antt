-- What a display shows as text: its rows, without blanks at their ends and without blank rows
-- at the end.
use Rattle.std.specs.Prelude.{ℕ, zero, suc, ◌-◌, Bool, true, false, ◌&&◌, not, ◌==◌, List, [], ◌∷◌, ◌++◌, length, take, encode_utf8, if◌then◌else◌}
use Rattle.std.specs.List.{flat_map}
use Rattle.ansi_screen.specs.declared.cell.Cell.{Cell}
use Rattle.ansi_screen.specs.declared.cell.Marks.{Marks}
use Rattle.ansi_screen.specs.declared.cell.Marks.TheVariants.{Unmarked, One, Two}
use Rattle.ansi_screen.specs.declared.cell.Part.{Part}
use Rattle.ansi_screen.specs.declared.cell.Part.TheVariants.{Empty}
use Rattle.ansi_screen.specs.declared.text.LeftOut.{LeftOut}
use Rattle.ansi_screen.specs.declared.text.LeftOut.TheVariants.{Blanks, Unprinted}
use Rattle.ansi_screen.specs.Cells.{is_right, cell_at, rows_of}
use Rattle.ansi_screen.specs.Display.{Display, row_cells}

-- the characters of no column that came after a cell's own
abbrev pub marks_text : Marks → List ℕ
marks_text Unmarked = []
marks_text (One first) = encode_utf8 first
marks_text (Two first second) = encode_utf8 first ++ encode_utf8 second

abbrev pub is_unmarked : Marks → Bool
is_unmarked Unmarked = true
is_unmarked (One first) = false
is_unmarked (Two first second) = false

-- a space without marks, in whatever style
unfoldable pub is_blank : Cell → Bool
is_blank cell = cell.character == 0x20 && not (is_right cell.part) && is_unmarked cell.marks

abbrev pub is_empty : Part → Bool
is_empty Empty = true
is_empty part = false

-- a cell where nothing was printed, or what was is erased
unfoldable pub is_unprinted : Cell → Bool
is_unprinted cell = is_empty cell.part && is_unmarked cell.marks

-- the test for what is left out at the end of a row
abbrev pub left_out : LeftOut → Cell → Bool
left_out Blanks = is_blank
left_out Unprinted = is_unprinted

-- whether a row and the next are one line: its last cell says so
abbrev pub goes_on : List Cell → Bool
goes_on row = (cell_at (length row - 1) row).goes_on

-- how many cells come up to the last that is none of those which a test names, and with it
abbrev pub used : (Cell → Bool) → List Cell → ℕ
used is_left_out [] = 0
used is_left_out (cell ∷ cells) =
    if used is_left_out cells == 0 && is_left_out cell then 0 else suc (used is_left_out cells)

-- a cell's character and its marks; the right half of a wide one has none
unfoldable pub cell_text : Cell → List ℕ
cell_text cell = if is_right cell.part then [] else encode_utf8 cell.character ++ marks_text cell.marks

-- a row, without the blanks at its end
abbrev pub row_text : List Cell → List ℕ
row_text cells = flat_map cell_text (take (used is_blank cells) cells)

-- of so many rows, how many come up to the last that has others than those, and with it
abbrev pub used_rows : (Cell → Bool) → ℕ → Display → ℕ
used_rows is_left_out zero d = 0
used_rows is_left_out (suc row) d =
    if used is_left_out (row_cells row d) == 0 then used_rows is_left_out row d else suc row

-- so many rows, each with a line feed
abbrev pub rows_text : ℕ → Display → List ℕ
rows_text zero d = []
rows_text (suc row) d = rows_text row d ++ (row_text (row_cells row d) ++ 0x0A ∷ [])

-- the text of the display
abbrev pub text_of : Display → List ℕ
text_of d = rows_text (used_rows is_blank d.height d) d

-- so many rows, from the first on; and those up to the last in which something was printed, and how many these are
abbrev pub first_rows : ℕ → Display → List (List Cell)
first_rows n d = rows_of n d.width d.cells

abbrev pub printed_count : Display → ℕ
printed_count d = used_rows is_unprinted d.height d

abbrev pub printed_rows : Display → List (List Cell)
printed_rows d = first_rows (printed_count d) d
