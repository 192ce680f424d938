-- How many bytes a drawing and an update have at most, and how many calls an update.
use Rattle.std.specs.Prelude.{ℕ, zero, suc, ◌+◌, ◌*◌, List, ◌∷◌, length, if◌then◌else◌}
use Rattle.ansi_screen.specs.declared.cell.Cell.{Cell}
use Rattle.ansi_screen.specs.Display.{Display, row_cells}
use Rattle.screen_draw.specs.Alike.{are_alike}

-- for each cell: CUP of 14 bytes, SGR of 194 for 32 fields, and a character with two marks, each of 4
abbrev pub cell_bytes : ℕ
cell_bytes = 220

-- for each column: CHA of 8 bytes, and HTS or TBC of 8
abbrev pub column_bytes : ℕ
column_bytes = 16

-- for the rest of a drawing: styles, sets, places and modes of both screens
abbrev pub rest_bytes : ℕ
rest_bytes = 2413

-- for what leads to a screen that is as new
abbrev pub cleared_bytes : ℕ
cleared_bytes = 473

-- the screen, and what the alternate screen covers
abbrev pub draw_bound : Display → ℕ
draw_bound d = cell_bytes * (length d.cells + length d.hidden) + column_bytes * length d.tabs + rest_bytes

abbrev pub update_bound : Display → Display → ℕ
update_bound shown wanted = draw_bound wanted + column_bytes * length shown.tabs + cleared_bytes

-- how many cells of two rows are not alike
abbrev pub differing : List Cell → List Cell → ℕ
differing (old ∷ olds) (new ∷ news) = (if are_alike old new then 0 else 1) + differing olds news
differing olds news = 0

-- of so many rows of two screens, and of all
abbrev pub differing_rows : ℕ → Display → Display → ℕ
differing_rows zero shown wanted = 0
differing_rows (suc row) shown wanted =
    differing_rows row shown wanted + differing (row_cells row shown) (row_cells row wanted)

abbrev pub differing_cells : Display → Display → ℕ
differing_cells shown wanted = differing_rows wanted.height shown wanted

-- the calls of a cell at most: CUP, SGR, and a character with two marks
abbrev pub calls_of_cell : ℕ
calls_of_cell = 5

-- and those of the rest: DECSTBM, the cursor with what is printed once more where a wrap is pending, two modes
abbrev pub calls_of_rest : ℕ
calls_of_rest = 9
