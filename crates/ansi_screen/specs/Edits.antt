-- Edits of cells: each is a row of this table, over the one form of `Cells`.
--
-- Rows leave the main screen where they move up past its first row, and where all of it is taken away (ED 2, ED 0 at its
-- first cell, RIS), up to the last in which something was printed. None leaves by DL or another ED, nor from the alternate
-- screen.
--
-- Sources: xterm's ctlseqs; ECMA-48, 8.3 (ED, EL, ECH, ICH, DCH, IL, DL, SU, SD); for IND, RI, RIS
-- and DECSTBM the VT510 manual. For rows that leave: xterm(1), "-sl" (lines scrolled off the top of the window are saved);
-- its ctlseqs, 1049 (nothing of the alternate screen is saved). Before ED 2 and RIS tmux saves the rows up to the last
-- that is used (`grid_view_clear_history`), and before ED 0 at the first cell too (`screen_write_clearendofscreen`), as `clear`
-- erases where a terminal's description has no ED 2; before ED 2 VTE does so (`clear_screen`); xterm does not.
use Rattle.std.specs.Prelude.{ℕ, ◌+◌, ◌-◌, ◌*◌, min, Bool, true, false, ◌&&◌, ◌||◌, not, ◌==◌, nat_lt, nat_le, List, [], length, if◌then◌else◌}
use Rattle.ansi_screen.specs.declared.cell.Cell.{Cell}
use Rattle.ansi_screen.specs.Cells.{blank, cell_at, going_on, within, change, erased, moved_back, moved_on, deleted, inserted}
use Rattle.ansi_screen.specs.Display.{Display, fresh, here, row_start, row_end}
use Rattle.ansi_screen.specs.State.{Step, stays}
use Rattle.ansi_screen.specs.Moves.{to_row, to_column}
use Rattle.ansi_screen.specs.Text.{first_rows, printed_rows}

abbrev pub with_cells : List Cell → Display → Display
with_cells cells d = record d { cells = cells }

-- what stands where something was erased or moved away
abbrev pub space : Display → Cell
space d = blank d.cursor.style

-- from a place up to another: erased
abbrev pub erased_cells : ℕ → ℕ → Display → Display
erased_cells start end d = with_cells (change start end (erased (space d)) d.cells) d

-- ED and EL: 0 from the cursor on, 1 up to the cursor and with it, 2 all
unfoldable pub erased_part : ℕ → ℕ → ℕ → Display → Display
erased_part kind start end d =
    if kind == 0 then erased_cells (here d) end d
    else if kind == 1 then erased_cells start (here d + 1) d
    else erased_cells start end d

-- Where the first cell of the cursor's row is erased, the row above no longer goes on in it: so tmux has it, where all
-- of the row is.
abbrev pub row_above_ended : Bool → Display → Display
row_above_ended is_begun_anew d =
    with_cells (if is_begun_anew && nat_lt 0 d.cursor.row then going_on false (row_start d) d.cells else d.cells) d

-- whether ED erases this cell and leaves the row above, and whether EL erases this cell
unfoldable pub erases_from_row : ℕ → Display → Bool
erases_from_row kind d = kind == 0 && d.cursor.column == 0

unfoldable pub erases_first : ℕ → Display → Bool
erases_first kind d = if kind == 0 then d.cursor.column == 0 else true

-- whether ED erases all of the screen: 2, and 0 from its first cell on
unfoldable pub erases_all : ℕ → Display → Bool
erases_all kind d = kind == 2 || (kind == 0 && (d.cursor.row == 0 && d.cursor.column == 0))

-- Where ED takes away all of the main screen, its rows leave.
unfoldable pub left_by_erase : ℕ → Display → List (List Cell)
left_by_erase kind d = if erases_all kind d && not d.is_alternate then printed_rows d else []

unfoldable pub erased_display : ℕ → Display → Step
erased_display kind d = record {
  display = erased_part kind 0 (length d.cells) (row_above_ended (erases_from_row kind d) d);
  left = left_by_erase kind d;
}

unfoldable pub erased_line : ℕ → Display → Display
erased_line kind d = erased_part kind (row_start d) (row_end d) (row_above_ended (erases_first kind d) d)

-- ECH
unfoldable pub erased_characters : ℕ → Display → Display
erased_characters n d = erased_cells (here d) (min (row_end d) (here d + n)) d

-- whether the cursor's row goes on in the next row
abbrev pub row_goes_on : Display → Bool
row_goes_on d = (cell_at (row_end d - 1) d.cells).goes_on

-- the cursor's row goes on in the next row, or does not
abbrev pub row_going_on : Bool → Display → Display
row_going_on on d = with_cells (going_on on (row_end d) d.cells) d

-- DCH, ICH: within the cursor's row, which then ends where it ends
unfoldable pub deleted_characters : ℕ → Display → Display
deleted_characters n d =
    let cells = going_on false (row_end d) d.cells in
    with_cells (deleted n (here d) (row_end d) (space d) cells) d

unfoldable pub inserted_characters : ℕ → Display → Display
inserted_characters n d =
    let cells = going_on false (row_end d) d.cells in
    with_cells (inserted n (here d) (row_end d) (space d) cells) d

-- the rows from one up to another move up, or down, by n
unfoldable pub rows_up : ℕ → ℕ → ℕ → Display → Display
rows_up n first last d =
    with_cells (within (first * d.width) (last * d.width) (moved_back (n * d.width) (space d)) d.cells) d

unfoldable pub rows_down : ℕ → ℕ → ℕ → Display → Display
rows_down n first last d =
    with_cells (within (first * d.width) (last * d.width) (moved_on (n * d.width) (space d)) d.cells) d

-- of n rows that scroll up within the margins those at the top of the main screen leave
unfoldable pub left_by_scroll : ℕ → Display → List (List Cell)
left_by_scroll n d = if d.top == 0 && not d.is_alternate then first_rows (min n d.bottom) d else []

-- SU, SD: what is within the margins scrolls
abbrev pub scrolled_up : ℕ → Display → Step
scrolled_up n d = record { display = rows_up n d.top d.bottom d; left = left_by_scroll n d }

abbrev pub scrolled_down : ℕ → Display → Display
scrolled_down n d = rows_down n d.top d.bottom d

-- IL, DL: within the margins the rows from the cursor's on; the cursor goes to the first column
abbrev pub is_in_margins : Display → Bool
is_in_margins d = nat_le d.top d.cursor.row && nat_lt d.cursor.row d.bottom

unfoldable pub inserted_lines : ℕ → Display → Display
inserted_lines n d = if is_in_margins d then to_column 0 (rows_down n d.cursor.row d.bottom d) else d

unfoldable pub deleted_lines : ℕ → Display → Display
deleted_lines n d = if is_in_margins d then to_column 0 (rows_up n d.cursor.row d.bottom d) else d

-- IND: a row down; at the lower margin all scrolls up instead. RI: the same upwards.
unfoldable pub index : Display → Step
index d = if d.cursor.row + 1 == d.bottom then scrolled_up 1 d else stays (to_row (d.cursor.row + 1)) d

unfoldable pub reverse_index : Display → Display
reverse_index d = if d.cursor.row == d.top then scrolled_down 1 d else to_row (d.cursor.row - 1) d

-- the display with the main and the alternate screen in each other's place; and the main screen, where it is hidden
abbrev pub swapped : Display → Display
swapped d = record d { cells = d.hidden; hidden = d.cells }

abbrev pub main_screen : Display → Display
main_screen d = if d.is_alternate then swapped d else d

-- RIS: each display is a new one; all of the main screen is taken away, also where it is hidden.
abbrev pub renewed : Display → Step
renewed d = record { display = fresh d.width d.height; left = printed_rows (main_screen d) }
