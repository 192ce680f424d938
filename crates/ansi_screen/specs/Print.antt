-- Printing a character.
--
-- Sources: xterm's ctlseqs (DECAWM, IRM, REP, "Designate G0 Character Set"); the VT510 manual,
-- "DECAWM"; for line drawing the VT220's "DEC Special Graphics", in Unicode's characters. Whether a row goes on is a flag
-- of the row in xterm (LINEWRAPPED) and tmux (GRID_LINE_WRAPPED): autowrap sets it, and no character that is printed
-- takes it away.
use Rattle.std.specs.Prelude.{ℕ, ◌+◌, ◌-◌, Bool, true, ◌==◌, nat_lt, nat_le, List, [], ◌∷◌, slice_index, if◌then◌else◌}
use Rattle.anstyle_parse.specs.Stream.Bytes.{is_within}
use Rattle.ansi_style.specs.declared.style.Style.{Style}
use Rattle.ansi_screen.specs.declared.cell.Cell.{Cell}
use Rattle.ansi_screen.specs.declared.cell.Part.TheVariants.{Whole, Left, Right}
use Rattle.ansi_screen.specs.declared.place.Charsets.{Charsets}
use Rattle.ansi_screen.specs.Cells.{printed_cell, change, marked_before}
use Rattle.ansi_screen.specs.Display.{Display, here}
use Rattle.ansi_screen.specs.State.{Step, stays, unchanged, and_then}
use Rattle.ansi_screen.specs.Moves.{to_column, settled}
use Rattle.ansi_screen.specs.Edits.{with_cells, row_goes_on, row_going_on, index, inserted_characters}
use Rattle.ansi_screen.specs.Widths.{is_shown, columns}

-- the cells of a character of one column, or of two, in a link or in none
abbrev pub glyph : ℕ → ℕ → Style → ℕ → List Cell
glyph n c style link =
    if n == 2 then printed_cell c style link Left ∷ printed_cell 0x20 style link Right ∷ []
    else printed_cell c style link Whole ∷ []

-- Where the row has no room for so many columns: with autowrap the cursor goes to the start of
-- the next row, in which this row goes on, and else to the last column.
unfoldable pub wrapped : ℕ → Display → Step
wrapped n d =
    if nat_lt d.width (d.cursor.column + n)
    then (if d.wraps then index (to_column 0 (row_going_on true d)) else stays settled d)
    else unchanged d

-- in insert mode the rest of the row makes room
unfoldable pub with_room : ℕ → Display → Display
with_room n d = if d.inserts then inserted_characters n d else d

-- cells of its own at the cursor, in its style and in the link in force; the cursor goes past them
unfoldable pub with_cells_of : ℕ → ℕ → Display → Display
with_cells_of n c d = record d {
  cells = change (here d) (here d + n) (λ run. glyph n c d.cursor.style d.link) d.cells;
  cursor = record d.cursor { column = d.cursor.column + n };
}

-- The character stands at the cursor, and its row goes on as before: also where its last cell is overwritten.
unfoldable pub with_glyph : ℕ → ℕ → Display → Display
with_glyph n c d = row_going_on (row_goes_on d) (with_cells_of n c d)

-- a wide character in the last column without autowrap has no room, and nothing is shown
unfoldable pub put : ℕ → ℕ → Display → Display
put n c d = if nat_lt d.width (d.cursor.column + n) then d else with_glyph n c (with_room n d)

-- What takes no column is a mark of the character before the cursor; in the first column it is lost.
unfoldable pub marked : ℕ → Display → Display
marked c d = if d.cursor.column == 0 then d else with_cells (marked_before c (here d) d.cells) d

unfoldable pub shown : ℕ → Display → Step
shown c d =
    if columns c == 0 then stays (marked c) d
    else and_then (put (columns c) c) (wrapped (columns c) d)

-- the line drawing set: what stands for 5F to 7E
abbrev pub line_drawing : List ℕ
line_drawing =
    0x20 ∷ 0x25C6 ∷ 0x2592 ∷ 0x2409 ∷ 0x240C ∷ 0x240D ∷ 0x240A ∷ 0xB0
    ∷ 0xB1 ∷ 0x2424 ∷ 0x240B ∷ 0x2518 ∷ 0x2510 ∷ 0x250C ∷ 0x2514 ∷ 0x253C
    ∷ 0x23BA ∷ 0x23BB ∷ 0x2500 ∷ 0x23BC ∷ 0x23BD ∷ 0x251C ∷ 0x2524 ∷ 0x2534
    ∷ 0x252C ∷ 0x2502 ∷ 0x2264 ∷ 0x2265 ∷ 0x3C0 ∷ 0x2260 ∷ 0xA3 ∷ 0xB7 ∷ []

unfoldable pub drawn : ℕ → ℕ
drawn c = if is_within 0x5F 0x7E c then slice_index line_drawing (c - 0x5F) else c

-- whether the set that is used is the line drawing set
abbrev pub draws : Charsets → Bool
draws sets = if sets.uses_g1 then sets.g1_draws else sets.g0_draws

-- A character of the stream. What has no glyph, as DEL, shows nothing.
unfoldable pub printed : ℕ → Display → Step
printed c d = if is_shown c then shown (if draws d.cursor.charsets then drawn c else c) d else unchanged d

-- each step of REP: the character again, where the row has room for it, so that no row leaves
unfoldable pub printed_again : ℕ → Display → Display
printed_again c d = if nat_le (d.cursor.column + columns c) d.width then (printed c d).display else d
