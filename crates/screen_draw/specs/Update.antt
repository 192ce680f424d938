-- The calls that lead a terminal from one screen that it shows to another, of the same size.
--
-- Sources: as of `Draw`.
use Rattle.std.specs.Prelude.{ℕ, zero, suc, ◌+◌, ◌-◌, ◌%◌, Bool, true, false, ◌&&◌, ◌||◌, not, ◌==◌, nat_lt, List, [], ◌∷◌, ◌++◌, Some, if◌then◌else◌}
use Rattle.std.specs.Bool.{beq}
use Rattle.anstyle_parse.specs.Stream.Call.{Call}
use Rattle.ansi_style.specs.Style.{are_equal}
use Rattle.ansi_style.specs.declared.style.Style.{Style}
use Rattle.ansi_screen.specs.declared.cell.Cell.{Cell}
use Rattle.ansi_screen.specs.declared.cell.Part.{Part}
use Rattle.ansi_screen.specs.declared.cell.Part.TheVariants.{Left}
use Rattle.ansi_screen.specs.declared.place.Place.{Place}
use Rattle.ansi_screen.specs.Cells.{is_right, cell_at}
use Rattle.ansi_screen.specs.Display.{Display, row_cells}
use Rattle.screen_draw.specs.declared.changes.Brush.{Brush}
use Rattle.screen_draw.specs.Alike.{are_alike, has_same_margins, looks_same, lacks_print, is_steady}
use Rattle.screen_draw.specs.Draw.{escape, sequence, private_mode, position, select, character_calls, is_erased, style_calls, wrap_calls, plain_calls, margins_calls, last_cell, last_column, shown_screen_calls}

-- CHA in the cursor's row, CUP to another, and nothing to where the cursor is
unfoldable pub move_calls : Place → ℕ → ℕ → List Call
move_calls place row column =
    if place.row == row
    then (if place.column == column then [] else sequence ((column + 1) ∷ []) 0x47 ∷ [])
    else position row column ∷ []

-- how many cells, from the first on, are erased ones of this style
abbrev pub erased_run : Style → List Cell → ℕ
erased_run style [] = 0
erased_run style (cell ∷ cells) =
    if is_erased cell && are_equal cell.style style then suc (erased_run style cells) else 0

-- How many columns are erased at once, of which the first is followed by old cells, and to be followed by others: its
-- own, those of the run, and the right half of an old wide character after them, since a terminal may keep it where
-- the left one is erased. What is to stand there is no right half, and so drawn next.
abbrev pub erased_columns : Style → List Cell → List Cell → ℕ
erased_columns style olds cells =
    if is_right (cell_at (erased_run style cells) olds).part
    then suc (suc (erased_run style cells))
    else suc (erased_run style cells)

-- ECH, or the character
abbrev pub painted_calls : Cell → List Cell → List Cell → List Call
painted_calls cell olds cells =
    if is_erased cell then sequence (erased_columns cell.style olds cells ∷ []) 0x58 ∷ [] else character_calls cell

-- A brush is the place where the cursor stands, with the style that is selected, and how many cells from here on
-- are erased already.
--
-- Nothing is drawn where the cell is erased already, in a right half, which comes with its left one, and where the
-- old cell is like the new one.
unfoldable pub is_done : Brush → Cell → Cell → Bool
is_done brush old new = nat_lt 0 brush.erased || (is_right new.part || are_alike old new)

-- a cell that differs: there, in its style
unfoldable pub change_calls : ℕ → ℕ → Brush → Cell → Cell → List Cell → List Cell → List Call
change_calls row column brush old new olds cells =
    if is_done brush old new then []
    else move_calls brush.place row column ++ (style_calls brush.place.style new.style ++ painted_calls new olds cells)

-- how many columns the cursor moves; ECH leaves it where it is
abbrev pub half_columns : Part → ℕ
half_columns Left = 2
half_columns part = 1

unfoldable pub brush_behind : ℕ → ℕ → Brush → Cell → Cell → List Cell → Brush
brush_behind row column brush old new cells =
    if is_done brush old new then record brush { erased = brush.erased - 1 }
    else if is_erased new then record {
      place = record brush.place { row = row; column = column; style = new.style };
      erased = erased_run new.style cells;
    }
    else record {
      place = record brush.place { row = row; column = column + half_columns new.part; style = new.style };
      erased = 0;
    }

-- a row, from a column on: the cells that differ
abbrev pub row_calls : ℕ → ℕ → Brush → List Cell → List Cell → List Call
row_calls row column brush (old ∷ olds) (new ∷ news) =
    change_calls row column brush old new olds news
    ++ row_calls row (suc column) (brush_behind row column brush old new news) olds news
row_calls row column brush olds news = []

abbrev pub brush_after : ℕ → ℕ → Brush → List Cell → List Cell → Brush
brush_after row column brush (old ∷ olds) (new ∷ news) =
    brush_after row (suc column) (brush_behind row column brush old new news) olds news
brush_after row column brush olds news = brush

-- the brush with which a row begins, and where the cursor, which began at a place, stands after so many rows
abbrev pub begun_at : Place → Brush
begun_at place = record { place = place; erased = 0 }

abbrev pub place_behind : ℕ → Place → Display → Display → Place
place_behind zero place shown wanted = place
place_behind (suc row) place shown wanted =
    (brush_after row 0 (begun_at (place_behind row place shown wanted)) (row_cells row shown)
    (row_cells row wanted)).place

-- so many rows
abbrev pub rows_calls : ℕ → Place → Display → Display → List Call
rows_calls zero place shown wanted = []
rows_calls (suc row) place shown wanted =
    rows_calls row place shown wanted
    ++ row_calls row 0 (begun_at (place_behind row place shown wanted)) (row_cells row shown) (row_cells row wanted)

-- The cursor goes where it is wanted. Where a wrap is to be pending and is not, the last character of the row
-- is printed once more.
unfoldable pub wants_wrap : Place → Display → Bool
wants_wrap place wanted =
    wanted.cursor.column == wanted.width
    && not (place.row == wanted.cursor.row && (place.column == wanted.cursor.column && not (lacks_print wanted)))

abbrev pub cursor_changes : Place → Display → List Call
cursor_changes place wanted =
    if wants_wrap place wanted
    then position wanted.cursor.row (last_column wanted)
    ∷ (wrap_calls (Some (last_cell wanted)) ++ select wanted.cursor.style ∷ [])
    else move_calls place wanted.cursor.row wanted.cursor.column ++ style_calls place.style wanted.cursor.style

-- DECAWM and DECTCEM, where they differ
abbrev pub mode_changes : ℕ → Bool → Bool → List Call
mode_changes mode old new = if beq old new then [] else private_mode mode new ∷ []

-- what differs in cells, cursor, DECAWM and DECTCEM, where the cursor stands at a place
abbrev pub changes_from : Place → Display → Display → List Call
changes_from place shown wanted =
    rows_calls wanted.height place shown wanted
    ++ (cursor_changes (place_behind wanted.height place shown wanted) wanted
    ++ (mode_changes 7 shown.wraps wanted.wraps ++ mode_changes 25 shown.is_visible wanted.is_visible))

-- DECSTBM, where the margins differ; it leads the cursor home.
abbrev pub margin_changes : Display → Display → List Call
margin_changes shown wanted = if has_same_margins shown wanted then [] else margins_calls wanted

abbrev pub place_at_first : Display → Display → Place
place_at_first shown wanted =
    if has_same_margins shown wanted then shown.cursor else record shown.cursor { row = 0; column = 0 }

-- all that differs
abbrev pub changes_calls : Display → Display → List Call
changes_calls shown wanted =
    margin_changes shown wanted ++ changes_from (place_at_first shown wanted) shown wanted

-- Tabs as on a new screen, in each eighth column: CHA, and HTS or TBC where they are not.
abbrev pub reset_stop_calls : ℕ → Bool → List Call
reset_stop_calls column true =
    if column % 8 == 0 then [] else sequence ((column + 1) ∷ []) 0x47 ∷ sequence (0 ∷ []) 0x67 ∷ []
reset_stop_calls column false = if column % 8 == 0 then sequence ((column + 1) ∷ []) 0x47 ∷ escape 0x48 ∷ [] else []

abbrev pub reset_stops_calls : ℕ → List Bool → List Call
reset_stops_calls column [] = []
reset_stops_calls column (stops ∷ others) = reset_stop_calls column stops ++ reset_stops_calls (suc column) others

-- All as on a new screen, without a reset: to the main screen, DECSTBM of all rows, IRM, DECAWM, DECTCEM, tabs;
-- home and plain that is saved, and ED.
abbrev pub leave_calls : Bool → List Call
leave_calls is_alternate = if is_alternate then private_mode 1049 false ∷ [] else []

abbrev pub reset_modes : List Call
reset_modes = sequence (0 ∷ []) 0x72 ∷ sequence (4 ∷ []) 0x6C ∷ private_mode 7 true ∷ private_mode 25 true ∷ []

abbrev pub cleared_calls : Display → List Call
cleared_calls shown =
    leave_calls shown.is_alternate
    ++ (reset_modes
    ++ (plain_calls ++ (reset_stops_calls 0 shown.tabs
    ++ (plain_calls ++ (sequence (2 ∷ []) 0x4A ∷ escape 0x37 ∷ [])))))

-- Where more than that differs all is drawn.
abbrev pub update_calls : Display → Display → List Call
update_calls shown wanted =
    if is_steady shown wanted then changes_calls shown wanted
    else if looks_same shown wanted then []
    else cleared_calls shown ++ shown_screen_calls wanted
