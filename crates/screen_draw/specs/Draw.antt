-- The calls that draw a screen: what must lead any screen of its size to show it.
--
-- Sources: xterm's ctlseqs, and the VT510 manual (RIS, DECSC, DECRC, DECOM, DECSTBM, DECAWM, DECTCEM);
-- ECMA-48, 8.3 (CUP, CHA, ECH, ED, HTS, TBC, IRM); ISO 2022 for SI, SO and the designation of sets.
use Rattle.std.specs.Prelude.{ℕ, suc, ◌+◌, ◌-◌, ◌/◌, ◌%◌, min, Bool, true, false, ◌&&◌, not, ◌==◌, List, [], ◌∷◌, ◌++◌, map, Option, None, Some, if◌then◌else◌}
use Rattle.anstyle_parse.specs.Stream.Call.{Call, print, execute, csi_dispatch, esc_dispatch}
use Rattle.ansi_style.specs.declared.style.Style.{Style}
use Rattle.ansi_style.specs.Style.{plain, are_equal}
use Rattle.ansi_style.specs.Codes.{one, codes_of, selection}
use Rattle.ansi_screen.specs.declared.cell.Cell.{Cell}
use Rattle.ansi_screen.specs.declared.cell.Marks.{Marks}
use Rattle.ansi_screen.specs.declared.cell.Marks.TheVariants.{Unmarked, One, Two}
use Rattle.ansi_screen.specs.declared.cell.Part.{Part}
use Rattle.ansi_screen.specs.declared.cell.Part.TheVariants.{Empty}
use Rattle.ansi_screen.specs.declared.place.Charsets.{Charsets}
use Rattle.ansi_screen.specs.declared.place.Place.{Place}
use Rattle.ansi_screen.specs.Cells.{blank, is_right, cell_at}
use Rattle.ansi_screen.specs.Display.{Display, letters, row_end}
use Rattle.ansi_screen.specs.Text.{is_unmarked}
use Rattle.ansi_screen.specs.Widths.{is_shown}
use Rattle.screen_draw.specs.declared.cells.Pen.{Pen}

-- ESC and a final byte; CSI, numbers and a final byte; a mode, set by h or reset by l
abbrev pub escape : ℕ → Call
escape final = esc_dispatch [] false final

abbrev pub sequence : List ℕ → ℕ → Call
sequence numbers final = csi_dispatch (map one numbers) [] false final

abbrev pub set_or_reset : Bool → ℕ
set_or_reset on = if on then 0x68 else 0x6C

abbrev pub private_mode : ℕ → Bool → Call
private_mode mode on = csi_dispatch (one mode ∷ []) (0x3F ∷ []) false (set_or_reset on)

-- CUP; rows and columns count from 0 here, and from 1 there
abbrev pub position : ℕ → ℕ → Call
position row column = sequence ((row + 1) ∷ (column + 1) ∷ []) 0x48

-- from whatever style to this one
abbrev pub select : Style → Call
select style = selection (codes_of style)

-- G0 and G1, line drawing by 0 or letters by B; and which is used, by SO or SI
abbrev pub charset_final : Bool → ℕ
charset_final draws = if draws then 0x30 else 0x42

abbrev pub charsets_calls : Charsets → List Call
charsets_calls sets =
    esc_dispatch (0x28 ∷ []) false (charset_final sets.g0_draws)
    ∷ esc_dispatch (0x29 ∷ []) false (charset_final sets.g1_draws)
    ∷ execute (if sets.uses_g1 then 0x0E else 0x0F) ∷ []

-- What no stream leads to, a character that shows nothing, is drawn as a space.
unfoldable pub drawn_character : ℕ → ℕ
drawn_character c = if is_shown c then c else 0x20

abbrev pub marks_calls : Marks → List Call
marks_calls Unmarked = []
marks_calls (One first) = print (drawn_character first) ∷ []
marks_calls (Two first second) = print (drawn_character first) ∷ print (drawn_character second) ∷ []

-- a cell's character, and its marks
abbrev pub character_calls : Cell → List Call
character_calls cell = print (drawn_character cell.character) ∷ marks_calls cell.marks

abbrev pub is_empty : Part → Bool
is_empty Empty = true
is_empty part = false

-- a cell as erasing leaves it, in some background; one as on a new screen
unfoldable pub is_erased : Cell → Bool
is_erased cell = is_empty cell.part && is_unmarked cell.marks && are_equal cell.style (blank cell.style).style

unfoldable pub is_fresh : Cell → Bool
is_fresh cell = is_erased cell && are_equal cell.style plain

-- A pen is the style that is selected, and whether the cursor stands where the next cell is drawn. A new
-- one is plain, and stands elsewhere.
abbrev pub first_pen : Pen
first_pen = record { is_there = false; style = plain }

-- the pen after a cell; ECH leaves the cursor where it is
unfoldable pub pen_behind : Cell → Pen → Pen
pen_behind cell pen =
    if is_fresh cell then record pen { is_there = false }
    else if is_right cell.part then pen
    else record { is_there = not (is_erased cell); style = cell.style }

-- SGR, where the style is another
abbrev pub style_calls : Style → Style → List Call
style_calls selected wanted = if are_equal selected wanted then [] else select wanted ∷ []

-- CUP, where the cursor stands elsewhere; in the first column always
abbrev pub there_calls : ℕ → ℕ → Pen → List Call
there_calls width place pen =
    if pen.is_there && not (place % width == 0) then [] else position (place / width) (place % width) ∷ []

-- ECH, or the character
abbrev pub shown_calls : Cell → List Call
shown_calls cell = if is_erased cell then sequence (1 ∷ []) 0x58 ∷ [] else character_calls cell

-- there, in its style, the cell
abbrev pub place_cell_calls : ℕ → ℕ → Pen → Cell → List Call
place_cell_calls width place pen cell =
    there_calls width place pen ++ (style_calls pen.style cell.style ++ shown_calls cell)

-- A cell at a place of a new screen: a right half comes with its left one.
unfoldable pub cell_calls : ℕ → ℕ → Pen → Cell → List Call
cell_calls width place pen cell =
    if is_fresh cell then []
    else if is_right cell.part then []
    else place_cell_calls width place pen cell

-- cells, from a place on
abbrev pub cells_calls : ℕ → ℕ → Pen → List Cell → List Call
cells_calls width place pen [] = []
cells_calls width place pen (cell ∷ cells) =
    cell_calls width place pen cell ++ cells_calls width (suc place) (pen_behind cell pen) cells

-- the pen after them
abbrev pub pen_after : Pen → List Cell → Pen
pen_after pen [] = pen
pen_after pen (cell ∷ cells) = pen_after (pen_behind cell pen) cells

-- what is printed last, so that a wrap is pending
abbrev pub wrap_calls : Option Cell → List Call
wrap_calls None = []
wrap_calls (Some cell) = select cell.style ∷ character_calls cell

-- To a place, whose row is counted from another in origin mode: DECOM, CUP, what is printed from this column
-- on, sets and style.
abbrev pub place_calls : ℕ → ℕ → Option Cell → Place → List Call
place_calls top column last place =
    (private_mode 6 place.is_relative
    ∷ position (place.row - (if place.is_relative then top else 0)) column ∷ [])
    ++ (wrap_calls last ++ (charsets_calls place.charsets ++ select place.style ∷ []))

-- out of origin mode, letters, plain
abbrev pub plain_calls : List Call
plain_calls = private_mode 6 false ∷ (charsets_calls letters ++ select plain ∷ [])

-- a space, where a wrap is pending
abbrev pub space_if : Bool → Option Cell
space_if pending = if pending then Some (blank plain) else None

-- What a screen has saved, and then its cells: DECSC, and ED for the space that may have been printed.
abbrev pub saved_calls : ℕ → Place → List Call
saved_calls width saved =
    plain_calls
    ++ (place_calls 0 (min saved.column (width - 1)) (space_if (saved.column == width)) saved ++ escape 0x37 ∷ [])

abbrev pub screen_calls : ℕ → Place → List Cell → List Call
screen_calls width saved cells =
    saved_calls width saved
    ++ (plain_calls ++ (sequence (2 ∷ []) 0x4A ∷ [] ++ cells_calls width 0 first_pen cells))

-- What the alternate screen covers: the main one, with the place that is saved, to which DECRC goes and which
-- 1049 saves.
abbrev pub covered_calls : Display → List Call
covered_calls d =
    if d.is_alternate then screen_calls d.width d.hidden_saved d.hidden ++ (escape 0x38 ∷ private_mode 1049 true ∷ [])
    else []

-- Tabs where they differ from a new screen's, which stop in each eighth column: CHA, and HTS or TBC.
abbrev pub stop_calls : ℕ → Bool → List Call
stop_calls column true = if column % 8 == 0 then [] else sequence ((column + 1) ∷ []) 0x47 ∷ escape 0x48 ∷ []
stop_calls column false =
    if column % 8 == 0 then sequence ((column + 1) ∷ []) 0x47 ∷ sequence (0 ∷ []) 0x67 ∷ [] else []

abbrev pub stops_calls : ℕ → List Bool → List Call
stops_calls column [] = []
stops_calls column (stops ∷ others) = stop_calls column stops ++ stops_calls (suc column) others

-- the last character of the cursor's row, and the column where it stands
abbrev pub is_last_wide : Display → Bool
is_last_wide d = is_right (cell_at (row_end d - 1) d.cells).part

abbrev pub last_cell : Display → Cell
last_cell d = if is_last_wide d then cell_at (row_end d - 2) d.cells else cell_at (row_end d - 1) d.cells

abbrev pub last_column : Display → ℕ
last_column d = if is_last_wide d then d.width - 2 else d.width - 1

-- The cursor; where a wrap is pending, the last character of its row once more.
abbrev pub cursor_calls : Display → List Call
cursor_calls d =
    if d.cursor.column == d.width then place_calls d.top (last_column d) (Some (last_cell d)) d.cursor
    else place_calls d.top d.cursor.column None d.cursor

-- DECAWM, IRM, DECTCEM
abbrev pub modes_calls : Display → List Call
modes_calls d =
    private_mode 7 d.wraps ∷ sequence (4 ∷ []) (set_or_reset d.inserts) ∷ private_mode 25 d.is_visible ∷ []

-- DECSTBM; rows count from 0 here, and from 1 there
abbrev pub margins_calls : Display → List Call
margins_calls d = sequence ((d.top + 1) ∷ d.bottom ∷ []) 0x72 ∷ []

-- After the cells: tabs, DECSTBM, the cursor, modes.
abbrev pub rest_calls : Display → List Call
rest_calls d =
    plain_calls
    ++ (stops_calls 0 d.tabs ++ (margins_calls d ++ (cursor_calls d ++ modes_calls d)))

-- all of it, on a new screen
abbrev pub shown_screen_calls : Display → List Call
shown_screen_calls d = covered_calls d ++ (screen_calls d.width d.saved d.cells ++ rest_calls d)

-- RIS, and all of it
abbrev pub drawn_calls : Display → List Call
drawn_calls d = escape 0x63 ∷ shown_screen_calls d
