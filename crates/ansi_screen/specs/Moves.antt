-- Moves of the cursor, and tabs.
--
-- Sources: xterm's ctlseqs; ECMA-48, 8.3 (CUU, CUD, CUF, CUB, CNL, CPL, CHA, CUP, HVP, VPA, VPR,
-- HPA, HT, CHT, CBT, HTS, TBC); the VT510 manual, for margins and the origin mode.
use Rattle.std.specs.Prelude.{ℕ, zero, suc, ◌+◌, ◌-◌, min, max, Bool, true, false, ◌==◌, nat_lt, List, [], ◌∷◌, drop, replicate, slice_index_or, slice_set, length, if◌then◌else◌}
use Rattle.ansi_screen.specs.Display.{Display}

-- to a row and to a column, at most the last
abbrev pub to_row : ℕ → Display → Display
to_row row d = record d { cursor = record d.cursor { row = min row (d.height - 1) } }

abbrev pub to_column : ℕ → Display → Display
to_column column d = record d { cursor = record d.cursor { column = min column (d.width - 1) } }

-- a wrap is no more pending: the cursor stands in the last column
abbrev pub settled : Display → Display
settled d = to_column d.cursor.column d

-- CUU, CUD: up and down, and no further than the margin, unless the cursor is past it
abbrev pub up : ℕ → Display → Display
up n d = to_row (if nat_lt d.cursor.row d.top then d.cursor.row - n else max d.top (d.cursor.row - n)) d

abbrev pub down : ℕ → Display → Display
down n d = to_row (if nat_lt d.cursor.row d.bottom then min (d.cursor.row + n) (d.bottom - 1) else d.cursor.row + n) d

-- VPA, and the row of CUP and HVP: in origin mode counted from the upper margin, and no further
-- than the lower one
abbrev pub to_line : ℕ → Display → Display
to_line line d = to_row (if d.cursor.is_relative then min (d.top + line) (d.bottom - 1) else line) d

-- the cursor's line, counted as VPA counts; VPR goes so many lines forward, with no regard to the margins but in origin
-- mode
abbrev pub line_of : Display → ℕ
line_of d = if d.cursor.is_relative then d.cursor.row - d.top else d.cursor.row

-- CUP, HVP
abbrev pub to_position : ℕ → ℕ → Display → Display
to_position line column d = to_column column (to_line line d)

-- how many columns come before the first stop
abbrev pub before_stop : List Bool → ℕ
before_stop [] = 0
before_stop (true ∷ stops) = 0
before_stop (false ∷ stops) = suc (before_stop stops)

-- HT, and each step of CHT: to the next stop, or to the last column; a pending wrap stays
unfoldable pub tabbed : Display → Display
tabbed d =
    if d.cursor.column == d.width then d
    else to_column (d.cursor.column + 1 + before_stop (drop (d.cursor.column + 1) d.tabs)) d

-- the last stop before a column; the first column, where there is none
abbrev pub stop_before : ℕ → List Bool → ℕ
stop_before zero stops = 0
stop_before (suc column) stops = if slice_index_or stops column false then column else stop_before column stops

-- each step of CBT
unfoldable pub tabbed_back : Display → Display
tabbed_back d = to_column (stop_before d.cursor.column d.tabs) d

-- the cursor's column; the last, where a wrap is pending
abbrev pub column_of : Display → ℕ
column_of d = min d.cursor.column (d.width - 1)

-- HTS, and TBC with 0 and 3: a stop at the cursor's column, none there, none at all
abbrev pub with_stop : Bool → Display → Display
with_stop stops d = record d { tabs = slice_set d.tabs (column_of d) stops }

abbrev pub cleared_stops : ℕ → Display → Display
cleared_stops kind d =
    if kind == 0 then with_stop false d
    else if kind == 3 then record d { tabs = replicate (length d.tabs) false }
    else d
