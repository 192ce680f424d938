-- Modes, margins, saved cursors, the alternate screen.
--
-- Sources: xterm's ctlseqs, "DEC Private Mode Set (DECSET)", 6, 7, 25, 1049; ECMA-48, 7.2.10
-- (IRM, 4); the VT510 manual (DECSTBM, DECSC, DECRC, DECOM, RIS).
use Rattle.std.specs.Prelude.{ℕ, ◌-◌, min, max, Bool, true, false, ◌&&◌, ◌==◌, nat_lt, List, [], ◌∷◌, length, replicate, slice_index_or, if◌then◌else◌}
use Rattle.ansi_style.specs.Style.{plain}
use Rattle.ansi_style.specs.Rendition.{selected}
use Rattle.ansi_screen.specs.declared.place.Charsets.{Charsets}
use Rattle.ansi_screen.specs.Cells.{blank}
use Rattle.ansi_screen.specs.Display.{Display, home, letters}
use Rattle.ansi_screen.specs.Moves.{to_row, to_position}
use Rattle.ansi_screen.specs.Edits.{space}

-- SGR
abbrev pub with_style : List (List ℕ) → Display → Display
with_style groups d = record d { cursor = record d.cursor { style = selected groups d.cursor.style } }

-- DECSC
abbrev pub saving : Display → Display
saving d = record d { saved = d.cursor }

abbrev pub with_charsets : Charsets → Display → Display
with_charsets sets d = record d { cursor = record d.cursor { charsets = sets } }

-- SO and SI: G1 is used, or G0
abbrev pub shifted : Bool → Display → Display
shifted on d = with_charsets (record d.cursor.charsets { uses_g1 = on }) d

-- ESC ( and ESC ): G0 or G1 is the line drawing set for 0, and for all else letters
unfoldable pub with_charset : ℕ → ℕ → Display → Display
with_charset mark final d =
    if mark == 0x28 then with_charsets (record d.cursor.charsets { g0_draws = final == 0x30 }) d
    else if mark == 0x29 then with_charsets (record d.cursor.charsets { g1_draws = final == 0x30 }) d
    else d

-- in origin mode the cursor is within the margins
abbrev pub into_margins : Display → Display
into_margins d = if d.cursor.is_relative then to_row (max d.top (min d.cursor.row (d.bottom - 1))) d else d

-- DECRC: cursor, style and origin mode as they were saved; where nothing was, home and plain
unfoldable pub restored : Display → Display
restored d = into_margins (record d { cursor = d.saved })

-- DECOM, which homes the cursor
unfoldable pub with_origin : Bool → Display → Display
with_origin on d = to_position 0 0 (record d { cursor = record d.cursor { is_relative = on } })

-- DECSTBM: the first row and the last, counted from 1; 0 or past the end is the default. It
-- homes the cursor. Less than two rows are refused.
unfoldable pub with_margins : ℕ → ℕ → Display → Display
with_margins first last d =
    let bottom = if nat_lt 0 last && nat_lt last d.height then last else d.height in
    if nat_lt (max 1 first) bottom then to_position 0 0 (record d { top = max 1 first - 1; bottom = bottom }) else d

-- 1049: the alternate screen shows, blank; the cursor is kept for the way back. Each screen
-- has what DECSC saved on it.
unfoldable pub to_alternate : Display → Display
to_alternate d =
    if d.is_alternate then d
    else record d {
      cells = replicate (length d.hidden) (space d);
      saved = home;
      is_alternate = true;
      hidden = d.cells;
      hidden_saved = d.cursor;
    }

-- and back: the main screen shows as it was left
unfoldable pub to_main : Display → Display
to_main d =
    if d.is_alternate then record d {
      cells = d.hidden;
      saved = d.hidden_saved;
      is_alternate = false;
      hidden = replicate (length d.cells) (blank plain);
      hidden_saved = home;
    }
    else d

unfoldable pub with_alternate : Bool → Display → Display
with_alternate on d = if on then to_alternate d else restored (to_main d)

-- DECSTR: margins, modes, style, sets and what DECSC saved as they are on a new screen; the cursor stays
unfoldable pub softly_reset : Display → Display
softly_reset d = record d {
  cursor = record d.cursor { style = plain; is_relative = false; charsets = letters };
  saved = home;
  top = 0;
  bottom = d.height;
  wraps = true;
  inserts = false;
  is_visible = true;
}

-- DECSET, DECRST
unfoldable pub with_private_mode : Bool → ℕ → Display → Display
with_private_mode on mode d =
    if mode == 6 then with_origin on d
    else if mode == 7 then record d { wraps = on }
    else if mode == 25 then record d { is_visible = on }
    else if mode == 1049 then with_alternate on d
    else d

-- SM, RM: IRM alone
unfoldable pub with_mode : Bool → ℕ → Display → Display
with_mode on mode d = if mode == 4 then record d { inserts = on } else d

-- the first field of a group; 0, where there is none
abbrev pub first_field : List ℕ → ℕ
first_field group = slice_index_or group 0 0

-- each group is a mode, by its first field
abbrev pub with_modes : (ℕ → Display → Display) → List (List ℕ) → Display → Display
with_modes set [] d = d
with_modes set (group ∷ groups) d = with_modes set groups (set (first_field group) d)
