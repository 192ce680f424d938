-- What decides on a screen beside what shows: the cursor's place and those that are saved, tab stops and hidden rows.
--
-- Sources: the VT510 manual (DECSC, DECSTBM, HTS, TBC); xterm's ctlseqs (1049).
use Rattle.std.specs.Prelude.{◌≡◌, ◌<◌, ◌≤◌, ◌⊎◌, ◌*◌, ◌&&◌, ◌==◌, ℕ, true, false, Option, None, Some, List, take, drop, map, replicate, if◌then◌else◌}
use Rattle.std.specs.List.{All}
use Rattle.ansi_style.specs.Bytes.{style_of, is_set}
use Rattle.ansi_screen.specs.declared.cell.Cell.{Cell}
use Rattle.ansi_screen.specs.declared.place.Place.{Place}
use Rattle.ansi_screen.specs.Display.{Display}
use Rattle.screen_pieces.specs.declared.cell.CellBytes.{CellBytes}
use Rattle.screen_pieces.specs.declared.parts.PlaceBytes.{PlaceBytes}
use Rattle.screen_pieces.specs.declared.terminal.Terminal.{Terminal}
use Rattle.screen_pieces.specs.Cells.{cell_in, KeepsForLater}
use Rattle.screen_pieces.specs.Terminal.{display_of}

-- the place that bytes say; any say one
abbrev pub place_in : PlaceBytes → Place
place_in bytes = record {
  row = bytes.row;
  column = bytes.column;
  style = style_of bytes.style.bytes;
  is_relative = is_set bytes.has_origin;
  charsets = record {
    g0_draws = is_set bytes.g0_draws;
    g1_draws = is_set bytes.g1_draws;
    uses_g1 = is_set bytes.uses_g1;
  };
}

-- The places of a screen by a number: 0 the cursor's, 1 what DECSC saved on the screen that shows, and 2 what is saved on the
-- main one while the alternate one shows.
abbrev pub place_numbered : ℕ → Display → Option Place
place_numbered which d =
    if which == 0 then Some d.cursor
    else if which == 1 then Some d.saved
    else if which == 2 && d.is_alternate then Some d.hidden_saved
    else None

-- These are the bytes of the place of a number. A wrap is pending where its column is the number of columns. What is kept
-- for later is 0.
pub record HasPlace (which : ℕ) (bytes : PlaceBytes) (terminal : Terminal) : Type 0 where
  pub place : place_numbered which (display_of terminal) ≡ Some (place_in bytes)
  pub pending : is_set bytes.wrap_pending ≡ (bytes.column == (display_of terminal).width)
  pub style : bytes.style.reserved ≡ replicate 8 0
  pub reserved : bytes.reserved ≡ replicate 2 0

-- A byte for each column stands at the front of the room, which is set where a tab stops; the rest is as it was.
pub record HasStops (room room_after : List ℕ) (terminal : Terminal) : Type 0 where
  pub stops : map is_set (take (display_of terminal).width room_after) ≡ (display_of terminal).tabs
  pub untouched : drop (display_of terminal).width room_after ≡ drop (display_of terminal).width room

-- the cells of a row of the screen that is hidden
abbrev pub hidden_cells : ℕ → Display → List Cell
hidden_cells row d = take d.width (drop (row * d.width) d.hidden)

-- The cells of a row of the main screen, which the alternate one hides, stand at the front of the room; the rest is as it
-- was.
pub record HasHiddenRow (row : ℕ) (room room_after : List CellBytes) (terminal : Terminal) : Type 0 where
  pub hidden : (display_of terminal).is_alternate ≡ true
  pub within : row < (display_of terminal).height
  pub cells : map cell_in (take (display_of terminal).width room_after) ≡ hidden_cells row (display_of terminal)
  pub reserved : All KeepsForLater (take (display_of terminal).width room_after)
  pub untouched : drop (display_of terminal).width room_after ≡ drop (display_of terminal).width room

-- No screen is hidden, or it has no such row.
abbrev pub LacksHidden : ℕ → Display → Type 0
LacksHidden row d = (d.is_alternate ≡ false) ⊎ (d.height ≤ row)
