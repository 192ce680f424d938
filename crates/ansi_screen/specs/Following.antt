-- Bringing a display up to another one, from which it differs in no more than what is noted of that.
use Rattle.std.specs.Prelude.{◌≡◌, ◌-◌, ℕ, List, take, drop}
use Rattle.ansi_screen.specs.declared.cell.Cell.{Cell}
use Rattle.ansi_screen.specs.Cells.{within}
use Rattle.ansi_screen.specs.Display.{Display, picture}
use Rattle.ansi_screen.specs.State.{State, as_shown}

-- A screen is, in cells and frame, what the other one was when its damage was last forgotten. The cursor, modes and
-- links may be others, and what REP repeats.
pub record IsShownOf (other s : State) : Type 0 where
  pub width : s.display.width ≡ other.display.width
  pub height : s.display.height ≡ other.display.height
  pub picture : other.shown ≡ picture s.display

-- It becomes as the other one is, and that is shown; what it keeps of rows that left, it keeps.
abbrev pub following : (other s : State) → State
following other s = record (as_shown other) { history = s.history }

-- Both have one size.
pub record HasSizeOf (other d : Display) : Type 0 where
  pub width : d.width ≡ other.width
  pub height : d.height ≡ other.height

-- cells, from a place up to another those of another list
abbrev pub copied : (start end : ℕ) → (others cells : List Cell) → List Cell
copied start end others cells = within start end (λ run. take (end - start) (drop start others)) cells

-- the other one's cursor, its modes and links
abbrev pub with_cursor_of : (other d : Display) → Display
with_cursor_of other d = record d {
  cursor = other.cursor;
  wraps = other.wraps;
  inserts = other.inserts;
  is_visible = other.is_visible;
  links = other.links;
  link = other.link;
}

-- these and its cells
abbrev pub with_cells_of : (other d : Display) → Display
with_cells_of other d = with_cursor_of other (record d { cells = other.cells })

-- the other one's frame
abbrev pub with_frame_of : (other d : Display) → Display
with_frame_of other d = record d {
  saved = other.saved;
  top = other.top;
  bottom = other.bottom;
  tabs = other.tabs;
  is_alternate = other.is_alternate;
  hidden = other.hidden;
  hidden_saved = other.hidden_saved;
}
