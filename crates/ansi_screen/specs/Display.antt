-- A terminal's display: its cells, and all that decides what a call does to it.
--
-- Rows and columns count from 0, row by row from the top left, in one flat list of cells.
use Rattle.std.specs.Prelude.{◌≡◌, ℕ, zero, suc, ◌+◌, ◌*◌, ◌%◌, ◌<◌, ◌≤◌, Bool, true, false, ◌==◌, List, [], ◌∷◌, ◌++◌, length, take, drop, replicate}
use Rattle.ansi_style.specs.Style.{plain}
use Rattle.ansi_screen.specs.declared.cell.Cell.{Cell}
use Rattle.ansi_screen.specs.declared.place.Charsets.{Charsets}
use Rattle.ansi_screen.specs.declared.place.Place.{Place}
use Rattle.ansi_screen.specs.Cells.{blank}

-- What decides, beside the cells that show, what a call does: what was saved, margins, tabs, and the alternate screen
-- with what it covers.
pub record Frame : Type 0 where
  pub saved : Place
  pub top : ℕ
  pub bottom : ℕ
  pub tabs : List Bool
  pub is_alternate : Bool
  pub hidden : List Cell
  pub hidden_saved : Place

-- cells and frame
pub record Picture : Type 0 where
  pub cells : List Cell
  pub frame : Frame

pub record Display : Type 0 where
  -- columns and rows
  pub width : ℕ
  pub height : ℕ
  pub cells : List Cell
  -- the cursor: row, column, the style of what comes next, the origin mode (DECOM) and sets. Its
  -- column is the width where the last column was printed and a wrap is pending.
  pub cursor : Place
  -- what DECSC saved
  pub saved : Place
  -- the margins (DECSTBM): the rows from top up to bottom scroll
  pub top : ℕ
  pub bottom : ℕ
  -- for each column, whether a tab stops there
  pub tabs : List Bool
  -- DECAWM, IRM, DECTCEM
  pub wraps : Bool
  pub inserts : Bool
  pub is_visible : Bool
  -- how many links have begun (`Links`), and the number of the one in force; 0, where none is
  pub links : ℕ
  pub link : ℕ
  -- whether the alternate screen shows; then the main one's cells, and what it has saved
  pub is_alternate : Bool
  pub hidden : List Cell
  pub hidden_saved : Place

-- its picture
abbrev pub picture : Display → Picture
picture d = record {
  cells = d.cells;
  frame = record {
    saved = d.saved;
    top = d.top;
    bottom = d.bottom;
    tabs = d.tabs;
    is_alternate = d.is_alternate;
    hidden = d.hidden;
    hidden_saved = d.hidden_saved;
  };
}

-- limits of the sizes that are taken
abbrev pub most_columns : ℕ
most_columns = 1000

abbrev pub most_rows : ℕ
most_rows = 1000

-- both character sets are letters, and the first is used
abbrev pub letters : Charsets
letters = record { g0_draws = false; g1_draws = false; uses_g1 = false }

-- the top left place, plain, counted from the screen's first row
abbrev pub home : Place
home = record { row = 0; column = 0; style = plain; is_relative = false; charsets = letters }

-- a stop in each eighth column, of so many columns
abbrev pub stops : ℕ → List Bool
stops zero = []
stops (suc n) = stops n ++ (n % 8 == 0) ∷ []

-- so many blank cells
abbrev pub blanks : ℕ → ℕ → List Cell
blanks width height = replicate (height * width) (blank plain)

-- A new display.
abbrev pub fresh : ℕ → ℕ → Display
fresh width height = record {
  width = width;
  height = height;
  cells = blanks width height;
  cursor = home;
  saved = home;
  top = 0;
  bottom = height;
  tabs = stops width;
  wraps = true;
  inserts = false;
  is_visible = true;
  links = 0;
  link = 0;
  is_alternate = false;
  hidden = blanks width height;
  hidden_saved = home;
}

-- What holds of the sizes and places of every display.
pub record IsSized (d : Display) : Type 0 where
  pub two_columns : 2 ≤ d.width
  pub columns_limit : d.width ≤ most_columns
  pub a_row : 1 ≤ d.height
  pub rows_limit : d.height ≤ most_rows
  pub cells_fill : length d.cells ≡ d.height * d.width
  pub hidden_fill : length d.hidden ≡ d.height * d.width
  pub tabs_fill : length d.tabs ≡ d.width
  pub cursor_row : d.cursor.row < d.height
  pub cursor_column : d.cursor.column ≤ d.width
  pub saved_row : d.saved.row < d.height
  pub saved_column : d.saved.column ≤ d.width
  pub hidden_row : d.hidden_saved.row < d.height
  pub hidden_column : d.hidden_saved.column ≤ d.width
  pub margins : d.top < d.bottom
  pub margins_within : d.bottom ≤ d.height

-- where the cursor's row begins in the list of cells, where it ends, and where the cursor is
abbrev pub row_start : Display → ℕ
row_start d = d.cursor.row * d.width

abbrev pub row_end : Display → ℕ
row_end d = d.cursor.row * d.width + d.width

abbrev pub here : Display → ℕ
here d = d.cursor.row * d.width + d.cursor.column

-- the cells of a row
abbrev pub row_cells : ℕ → Display → List Cell
row_cells row d = take d.width (drop (row * d.width) d.cells)
