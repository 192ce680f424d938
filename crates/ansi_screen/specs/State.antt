-- A screen: a display, which is all that calls read but for what REP repeats, and what stands beside it.
use Rattle.std.specs.Prelude.{ℕ, ◌*◌, Option, None, List, [], take, drop}
use Rattle.ansi_screen.specs.declared.cell.Cell.{Cell}
use Rattle.ansi_screen.specs.Display.{Display, Picture, fresh, picture}
use Rattle.ansi_screen.specs.History.{Kept, with_left}

-- What a call makes of a display: the display after it, and the rows that leave by it, in order.
pub record Step : Type 0 where
  pub display : Display
  pub left : List (List Cell)

-- a step by which no row leaves, and one by which all stays
abbrev pub stays : (Display → Display) → Display → Step
stays how d = record { display = how d; left = [] }

abbrev pub unchanged : Display → Step
unchanged d = record { display = d; left = [] }

-- a step, and a change of the display after it by which no row leaves
abbrev pub and_then : (Display → Display) → Step → Step
and_then how step = record step { display = how step.display }

pub record State : Type 0 where
  pub display : Display
  -- what REP repeats: it prints the character of the call just before again, and changes nothing after any other call,
  -- also after another REP
  pub last : Option ℕ
  -- the picture of the display when its damage (`Damage`) was last forgotten
  pub shown : Picture
  -- what is kept of the rows that left, if any are kept
  pub history : Option Kept

-- a change of its display alone, and a step of it
abbrev pub changed : (Display → Display) → State → State
changed how s = record s { display = how s.display }

abbrev pub stepped : (Display → Step) → State → State
stepped how s = record s { display = (how s.display).display; history = with_left (how s.display).left s.history }

-- a new screen, of which nothing was shown but blanks, and which keeps no rows that leave it
abbrev pub new_state : ℕ → ℕ → State
new_state width height = record {
  display = fresh width height;
  last = None;
  shown = picture (fresh width height);
  history = None;
}

-- the cells of a row when the damage was last forgotten
abbrev pub shown_cells : ℕ → State → List Cell
shown_cells row s = take s.display.width (drop (row * s.display.width) s.shown.cells)

-- its damage is forgotten: as it is, it is shown
abbrev pub as_shown : State → State
as_shown s = record s { shown = picture s.display }
