-- What a drawing leads to: the screen that is drawn, but for what bytes cannot say.
use Rattle.std.specs.Prelude.{◌≡◌, ◌-◌, ◌==◌, List, map, slice_set, None, if◌then◌else◌, false}
use Rattle.ansi_screen.specs.declared.cell.Cell.{Cell}
use Rattle.ansi_screen.specs.declared.cell.Part.{Part}
use Rattle.ansi_screen.specs.declared.cell.Part.TheVariants.{Empty, Whole}
use Rattle.ansi_screen.specs.Cells.{cell_at}
use Rattle.ansi_screen.specs.Display.{Display, Picture, row_end}
use Rattle.ansi_screen.specs.After.{State}
use Rattle.screen_draw.specs.Draw.{is_erased}

-- What is printed where nothing was is a space.
abbrev pub printed_part : Part → Part
printed_part Empty = Whole
printed_part part = part

-- a cell that is printed; no row goes on, and a drawing has no links
abbrev pub as_printed : Cell → Cell
as_printed cell = record cell { part = printed_part cell.part; link = 0; goes_on = false }

-- a cell that is drawn: one that erasing leaves is left so, and every other one is printed
unfoldable pub as_drawn : Cell → Cell
as_drawn cell = if is_erased cell then record cell { link = 0; goes_on = false } else as_printed cell

-- Where a wrap is pending, the last cell of the cursor's row is printed, whatever it was.
abbrev pub drawn_cells : Display → List Cell
drawn_cells d =
    if d.cursor.column == d.width
    then slice_set (map as_drawn d.cells) (row_end d - 1) (as_printed (cell_at (row_end d - 1) d.cells))
    else map as_drawn d.cells

-- the display, on which no link has begun
abbrev pub redrawn : Display → Display
redrawn d = record d { cells = drawn_cells d; hidden = map as_drawn d.hidden; links = 0; link = 0 }

-- The screen, on which nothing is left to REP. The terminal that shows it has a picture of its own, from which on it notes
-- what changes, and keeps that. What it keeps of the rows that left it is no part of this.
abbrev pub drawn_state : (since : Picture) → Display → State
drawn_state since d = record { display = redrawn d; last = None; shown = since; history = None }

-- A terminal shows this display, and notes what changes from the same picture on.
pub record ShowsFrom (old new : State) (d : Display) : Type 0 where
  pub display : new.display ≡ redrawn d
  pub since : new.shown ≡ old.shown
