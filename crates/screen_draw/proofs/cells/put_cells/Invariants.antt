-- The rows so far are drawn, and the pen is the one behind them.
use Rattle.std.proofs.Common.{◌≡◌, ◌*◌, take}
use Rattle.screen_draw.specs.Buffers.{cells_of}
use Rattle.screen_draw.specs.Draw.{first_pen, cells_calls, pen_after}
use Rattle.screen_draw.specs.Drawing.{Draws}
use Rattle.screen_draw.proofs.cells.put_cells.Given as goal

abbrev pub invariant-loop-row : goal.invariant-loop-row
invariant-loop-row g l =
    Draws g.W.Sink (cells_calls l.screen.display.width 0 first_pen (take (l.row * l.screen.display.width) (cells_of l.buffer l.screen.display)))
    l.initial.output l.output
    × (l.pen ≡ pen_after first_pen (take (l.row * l.screen.display.width) (cells_of l.buffer l.screen.display)))
