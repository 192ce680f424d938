-- The cells so far are drawn, and the pen is the one behind them.
use Rattle.std.proofs.Common.{◌≡◌, take}
use Rattle.screen_draw.specs.Draw.{cells_calls, pen_after}
use Rattle.screen_draw.specs.Drawing.{Draws}
use Rattle.screen_draw.proofs.cells.put_row.Given as goal

abbrev pub invariant-loop-column : goal.invariant-loop-column
invariant-loop-column g l =
    Draws g.W.Sink (cells_calls l.width l.start l.fn.pen (take l.column l.cells)) l.initial.output l.output
    × (l.pen ≡ pen_after l.fn.pen (take l.column l.cells))
