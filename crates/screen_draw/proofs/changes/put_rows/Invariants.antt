-- The rows so far are drawn, and the cursor stands behind them.
use Rattle.std.proofs.Common.{◌≡◌}
use Rattle.screen_draw.specs.Drawing.{Draws}
use Rattle.screen_draw.specs.Update.{rows_calls, place_behind}
use Rattle.screen_draw.proofs.changes.put_rows.Given as goal

abbrev pub invariant-loop-row : goal.invariant-loop-row
invariant-loop-row g l =
    Draws g.W.Sink (rows_calls l.row l.initial.place l.shown.display l.wanted.display) l.initial.output l.output
    × (l.place ≡ place_behind l.row l.initial.place l.shown.display l.wanted.display)
