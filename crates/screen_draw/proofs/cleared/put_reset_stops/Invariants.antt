-- The stops so far are as on a new screen.
use Rattle.std.proofs.Common.{take}
use Rattle.screen_draw.specs.Drawing.{Draws}
use Rattle.screen_draw.specs.Update.{reset_stops_calls}
use Rattle.screen_draw.proofs.cleared.put_reset_stops.Given as goal

abbrev pub invariant-loop-column : goal.invariant-loop-column
invariant-loop-column g l = Draws g.W.Sink (reset_stops_calls 0 (take l.column l.stops)) l.initial.output l.output
