-- The stops so far.
use Rattle.std.proofs.Common.{◌≡◌, take}
use Rattle.ansi_screen.specs.Display.{stops}
use Rattle.ansi_screen.proofs.tabs.reset_stops.Given as goal

abbrev pub invariant-loop-column : goal.invariant-loop-column
invariant-loop-column l = take l.column l.tabs ≡ stops l.column
