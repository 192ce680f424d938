-- No stop so far.
use Rattle.std.proofs.Common.{◌≡◌, ◌+◌, drop}
use Rattle.ansi_screen.specs.Moves.{before_stop}
use Rattle.ansi_screen.proofs.tabs.columns_before_stop.Given as goal

abbrev pub invariant-loop-column : goal.invariant-loop-column
invariant-loop-column l = before_stop l.tabs ≡ l.column + before_stop (drop l.column l.tabs)
