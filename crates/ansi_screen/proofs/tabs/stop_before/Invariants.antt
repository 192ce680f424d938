-- The last stop so far.
use Rattle.std.proofs.Common.{◌≡◌}
use Rattle.ansi_screen.specs.Moves.{stop_before}
use Rattle.ansi_screen.proofs.tabs.stop_before.Given as goal

abbrev pub invariant-loop-before : goal.invariant-loop-before
invariant-loop-before l = l.last ≡ stop_before l.before l.tabs
