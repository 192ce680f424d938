-- The tabs so far.
use Rattle.std.proofs.Common.{◌≡◌}
use Rattle.std.specs.Fn.{iterate}
use Rattle.ansi_screen.specs.Moves.{tabbed}
use Rattle.ansi_screen.specs.State.{changed}
use Rattle.ansi_screen.proofs.display.Display.tab_times.Given as goal

abbrev pub invariant-loop-done : goal.invariant-loop-done
invariant-loop-done l = l.self ≡ changed (iterate tabbed l._done) l.initial.self
