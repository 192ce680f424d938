-- The character so far.
use Rattle.std.proofs.Common.{◌≡◌}
use Rattle.std.specs.Fn.{iterate}
use Rattle.ansi_screen.specs.Print.{printed_again}
use Rattle.ansi_screen.specs.State.{changed}
use Rattle.ansi_screen.proofs.display.Display.print_one_by_one.Given as goal

abbrev pub invariant-loop-done : goal.invariant-loop-done
invariant-loop-done l = l.self ≡ changed (iterate (printed_again l.c) l._done) l.initial.self
