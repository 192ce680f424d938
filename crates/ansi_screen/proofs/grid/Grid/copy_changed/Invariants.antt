-- The rows so far are those of the other one.
use Rattle.std.proofs.Common.{◌≡◌, ◌*◌}
use Rattle.ansi_screen.specs.Following.{copied}
use Rattle.ansi_screen.specs.Grid.{with_list}
use Rattle.ansi_screen.proofs.grid.Grid.copy_changed.Given as goal

abbrev pub invariant-loop-row : goal.invariant-loop-row
invariant-loop-row l = l.self ≡ with_list (copied (0 * l.initial.self.width) (l.row * l.initial.self.width) l.other.cells l.initial.self.cells) l.initial.self
