-- The rows so far are blank.
use Rattle.std.proofs.Common.{◌≡◌, ◌*◌}
use Rattle.ansi_screen.specs.Cells.{blank, within, erased}
use Rattle.ansi_screen.specs.Grid.{with_list}
use Rattle.ansi_screen.proofs.grid.Grid.fill_rows.Given as goal

abbrev pub invariant-loop-row : goal.invariant-loop-row
invariant-loop-row l = l.self ≡ with_list (within (l.first * l.initial.self.width) (l.row * l.initial.self.width) (erased (blank l.style)) l.initial.self.cells) l.initial.self
