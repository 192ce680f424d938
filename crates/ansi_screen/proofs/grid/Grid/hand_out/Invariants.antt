-- The rows so far are blank, and are kept as they were.
use Rattle.std.proofs.Common.{◌≡◌, ◌*◌}
use Rattle.ansi_screen.specs.Cells.{blank, rows_of, within, erased}
use Rattle.ansi_screen.specs.Grid.{with_list}
use Rattle.ansi_screen.specs.History.{kept_after_all}
use Rattle.ansi_screen.proofs.grid.Grid.hand_out.Given as goal

abbrev pub invariant-loop-row : goal.invariant-loop-row
invariant-loop-row l = record {
  cells : l.self ≡ with_list (within 0 (l.row * l.initial.self.width) (erased (blank l.style)) l.initial.self.cells) l.initial.self;
  kept : l.history ≡ kept_after_all (rows_of l.row l.initial.self.width l.initial.self.cells) l.initial.history;
}
