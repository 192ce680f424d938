-- The rows so far that are used.
use Rattle.std.proofs.Common.{◌≡◌, ◌≤◌}
use Rattle.ansi_screen.specs.Text.{left_out, used_rows}
use Rattle.ansi_screen.proofs.display.Display.used_rows.Given as goal

abbrev pub invariant-loop-row : goal.invariant-loop-row
invariant-loop-row l = (l.end ≡ used_rows (left_out l.ends) l.row l.self.display) × (l.end ≤ l.row)
