-- The rows so far have the same cells.
use Rattle.std.proofs.Common.{◌≡◌, ◌<◌, ℕ}
use Rattle.ansi_screen.specs.Display.{row_cells}
use Rattle.screen_pieces.proofs.same.have_same_rows.Given as goal

abbrev pub invariant-loop-row : goal.invariant-loop-row
invariant-loop-row l = (n : ℕ) → n < l.row → row_cells n l.a.display ≡ row_cells n l.b.display
