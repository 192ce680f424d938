-- The rows so far in which something was printed.
use Rattle.std.proofs.Common.{◌≡◌, ◌≤◌}
use Rattle.ansi_screen.specs.Edits.{swapped}
use Rattle.ansi_screen.specs.Text.{is_unprinted, used_rows}
use Rattle.screen_pieces.proofs.lines.hidden_count.Given as goal

abbrev pub invariant-loop-row : goal.invariant-loop-row
invariant-loop-row l = (l.end ≡ used_rows is_unprinted l.row (swapped l.screen.display)) × (l.end ≤ l.row)
