-- The rows so far are taken.
use Rattle.ansi_screen.specs.Edits.{swapped}
use Rattle.ansi_screen.specs.Leaving.{TakesRows}
use Rattle.ansi_screen.specs.Text.{first_rows}
use Rattle.screen_pieces.proofs.lines.hand_on_hidden.Given as goal

abbrev pub invariant-loop-row : goal.invariant-loop-row
invariant-loop-row g l = TakesRows g.R.TakeRow.takes l.initial.taker (first_rows l.row (swapped l.screen.display)) l.taker
