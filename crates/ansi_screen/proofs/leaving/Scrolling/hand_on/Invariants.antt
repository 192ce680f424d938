-- The rows so far are taken; the screen stays.
use Rattle.ansi_screen.specs.Leaving.{TakesRows}
use Rattle.ansi_screen.specs.Text.{first_rows}
use Rattle.ansi_screen.proofs.leaving.Scrolling.hand_on.Given as goal

abbrev pub invariant-loop-row : goal.invariant-loop-row
invariant-loop-row g l = TakesRows g.R.TakeRow.takes l.initial.self-inside.1.1.0 (first_rows l.row l.display.display) l.self-inside.1.1.0
