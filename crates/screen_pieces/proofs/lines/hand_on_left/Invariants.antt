-- The rows so far are taken.
use Rattle.std.specs.Prelude.{take}
use Rattle.ansi_screen.specs.Leaving.{TakesRows}
use Rattle.screen_pieces.proofs.lines.hand_on_left.Given as goal

abbrev pub invariant-loop-number : goal.invariant-loop-number
invariant-loop-number g l = TakesRows g.R.TakeRow.takes l.initial.taker (take l.number l.history.rows) l.taker
