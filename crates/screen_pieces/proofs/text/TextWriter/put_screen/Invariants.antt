-- The rows so far are put.
use Rattle.ansi_screen.specs.Text.{rows_text}
use Rattle.screen_pieces.specs.Text.{Puts}
use Rattle.screen_pieces.proofs.text.TextWriter.put_screen.Given as goal

abbrev pub invariant-loop-row : goal.invariant-loop-row
invariant-loop-row l = Puts (rows_text l.row l.screen.display) l.initial.self l.self
