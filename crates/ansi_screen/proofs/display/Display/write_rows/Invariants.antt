-- The rows so far are written.
use Rattle.anstyle_parse.specs.Io.Output.{Adds}
use Rattle.ansi_screen.specs.Text.{rows_text}
use Rattle.ansi_screen.proofs.display.Display.write_rows.Given as goal

abbrev pub invariant-loop-row : goal.invariant-loop-row
invariant-loop-row g l = Adds g.W.Sink (rows_text l.row l.self.display) l.initial.output l.output
