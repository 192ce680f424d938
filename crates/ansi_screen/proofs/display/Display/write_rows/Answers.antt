-- One row more.
use Rattle.ansi_screen.proofs.TextLemmas.{Adds-row}
use Rattle.ansi_screen.proofs.display.Display.write_rows.Goals as goal

pub loop-row-preserved : goal.loop-row-preserved
loop-row-preserved g c =
    Adds-row g.W.Sink c.args.self.now.display c.loop-row.row c.row.result.now
    c.args.output.now c.loop-row.output c.put_row.new.output c.put_byte.new.self c.row.ensures.cells c.loop-row.invariant c.put_row.ensures c.put_byte.ensures
