-- One row more.
use Rattle.std.proofs.Common.{arith}
use Rattle.ansi_screen.proofs.MovedLemmas.{fill-more}
use Rattle.ansi_screen.proofs.grid.Grid.fill_rows.Goals as goal

pub loop-row-preserved : goal.loop-row-preserved
loop-row-preserved c =
    fill-more c.args.first c.loop-row.row 0 c.args.style c.args.self.now c.loop-row.self c.fill_row.new.self c.width.ensures.filled (omega arith)
    (omega (arith, c.loop-row-test.true, c.requires.within)) c.loop-row.invariant c.fill_row.ensures
