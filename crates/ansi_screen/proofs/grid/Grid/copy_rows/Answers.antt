-- One row more.
use Rattle.std.proofs.Common.{arith}
use Rattle.ansi_screen.proofs.MovedLemmas.{copy-more, same-long}
use Rattle.ansi_screen.proofs.grid.Grid.copy_rows.Goals as goal

pub loop-row-preserved : goal.loop-row-preserved
loop-row-preserved c =
    copy-more c.args.first c.loop-row.row c.args.other.now c.args.self.now c.loop-row.self c.copy_row.new.self c.width.ensures.filled
    (same-long c.args.self.now c.args.other.now c.width.ensures.filled c.width-2.ensures.filled c.requires.width c.requires.height) (omega arith)
    (omega (arith, c.loop-row-test.true, c.requires.within)) c.loop-row.invariant c.copy_row.ensures
