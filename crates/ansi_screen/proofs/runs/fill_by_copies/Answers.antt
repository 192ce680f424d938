-- One character more.
use Rattle.ansi_screen.proofs.RunLemmas.{fill-on}
use Rattle.ansi_screen.proofs.runs.fill_by_copies.Goals as goal

pub loop-i-preserved : goal.loop-i-preserved
loop-i-preserved c =
    fill-on c.args.run.now c.loop-i.i c.args.style c.args.link c.from.result _ c.loop-i.cells c.loop-i-test.true c.from.ensures c.loop-i.invariant
