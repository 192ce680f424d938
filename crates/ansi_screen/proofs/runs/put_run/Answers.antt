-- All cells of the run are put after the two cuts.
use Rattle.ansi_screen.proofs.RunLemmas.{put-run-paired}
use Rattle.ansi_screen.proofs.runs.put_run.Goals as goal

pub returns : goal.returns
returns c =
    put-run-paired c.args.run.now c.args.place c.args.style c.args.link c.args.cells.now c.cut.new.cells c.cut-2.new.cells c.fill.new.cells
    c.requires.some c.requires.within c.requires.paired c.cut.ensures c.cut-2.ensures c.fill.ensures
