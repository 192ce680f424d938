-- The first rows are blank, and come after the others.
use Rattle.ansi_screen.specs.Cells.{blank}
use Rattle.ansi_screen.proofs.HandedLemmas.{move-out}
use Rattle.ansi_screen.proofs.grid.Grid.move_out.Goals as goal

pub returns-clause-cells : goal.returns-clause-cells
returns-clause-cells c =
    move-out c.args.self.now c.hand_out.new.self c.rotate_back.new.self c.args.last c.args.count c.min-count.result (blank c.args.style)
    c.width.ensures.filled c.requires.within c.min-count.ensures c.hand_out.ensures.cells c.rotate_back.ensures
