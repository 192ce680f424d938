-- Where there is memory alone, it is blank as it is.
use Rattle.ansi_screen.proofs.CoveredLemmas.{unwritten, clear-as-it-is}
use Rattle.ansi_screen.proofs.covered.Covered.clear.Goals as goal

pub returns-else-is_none : goal.returns-else-is_none
returns-else-is_none c =
    clear-as-it-is c.args.self.now (unwritten c.self.inside.memory c.self.inside.grid c.args.self.now c.self.view_is c.self.invariant (rw c.if-is_none.false at c.is_none.ensures)).0
