-- Where there is memory of the other alone, both are blank.
use Rattle.std.proofs.Common.{sym, ◌∙◌}
use Rattle.ansi_screen.proofs.CoveredLemmas.{unwritten, both-unwritten}
use Rattle.ansi_screen.proofs.covered.Covered.copy_all.Goals as goal

pub returns-then-is_some : goal.returns-then-is_some
returns-then-is_some c =
    c.clear.ensures
    ∙ both-unwritten c.self.inside.memory c.self.inside.grid c.args.self.now c.args.other.now c.self.view_is c.self.invariant c.width.ensures.filled c.requires.width c.requires.height
    (unwritten c.other.inside.memory c.other.inside.grid c.args.other.now c.other.view_is c.other.invariant (sym c.is_some.ensures ∙ c.if-is_some.true)).0
