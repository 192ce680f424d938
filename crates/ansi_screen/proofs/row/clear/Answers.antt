-- What is left of the columns that were written.
use Rattle.ansi_screen.proofs.BlankLemmas.{blank-without}
use Rattle.ansi_screen.proofs.row.clear.Goals as goal

pub returns-else-has_ground-clause-blank : goal.returns-else-has_ground-clause-blank
returns-else-has_ground-clause-blank c =
    rw c.clear_written.ensures.cells
    (blank-without c.args.start c.args.end c.args.cells.now c.requires.order c.requires.within c.args.written c.without.result c.requires.blank c.without.ensures.left)
