-- What lies beside the columns that were written is blank as it is.
use Rattle.ansi_screen.proofs.BlankLemmas.{same-some, same-none}
use Rattle.ansi_screen.proofs.row.clear_written.Goals as goal

pub returns-then-from-past-clause-cells : goal.returns-then-from-past-clause-cells
returns-then-from-past-clause-cells c =
    rw c.clear_plain.ensures
    (same-some c.args.start c.args.end c.args.written.first c.args.written.past c.max-from.result c.min-past.result c.args.cells.now c.requires.order c.requires.within c.max-from.ensures c.min-past.ensures c.requires.blank c.if-from-past.true)

pub returns-else-from-past-clause-cells : goal.returns-else-from-past-clause-cells
returns-else-from-past-clause-cells c =
    same-none c.args.start c.args.end c.args.cells.now c.requires.order c.requires.within c.args.written.first c.args.written.past c.max-from.result c.min-past.result c.max-from.ensures c.min-past.ensures c.requires.blank c.if-from-past.false
