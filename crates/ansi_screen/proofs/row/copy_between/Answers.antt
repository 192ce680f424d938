-- What is not between is the same already.
use Rattle.std.proofs.Common.{arith}
use Rattle.ansi_screen.proofs.FollowingLemmas.{copied-between, copied-nothing}
use Rattle.ansi_screen.proofs.row.copy_between.Goals as goal

pub returns-then-from-past : goal.returns-then-from-past
returns-then-from-past c =
    rw c.copy_from_slice.ensures.after
    (copied-between c.args.left c.args.right c.max-from.result c.min-past.result c.args.written.first c.args.written.past c.args.cells.now c.args.others.now c.requires.length c.requires.within
    c.requires.kept c.requires.blank c.requires.others_blank c.max-from.ensures c.min-past.ensures (omega (arith, c.if-from-past.true)))

pub returns-else-from-past : goal.returns-else-from-past
returns-else-from-past c =
    copied-nothing c.args.left c.args.right c.max-from.result c.min-past.result c.args.written.first c.args.written.past c.args.cells.now c.args.others.now c.requires.length c.requires.within
    c.requires.kept c.requires.blank c.requires.others_blank c.max-from.ensures c.min-past.ensures c.if-from-past.false
