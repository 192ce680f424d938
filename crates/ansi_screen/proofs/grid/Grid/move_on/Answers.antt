-- The rows change places, and those that come in are blank; or all are.
use Rattle.std.proofs.Common.{◌∙◌}
use Rattle.ansi_screen.specs.Cells.{blank}
use Rattle.ansi_screen.proofs.MovedLemmas.{move-on, all-on}
use Rattle.ansi_screen.proofs.grid.Grid.move_on.Goals as goal

pub returns-then-empties : goal.returns-then-empties
returns-then-empties c =
    let all = c.empties.ensures c.if-empties.true in
    c.fill.ensures ∙ all-on c.args.self.now c.args.first c.args.last c.args.count (blank c.args.style) c.width.ensures.filled all.0 all.1 all.2

pub returns-else-empties : goal.returns-else-empties
returns-else-empties c =
    move-on c.args.self.now c.rotate_on.new.self c.fill_rows.new.self c.args.first c.args.last c.args.count c.min-count.result (blank c.args.style)
    c.width.ensures.filled c.requires.order c.requires.within c.min-count.ensures c.rotate_on.ensures c.fill_rows.ensures
