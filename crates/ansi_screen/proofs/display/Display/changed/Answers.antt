-- What is not noted of the row is as it was shown.
use Rattle.std.proofs.Common.{◌<◌, sym, subst, arith}
use Rattle.ansi_screen.specs.Damage.{KeepsColumns}
use Rattle.ansi_screen.specs.Display.{row_cells}
use Rattle.ansi_screen.specs.State.{State, shown_cells}
use Rattle.ansi_screen.proofs.FollowingLemmas.{keeps-columns}
use Rattle.ansi_screen.proofs.display.Display.changed.Goals as goal

pub returns-clause-kept : goal.returns-clause-kept
returns-clause-kept c =
    let g = c.self.inside.cells in
    let row = c.args.row in
    let was = c.self.invariant.2 in
    let below : row < g.height = subst (λ (d : State). row < d.display.height) (sym c.self.view_is) c.requires in
    subst (λ (d : State). KeepsColumns c.columns.result.0 c.columns.result.1 (shown_cells row d) (row_cells row d.display)) c.self.view_is
    (keeps-columns g.width g.height c.self.inside.damage.spans g.cells c.self.inside.shown.cells.value.cells c.width-width.ensures.filled was.damage.long was.damage.cells
    row c.columns.result.0 c.columns.result.1 below c.columns.ensures.before
    (λ column inside past. c.columns.ensures.after column (omega (arith, inside, c.width-width.ensures.width)) past))
