-- The last column is noted.
use Rattle.std.proofs.Common.{◌<◌, sym, subst, arith}
use Rattle.ansi_screen.specs.State.{State}
use Rattle.ansi_screen.proofs.DamageLemmas.{edits-row, writes-going_on}
use Rattle.ansi_screen.proofs.display.Display.set_row_goes_on.Goals as goal

pub invariant_of-self : goal.invariant_of-self
invariant_of-self c =
    let g = c.self.inside.cells in
    let below : c.args.row < g.height = subst (λ (d : State). c.args.row < d.display.height) (sym c.self.view_is) c.requires in
    let some : 0 < g.width = omega (arith, c.self.invariant.2.sized.two_columns) in
    let was = c.self.invariant.2 in
    edits-row c.self.inside.damage c.note.new.self c.self.inside.cells c.set_goes_on.new.self c.self.inside.hidden _ _ c.self.view_is c.self.invariant _ c.set_goes_on.ensures.cells _ _ _
    (rw c.width-width.ensures.width at c.note.ensures)
    (writes-going_on _ _ _ _ _ c.width-width.ensures.begin c.width-width.ensures.filled below was.long _ some)
