-- The columns of the character are noted.
use Rattle.std.proofs.Common.{◌+◌, ◌≤◌, sym, subst}
use Rattle.ansi_screen.specs.State.{State}
use Rattle.ansi_screen.proofs.DamageLemmas.{puts-row, writes-glyph}
use Rattle.ansi_screen.proofs.display.Display.put_cells.Goals as goal

pub invariant_of-self : goal.invariant_of-self
invariant_of-self c =
    let fits : c.self.inside.cursor.column + c.args.columns ≤ c.self.inside.cells.width =
    subst (λ (d : State). d.display.cursor.column + c.args.columns ≤ d.display.width) (sym c.self.view_is) c.requires.fits in
    let was = c.self.invariant.2 in
    rw c.from.ensures
    (puts-row c.self.inside.damage c.note.new.self c.self.inside.cells c.put.new.self c.self.inside.hidden _ _ c.self.view_is c.self.invariant _ c.put.ensures _ _ _ _ fits
    (rw c.from.ensures at c.note.ensures)
    (writes-glyph _ _ _ _ _ c.width.ensures.begin c.width.ensures.filled was.sized.cursor_row was.long _ _ _ _ _ c.requires.some c.requires.few fits))
