-- The columns are noted.
use Rattle.std.proofs.Common.{◌≤◌, sym, subst}
use Rattle.ansi_screen.specs.State.{State}
use Rattle.ansi_screen.proofs.DamageLemmas.{edits-row, writes-erased}
use Rattle.ansi_screen.proofs.display.Display.erase_columns.Goals as goal

pub invariant_of-self : goal.invariant_of-self
invariant_of-self c =
    let last : c.args.end ≤ c.self.inside.cells.width = subst (λ (d : State). c.args.end ≤ d.display.width) (sym c.self.view_is) c.requires.within in
    let was = c.self.invariant.2 in
    edits-row c.self.inside.damage c.note.new.self c.self.inside.cells c.erase.new.self c.self.inside.hidden _ _ c.self.view_is c.self.invariant _ c.erase.ensures _ _ _ c.note.ensures
    (writes-erased _ _ _ _ _ c.width.ensures.begin c.width.ensures.filled was.sized.cursor_row was.long _ _ _ c.requires.order last)
