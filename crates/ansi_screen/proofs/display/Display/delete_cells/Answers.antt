-- The columns from the cursor on are noted.
use Rattle.ansi_screen.proofs.DamageLemmas.{edits-row, writes-deleted}
use Rattle.ansi_screen.proofs.display.Display.delete_cells.Goals as goal

pub invariant_of-self : goal.invariant_of-self
invariant_of-self c =
    let was = c.self.invariant.2 in
    edits-row c.self.inside.damage c.note.new.self c.self.inside.cells c.delete.new.self c.self.inside.hidden _ _ c.self.view_is c.self.invariant _ c.delete.ensures _ _ _ (rw c.width-width.ensures.width at c.note.ensures)
    (writes-deleted _ _ _ _ _ c.width-width.ensures.begin c.width-width.ensures.filled was.sized.cursor_row was.long _ _ _ was.sized.cursor_column)
