-- The column before the cursor is noted.
use Rattle.ansi_screen.proofs.DamageLemmas.{edits-row, writes-marked}
use Rattle.ansi_screen.proofs.display.Display.mark.Goals as goal

pub invariant_of-self : goal.invariant_of-self
invariant_of-self c =
    let was = c.self.invariant.2 in
    edits-row c.self.inside.damage c.note.new.self c.self.inside.cells c.mark_before.new.self c.self.inside.hidden _ _ c.self.view_is c.self.invariant _ c.mark_before.ensures _ _ _ c.note.ensures
    (writes-marked _ _ _ _ _ c.width.ensures.begin c.width.ensures.filled was.sized.cursor_row was.long _ _ c.if-self-gt0.true was.sized.cursor_column)
