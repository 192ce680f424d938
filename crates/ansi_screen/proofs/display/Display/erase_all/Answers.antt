-- All rows are noted.
use Rattle.ansi_screen.proofs.DamageLemmas.{edits-rows, writes-all}
use Rattle.ansi_screen.proofs.display.Display.erase_all.Goals as goal

pub invariant_of-self : goal.invariant_of-self
invariant_of-self c =
    let was = c.self.invariant.2 in
    edits-rows c.self.inside.damage c.note_rows.new.self c.self.inside.cells c.erase_all.new.self c.self.inside.hidden _ _ c.self.view_is c.self.invariant _ c.erase_all.ensures 0 c.height-height.result c.note_rows.ensures
    (writes-all _ _ c.height-height.result _ _ _ was.sized.columns_limit c.width.ensures.filled c.height-height.ensures was.long c.width.ensures.begin)
