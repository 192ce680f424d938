-- The rows are noted.
use Rattle.std.proofs.Common.{min, ◌*◌, arith}
use Rattle.ansi_screen.specs.Cells.{blank, rows_of, moved_back}
use Rattle.ansi_screen.proofs.DamageLemmas.{leaves-rows, from-first, writes-up}
use Rattle.ansi_screen.proofs.display.Display.rows_out.Goals as goal

pub invariant_of-self : goal.invariant_of-self
invariant_of-self c =
    let was = c.self.invariant.2 in
    leaves-rows c.self.inside.damage c.note_rows.new.self c.self.inside.cells c.scroll_out.new.self c.self.inside.hidden _ _ c.self.view_is c.self.invariant _ c.scroll_out.ensures.cells c.self.inside.bottom (rows_of (min c.from.result c.self.inside.bottom) c.self.inside.cells.width c.self.inside.cells.cells) _ c.note_rows.ensures
    (from-first _ _ c.self.inside.bottom _ _ (moved_back (c.from.result * c.self.inside.cells.width) (blank c.self.inside.cursor.style)) _
    (writes-up _ _ 0 c.self.inside.bottom _ _ was.sized.columns_limit c.width.ensures.filled (omega arith) was.sized.margins_within was.long _ _))
    c.scroll_out.ensures.kept
