-- The rows are noted.
use Rattle.std.proofs.Common.{◌≤◌, arith, sym, subst}
use Rattle.ansi_screen.specs.Cells.{blank, rows_of, erased}
use Rattle.ansi_screen.specs.State.{State}
use Rattle.ansi_screen.proofs.DamageLemmas.{leaves-rows, from-first, writes-blanks}
use Rattle.ansi_screen.proofs.display.Display.hand_out.Goals as goal

pub invariant_of-self : goal.invariant_of-self
invariant_of-self c =
    let last : c.args.count ≤ c.self.inside.cells.height = subst (λ (d : State). c.args.count ≤ d.display.height) (sym c.self.view_is) c.requires in
    let was = c.self.invariant.2 in
    leaves-rows c.self.inside.damage c.note_rows.new.self c.self.inside.cells c.leave.new.self c.self.inside.hidden _ _ c.self.view_is c.self.invariant _ c.leave.ensures.cells c.args.count (rows_of c.args.count c.self.inside.cells.width c.self.inside.cells.cells) _ c.note_rows.ensures
    (from-first _ _ c.args.count _ _ (erased (blank c.self.inside.cursor.style)) _
    (writes-blanks _ _ 0 c.args.count _ _ was.sized.columns_limit c.width.ensures.filled (omega arith) last was.long _))
    c.leave.ensures.kept
