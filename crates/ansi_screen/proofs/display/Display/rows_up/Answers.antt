-- The rows are noted.
use Rattle.std.proofs.Common.{◌≤◌, sym, subst}
use Rattle.ansi_screen.specs.State.{State}
use Rattle.ansi_screen.proofs.DamageLemmas.{edits-rows, writes-up}
use Rattle.ansi_screen.proofs.display.Display.rows_up.Goals as goal

pub invariant_of-self : goal.invariant_of-self
invariant_of-self c =
    let last : c.args.last ≤ c.self.inside.cells.height = subst (λ (d : State). c.args.last ≤ d.display.height) (sym c.self.view_is) c.requires.within in
    let was = c.self.invariant.2 in
    edits-rows c.self.inside.damage c.note_rows.new.self c.self.inside.cells c.move_back.new.self c.self.inside.hidden _ _ c.self.view_is c.self.invariant _ c.move_back.ensures c.args.first c.args.last c.note_rows.ensures
    (writes-up _ _ c.args.first c.args.last _ _ was.sized.columns_limit c.width.ensures.filled c.requires.order last was.long _ _)
