-- The last cell of the row says it, as the one of the list.
use Rattle.std.proofs.Common.{◌≡◌, ◌<◌, ap, ◌∙◌, subst, arith}
use Rattle.ansi_screen.specs.Display.{row_start, row_cells}
use Rattle.ansi_screen.specs.State.{State}
use Rattle.ansi_screen.proofs.GoingLemmas.{row-says}
use Rattle.ansi_screen.proofs.display.Display.goes_on.Goals as goal

pub returns : goal.returns
returns c =
    let d = c.args.self.now.display in
    let some : 0 < d.width = subst (λ (e : State). 0 < e.display.width) c.self.view_is (omega (arith, c.self.invariant.2.sized.two_columns)) in
    let row : c.row.result.now ≡ row_cells d.cursor.row d = c.row.ensures.cells ∙ ap (λ (e : State). row_cells e.display.cursor.row d) c.self.view_is in
    c.goes_on.ensures ∙ row-says (row_start d) d.width d.cells c.row.result.now some row c.row.ensures.columns
