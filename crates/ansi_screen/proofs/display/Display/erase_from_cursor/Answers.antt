-- The rest of the row, and the rows below it.
use Rattle.std.proofs.Common.{◌≡◌, ◌+◌, ◌*◌, ◌<◌, length, refl, ap, sym, ◌∙◌, subst}
use Rattle.ansi_screen.specs.Cells.{within, erased}
use Rattle.ansi_screen.specs.Display.{Display, row_start}
use Rattle.ansi_screen.specs.State.{State, changed}
use Rattle.ansi_screen.specs.Edits.{with_cells, space, erased_cells}
use Rattle.ansi_screen.specs.Reachable.{RowsBegin}
use Rattle.ansi_screen.proofs.MovedLemmas.{erase-from}
use Rattle.ansi_screen.proofs.display.Display.erase_from_cursor.Goals as goal

pub returns : goal.returns
returns c =
    let s = c.args.self.now in
    let d = s.display in
    let h = c.height-height.result in
    let column = c.self.inside.cursor.column in
    let row_is : c.self.inside.cursor.row ≡ d.cursor.row = ap (λ (e : State). e.display.cursor.row) c.self.view_is in
    let column_is : column ≡ d.cursor.column = ap (λ (e : State). e.display.cursor.column) c.self.view_is in
    let rest : Display → Display = λ e. with_cells (within ((d.cursor.row + 1) * e.width) (h * e.width) (erased (space e)) e.cells) e in
    let both =
    erase-from d (erased_cells (row_start d + column) (row_start d + c.width-width.result) d) _ d.cursor.row column c.width-width.result h (space d)
    (subst (λ (e : State). length e.display.cells ≡ e.display.height * e.display.width) c.self.view_is c.width-width.ensures.filled)
    (subst (λ (e : State). RowsBegin e.display.width e.display.cells) c.self.view_is c.width-width.ensures.begin)
    (subst (λ (e : State). e.display.cursor.row < e.display.height) c.self.view_is c.self.invariant.2.sized.cursor_row)
    (subst (λ n. n < d.width) (sym column_is) c.requires) (c.width-width.ensures.width ∙ ap (λ (e : State). e.display.width) c.self.view_is)
    (c.height-height.ensures ∙ ap (λ (e : State). e.display.height) c.self.view_is) refl refl in
    c.clear_rows.ensures
    ∙ (ap (λ n. changed (λ e. with_cells (within ((n + 1) * e.width) (h * e.width) (erased (space e)) e.cells) e) c.erase_columns.new.self) row_is
    ∙ (ap (changed rest) c.erase_columns.ensures
    ∙ (ap (λ e. record s { display = e }) both
    ∙ ap (λ n. record s { display = erased_cells (row_start d + n) (length d.cells) d }) column_is)))
