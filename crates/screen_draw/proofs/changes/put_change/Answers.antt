-- There, in its style, the cell.
use Rattle.std.proofs.Common.{◌++◌, false, ◌≡◌, ap, sym, ◌∙◌}
use Rattle.ansi_screen.specs.Cells.{cell_at}
use Rattle.screen_draw.specs.Draw.{style_calls}
use Rattle.screen_draw.specs.Update.{is_done, change_calls, move_calls, painted_calls, brush_behind}
use Rattle.screen_draw.proofs.DrawLemmas.{draws-append}
use Rattle.screen_draw.proofs.UnchangedLemmas.{painted-brush}
use Rattle.screen_draw.proofs.changes.put_change.Goals as goal

pub returns-clause-calls : goal.returns-clause-calls
unfolding change_calls
returns-clause-calls g c =
    let brush = c.args.brush in
    let old = cell_at c.args.column c.args.olds.now in
    let new = c.cell_in-new.result.now in
    let moves = move_calls brush.place c.args.row c.args.column in
    let styled = style_calls brush.place.style new.style in
    let painted = painted_calls new c.cells_behind.result.now c.cells_behind-2.result.now in
    rw (c.requires.differs, sym c.cell_in-new.ensures, sym c.cells_behind.ensures, sym c.cells_behind-2.ensures)
    (draws-append g.W.Sink moves (styled ++ painted) _ _ _ c.put_move.ensures
    (draws-append g.W.Sink styled painted _ _ _ c.put_style_change.ensures c.put_painted-columns.ensures.calls))

pub returns-clause-brush : goal.returns-clause-brush
returns-clause-brush g c =
    let brush = c.args.brush in
    let old = cell_at c.args.column c.args.olds.now in
    let new = c.cell_in-new.result.now in
    let painted = c.put_painted-columns in
    let differs : is_done brush old new ≡ false = ap (is_done brush old) c.cell_in-new.ensures ∙ c.requires.differs in
    painted-brush c.args.row c.args.column brush old new c.cells_behind-2.result.now painted.result.0 painted.result.1 differs painted.ensures.columns painted.ensures.erased
    ∙ (ap (λ x. brush_behind c.args.row c.args.column brush old x c.cells_behind-2.result.now) c.cell_in-new.ensures
    ∙ ap (λ l. brush_behind c.args.row c.args.column brush old (cell_at c.args.column c.args.news.now) l) c.cells_behind-2.ensures)
