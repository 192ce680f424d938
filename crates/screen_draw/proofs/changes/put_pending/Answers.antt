-- There, the character, and the style.
use Rattle.std.proofs.Common.{[], ◌∷◌, ◌++◌, Some, ap, subst, arith}
use Rattle.screen_draw.specs.Draw.{position, select, wrap_calls, last_cell, last_column}
use Rattle.screen_draw.specs.Drawing.{Draws}
use Rattle.screen_draw.proofs.DrawLemmas.{draws-append}
use Rattle.screen_draw.proofs.StepLemmas.{last_column-within}
use Rattle.screen_draw.proofs.changes.put_pending.Goals as goal

pub put_position-requires-clause-row : goal.put_position-requires-clause-row
put_position-requires-clause-row g c =
    let sized = c.last_of_row-column.ensures.sized in
    omega (arith, ap (λ p. p.row) c.cursor-cursor.ensures, sized.cursor_row, sized.rows_limit)

pub put_position-requires-clause-column : goal.put_position-requires-clause-column
put_position-requires-clause-column g c =
    let d = c.args.wanted.now.display in
    let sized = c.last_of_row-column.ensures.sized in
    omega (arith, c.last_of_row-column.ensures.column, last_column-within d, sized.columns_limit)

pub returns : goal.returns
returns g c =
    let d = c.args.wanted.now.display in
    let to = position d.cursor.row (last_column d) ∷ [] in
    let style = select d.cursor.style ∷ [] in
    let wrap = wrap_calls (Some (last_cell d)) in
    let moved =
    subst (λ row. Draws g.W.Sink (position row (last_column d) ∷ []) c.args.output.now c.put_position.new.output) (ap (λ p. p.row) c.cursor-cursor.ensures)
    (subst (λ column. Draws g.W.Sink (position c.cursor-cursor.result.row column ∷ []) c.args.output.now c.put_position.new.output)
    c.last_of_row-column.ensures.column c.put_position.ensures) in
    let wrapped = subst (λ cell. Draws g.W.Sink (wrap_calls (Some cell)) c.put_position.new.output c.put_wrap.new.output) c.last_of_row-column.ensures.cell c.put_wrap.ensures in
    let styled = subst (λ p. Draws g.W.Sink (select p.style ∷ []) c.put_wrap.new.output c.put_style.new.output) c.cursor-cursor.ensures c.put_style.ensures in
    draws-append g.W.Sink to (wrap ++ style) _ _ _ moved
    (draws-append g.W.Sink wrap style _ _ _ wrapped styled)
