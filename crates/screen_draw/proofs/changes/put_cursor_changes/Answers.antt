-- There, in its style.
use Rattle.std.proofs.Common.{◌≡◌, false, ap, sym, ◌∙◌, subst, arith}
use Rattle.screen_draw.specs.Draw.{style_calls}
use Rattle.screen_draw.specs.Drawing.{Draws}
use Rattle.screen_draw.specs.Update.{move_calls, wants_wrap}
use Rattle.screen_draw.proofs.DrawLemmas.{draws-append}
use Rattle.screen_draw.proofs.changes.put_cursor_changes.Goals as goal

pub put_move-requires-clause-row : goal.put_move-requires-clause-row
put_move-requires-clause-row g c =
    let sized = c.wants_wrap.ensures.sized in
    omega (arith, ap (λ p. p.row) c.cursor-cursor.ensures, sized.cursor_row, sized.rows_limit)

pub put_move-requires-clause-column : goal.put_move-requires-clause-column
put_move-requires-clause-column g c =
    let sized = c.wants_wrap.ensures.sized in
    omega (arith, ap (λ p. p.column) c.cursor-cursor.ensures, sized.cursor_column, sized.columns_limit)

pub returns-else-wants_wrap : goal.returns-else-wants_wrap
returns-else-wants_wrap g c =
    let d = c.args.wanted.now.display in
    let other : wants_wrap c.args.place d ≡ false = sym c.wants_wrap.ensures.wants ∙ c.if-wants_wrap.false in
    let moved = subst (λ p. Draws g.W.Sink (move_calls c.args.place p.row p.column) c.args.output.now c.put_move.new.output) c.cursor-cursor.ensures c.put_move.ensures in
    let styled = subst (λ p. Draws g.W.Sink (style_calls c.args.place.style p.style) c.put_move.new.output c.put_style_change.new.output) c.cursor-cursor.ensures c.put_style_change.ensures in
    rw other
    (draws-append g.W.Sink (move_calls c.args.place d.cursor.row d.cursor.column) (style_calls c.args.place.style d.cursor.style) _ _ _ moved styled)
