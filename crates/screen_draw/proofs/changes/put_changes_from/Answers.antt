-- Cells, the cursor, modes.
use Rattle.std.proofs.Common.{◌++◌, subst}
use Rattle.screen_draw.specs.Drawing.{Draws}
use Rattle.screen_draw.specs.Update.{rows_calls, cursor_changes, mode_changes, place_behind}
use Rattle.screen_draw.proofs.DrawLemmas.{draws-append}
use Rattle.screen_draw.proofs.StepLemmas.{draws-mode}
use Rattle.screen_draw.proofs.changes.put_changes_from.Goals as goal

pub returns : goal.returns
returns g c =
    let a = c.args.shown.now.display in
    let b = c.args.wanted.now.display in
    let rows = rows_calls b.height c.args.start a b in
    let place = place_behind b.height c.args.start a b in
    let wraps = mode_changes 7 a.wraps b.wraps in
    let visible = mode_changes 25 a.is_visible b.is_visible in
    let cursor = subst (λ p. Draws g.W.Sink (cursor_changes p b) c.put_rows-place.new.output c.put_cursor_changes.new.output) c.put_rows-place.ensures.place c.put_cursor_changes.ensures in
    draws-append g.W.Sink rows (cursor_changes place b ++ (wraps ++ visible)) _ _ _ c.put_rows-place.ensures.calls
    (draws-append g.W.Sink (cursor_changes place b) (wraps ++ visible) _ _ _ cursor
    (draws-append g.W.Sink wraps visible _ _ _
    (draws-mode g.W.Sink 7 _ _ a.wraps b.wraps _ _ c.wraps.ensures c.wraps-2.ensures c.put_mode_change.ensures)
    (draws-mode g.W.Sink 25 _ _ a.is_visible b.is_visible _ _ c.is_cursor_visible.ensures c.is_cursor_visible-2.ensures c.put_mode_change-2.ensures)))
