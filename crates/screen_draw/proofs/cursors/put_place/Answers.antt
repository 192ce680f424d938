-- One after another.
use Rattle.std.proofs.Common.{[], ◌∷◌, ◌++◌, ◌-◌, ap, ◌∙◌, subst}
use Rattle.std.specs.Prelude.{if◌then◌else◌}
use Rattle.screen_draw.specs.Draw.{private_mode, position, wrap_calls, charsets_calls, select}
use Rattle.screen_draw.specs.Drawing.{Draws}
use Rattle.screen_draw.proofs.DrawLemmas.{draws-append}
use Rattle.screen_draw.proofs.cursors.put_place.Goals as goal

pub returns : goal.returns
returns g c =
    let place = c.args.place in
    let to = position (place.row - (if place.is_relative then c.args.top else 0)) c.args.column ∷ [] in
    let style = select place.style ∷ [] in
    let sets = charsets_calls place.charsets ++ style in
    let last = wrap_calls c.args.last ++ sets in
    draws-append g.W.Sink (private_mode 6 place.is_relative ∷ []) (to ++ last) _ _ _ c.put_origin.ensures
    (draws-append g.W.Sink to last _ _ _
    (subst (λ row. Draws g.W.Sink (position row c.args.column ∷ []) c.put_origin.new.output c.put_position.new.output)
    (c.saturating_sub-row.ensures ∙ ap (λ above. place.row - above) c.rows_above.ensures) c.put_position.ensures)
    (draws-append g.W.Sink (wrap_calls c.args.last) sets _ _ _ c.put_wrap.ensures
    (draws-append g.W.Sink (charsets_calls place.charsets) style _ _ _ c.put_charsets.ensures c.put_style.ensures)))
