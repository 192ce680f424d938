-- Plainly, to the place, and DECSC.
use Rattle.std.proofs.Common.{[], ◌∷◌, ◌++◌, ◌-◌, subst}
use Rattle.std.specs.Prelude.{min, ◌==◌}
use Rattle.screen_draw.specs.Draw.{escape, plain_calls, place_calls, space_if}
use Rattle.screen_draw.specs.Drawing.{Draws}
use Rattle.screen_draw.proofs.DrawLemmas.{draws-append}
use Rattle.screen_draw.proofs.cursors.put_saved.Goals as goal

pub returns : goal.returns
returns g c =
    let saved = c.args.saved in
    let column = min saved.column (c.args.width - 1) in
    let place = place_calls 0 column (space_if (saved.column == c.args.width)) saved in
    draws-append g.W.Sink plain_calls (place ++ escape 0x37 ∷ []) _ _ _ c.put_plain.ensures
    (draws-append g.W.Sink place (escape 0x37 ∷ []) _ _ _
    (subst (λ n. Draws g.W.Sink (place_calls 0 n (space_if (saved.column == c.args.width)) saved) c.put_plain.new.output c.put_place.new.output) c.min.ensures
    (subst (λ last. Draws g.W.Sink (place_calls 0 c.min.result last saved) c.put_plain.new.output c.put_place.new.output) c.space_if-last.ensures c.put_place.ensures))
    c.put_escape.ensures)
