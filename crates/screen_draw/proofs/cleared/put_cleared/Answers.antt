-- In turn.
use Rattle.std.proofs.Common.{[], ◌∷◌, ◌++◌, subst}
use Rattle.screen_draw.specs.Draw.{escape, sequence, plain_calls}
use Rattle.screen_draw.specs.Drawing.{Draws}
use Rattle.screen_draw.specs.Update.{leave_calls, reset_modes, reset_stops_calls}
use Rattle.screen_draw.proofs.DrawLemmas.{draws-append}
use Rattle.screen_draw.proofs.cleared.put_cleared.Goals as goal

pub returns : goal.returns
returns g c =
    let d = c.args.shown.now.display in
    let last = sequence (2 ∷ []) 0x4A ∷ escape 0x37 ∷ [] in
    let stops = reset_stops_calls 0 d.tabs in
    let left = subst (λ t. Draws g.W.Sink (leave_calls t) c.args.output.now c.put_leave.new.output) c.is_alternate.ensures c.put_leave.ensures in
    let stopped = subst (λ tabs. Draws g.W.Sink (reset_stops_calls 0 tabs) c.put_plain.new.output c.put_reset_stops.new.output) c.stops.ensures.stops c.put_reset_stops.ensures in
    draws-append g.W.Sink (leave_calls d.is_alternate) (reset_modes ++ (plain_calls ++ (stops ++ (plain_calls ++ last)))) _ _ _ left
    (draws-append g.W.Sink reset_modes (plain_calls ++ (stops ++ (plain_calls ++ last))) _ _ _ c.put_reset_modes.ensures
    (draws-append g.W.Sink plain_calls (stops ++ (plain_calls ++ last)) _ _ _ c.put_plain.ensures
    (draws-append g.W.Sink stops (plain_calls ++ last) _ _ _ stopped
    (draws-append g.W.Sink plain_calls last _ _ _ c.put_plain-2.ensures
    (draws-append g.W.Sink (sequence (2 ∷ []) 0x4A ∷ []) (escape 0x37 ∷ []) _ _ _ c.put_number.ensures c.put_escape.ensures)))))
