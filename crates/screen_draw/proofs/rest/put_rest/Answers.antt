-- In turn.
use Rattle.std.proofs.Common.{◌++◌, length, ap, subst, arith}
use Rattle.screen_draw.specs.Draw.{plain_calls, stops_calls, margins_calls, cursor_calls, modes_calls}
use Rattle.screen_draw.specs.Drawing.{Draws}
use Rattle.screen_draw.proofs.DrawLemmas.{draws-append}
use Rattle.screen_draw.proofs.rest.put_rest.Goals as goal

pub put_stops-requires : goal.put_stops-requires
put_stops-requires g c =
    omega (arith, ap length c.stops.ensures.stops, c.stops.ensures.sized.tabs_fill, c.stops.ensures.sized.columns_limit)

pub returns : goal.returns
returns g c =
    let d = c.args.screen.now.display in
    let margins = margins_calls d in
    let last = cursor_calls d ++ modes_calls d in
    let stops = subst (λ tabs. Draws g.W.Sink (stops_calls 0 tabs) c.put_plain.new.output c.put_stops.new.output) c.stops.ensures.stops c.put_stops.ensures in
    draws-append g.W.Sink plain_calls (stops_calls 0 d.tabs ++ (margins ++ last)) _ _ _ c.put_plain.ensures
    (draws-append g.W.Sink (stops_calls 0 d.tabs) (margins ++ last) _ _ _ stops
    (draws-append g.W.Sink margins last _ _ _ c.put_margins_of.ensures
    (draws-append g.W.Sink (cursor_calls d) (modes_calls d) _ _ _ c.put_cursor.ensures c.put_modes.ensures)))
