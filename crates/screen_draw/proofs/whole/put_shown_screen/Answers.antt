-- In turn.
use Rattle.std.proofs.Common.{◌++◌}
use Rattle.screen_draw.specs.Draw.{covered_calls, screen_calls, rest_calls}
use Rattle.screen_draw.proofs.DrawLemmas.{draws-append}
use Rattle.screen_draw.proofs.whole.put_shown_screen.Goals as goal

pub returns : goal.returns
returns g c =
    let d = c.args.screen.now.display in
    draws-append g.W.Sink (covered_calls d) (screen_calls d.width d.saved d.cells ++ rest_calls d) _ _ _ c.put_covered.ensures
    (draws-append g.W.Sink (screen_calls d.width d.saved d.cells) (rest_calls d) _ _ _ c.put_screen.ensures c.put_rest.ensures)
