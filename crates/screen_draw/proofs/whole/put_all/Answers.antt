-- RIS, and all of it.
use Rattle.std.proofs.Common.{[], ◌∷◌}
use Rattle.screen_draw.specs.Draw.{escape, shown_screen_calls}
use Rattle.screen_draw.proofs.DrawLemmas.{draws-append}
use Rattle.screen_draw.proofs.whole.put_all.Goals as goal

pub returns : goal.returns
returns g c =
    draws-append g.W.Sink (escape 0x63 ∷ []) (shown_screen_calls c.args.screen.now.display) _ _ _
    c.put_escape.ensures c.put_shown_screen.ensures
