-- The main screen, then DECRC and 1049.
use Rattle.std.proofs.Common.{[], ◌∷◌, true, sym, ◌∙◌}
use Rattle.screen_draw.specs.Draw.{escape, private_mode, screen_calls}
use Rattle.screen_draw.proofs.DrawLemmas.{draws-append}
use Rattle.screen_draw.proofs.whole.put_covered.Goals as goal

pub returns-then-is_alternate : goal.returns-then-is_alternate
returns-then-is_alternate g c =
    let d = c.args.screen.now.display in
    rw (sym c.is_alternate.ensures ∙ c.if-is_alternate.true)
    (draws-append g.W.Sink (screen_calls d.width d.hidden_saved d.hidden) (escape 0x38 ∷ private_mode 1049 true ∷ []) _ _ _ c.put_screen.ensures
    (draws-append g.W.Sink (escape 0x38 ∷ []) (private_mode 1049 true ∷ []) _ _ _ c.put_escape.ensures c.put_private_mode.ensures))
