-- Four in turn.
use Rattle.std.proofs.Common.{[], ◌∷◌, true}
use Rattle.screen_draw.specs.Draw.{sequence, private_mode}
use Rattle.screen_draw.proofs.DrawLemmas.{draws-append}
use Rattle.screen_draw.proofs.cleared.put_reset_modes.Goals as goal

pub returns : goal.returns
returns g c =
    let wraps = private_mode 7 true ∷ [] in
    let visible = private_mode 25 true ∷ [] in
    let inserts = sequence (4 ∷ []) 0x6C in
    draws-append g.W.Sink (sequence (0 ∷ []) 0x72 ∷ []) (inserts ∷ (private_mode 7 true ∷ visible)) _ _ _ c.put_number.ensures
    (draws-append g.W.Sink (inserts ∷ []) (private_mode 7 true ∷ visible) _ _ _ c.put_number-2.ensures
    (draws-append g.W.Sink wraps visible _ _ _ c.put_private_mode.ensures c.put_private_mode-2.ensures))
