-- Three modes in turn.
use Rattle.std.proofs.Common.{[], ◌∷◌, subst}
use Rattle.screen_draw.specs.Draw.{private_mode, sequence, set_or_reset}
use Rattle.screen_draw.specs.Drawing.{Draws}
use Rattle.screen_draw.proofs.DrawLemmas.{draws-append}
use Rattle.screen_draw.proofs.rest.put_modes.Goals as goal

pub returns : goal.returns
returns g c =
    let d = c.args.screen.now.display in
    let wraps = subst (λ on. Draws g.W.Sink (private_mode 7 on ∷ []) c.args.output.now c.put_private_mode.new.output) c.wraps.ensures c.put_private_mode.ensures in
    let inserts = subst (λ on. Draws g.W.Sink (sequence (4 ∷ []) (set_or_reset on) ∷ []) c.put_private_mode.new.output c.put_number.new.output) c.inserts.ensures
    (subst (λ final. Draws g.W.Sink (sequence (4 ∷ []) final ∷ []) c.put_private_mode.new.output c.put_number.new.output) c.set_or_reset.ensures.byte c.put_number.ensures) in
    let visible = subst (λ on. Draws g.W.Sink (private_mode 25 on ∷ []) c.put_number.new.output c.put_private_mode-2.new.output) c.is_cursor_visible.ensures c.put_private_mode-2.ensures in
    draws-append g.W.Sink (private_mode 7 d.wraps ∷ []) (sequence (4 ∷ []) (set_or_reset d.inserts) ∷ private_mode 25 d.is_visible ∷ []) _ _ _ wraps
    (draws-append g.W.Sink (sequence (4 ∷ []) (set_or_reset d.inserts) ∷ []) (private_mode 25 d.is_visible ∷ []) _ _ _ inserts visible)
