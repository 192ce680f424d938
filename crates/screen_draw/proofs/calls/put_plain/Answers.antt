-- Three in turn.
use Rattle.std.proofs.Common.{[], ◌∷◌, ◌++◌, false, subst}
use Rattle.ansi_style.specs.Style.{plain}
use Rattle.ansi_screen.specs.Display.{letters}
use Rattle.screen_draw.specs.Draw.{private_mode, charsets_calls, select}
use Rattle.screen_draw.specs.Drawing.{Draws}
use Rattle.screen_draw.proofs.DrawLemmas.{draws-append}
use Rattle.screen_draw.proofs.calls.put_plain.Goals as goal

pub returns : goal.returns
returns g c =
    draws-append g.W.Sink (private_mode 6 false ∷ []) (charsets_calls letters ++ select plain ∷ []) _ _ _ c.put_origin.ensures
    (draws-append g.W.Sink (charsets_calls letters) (select plain ∷ []) _ _ _
    (subst (λ p. Draws g.W.Sink (charsets_calls p.charsets) c.put_origin.new.output c.put_charsets.new.output) c.home.ensures c.put_charsets.ensures)
    (subst (λ s. Draws g.W.Sink (select s ∷ []) c.put_charsets.new.output c.put_style.new.output) c.default.ensures c.put_style.ensures))
