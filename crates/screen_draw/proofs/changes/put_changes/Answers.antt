-- Margins first, and the rest from home.
use Rattle.std.proofs.Common.{◌≡◌, false, ap, sym, ◌∙◌, subst}
use Rattle.ansi_screen.specs.declared.place.Place.{Place}
use Rattle.screen_draw.specs.Draw.{margins_calls}
use Rattle.screen_draw.specs.Drawing.{Draws}
use Rattle.screen_draw.specs.Alike.{has_same_margins}
use Rattle.screen_draw.specs.Update.{changes_from}
use Rattle.screen_draw.proofs.DrawLemmas.{draws-append}
use Rattle.screen_draw.proofs.changes.put_changes.Goals as goal

pub returns-else-has_same_margins : goal.returns-else-has_same_margins
returns-else-has_same_margins g c =
    let a = c.args.shown.now.display in
    let b = c.args.wanted.now.display in
    let start : Place = record a.cursor { row = 0; column = 0 } in
    let other : has_same_margins a b ≡ false = sym c.has_same_margins.ensures ∙ c.if-has_same_margins.false in
    let home : c.at_home-home.result ≡ start =
    c.at_home-home.ensures ∙ ap (λ (p : Place). record p { row = 0; column = 0 }) c.cursor-else-has_same_margins.ensures in
    let drawn = subst (λ p. Draws g.W.Sink (changes_from p a b) c.put_margins_of.new.output c.put_changes_from-else-has_same_margins.new.output) home
    c.put_changes_from-else-has_same_margins.ensures in
    rw other (draws-append g.W.Sink (margins_calls b) (changes_from start a b) _ _ _ c.put_margins_of.ensures drawn)
