-- All of it, where more differs.
use Rattle.std.proofs.Common.{◌≡◌, false, sym, ◌∙◌}
use Rattle.screen_draw.specs.Draw.{shown_screen_calls}
use Rattle.screen_draw.specs.Alike.{is_steady, looks_same}
use Rattle.screen_draw.specs.Update.{cleared_calls}
use Rattle.screen_draw.proofs.DrawLemmas.{draws-append}
use Rattle.screen_draw.proofs.whole.put_update.Goals as goal

pub returns-then-not-looks_same : goal.returns-then-not-looks_same
returns-then-not-looks_same g c =
    let a = c.args.shown.now.display in
    let b = c.args.wanted.now.display in
    let other : is_steady a b ≡ false = sym c.is_steady.ensures ∙ c.if-is_steady.false in
    let differs : looks_same a b ≡ false = sym c.looks_same.ensures ∙ c.if-not-looks_same.true in
    rw (other, differs) (draws-append g.W.Sink (cleared_calls a) (shown_screen_calls b) _ _ _ c.put_cleared.ensures c.put_shown_screen.ensures)
