-- The style, and then the character.
use Rattle.std.proofs.Common.{[], ◌∷◌}
use Rattle.screen_draw.specs.Draw.{select, character_calls}
use Rattle.screen_draw.proofs.DrawLemmas.{draws-append}
use Rattle.screen_draw.proofs.cursors.put_wrap.Goals as goal

pub returns-in-Some : goal.returns-in-Some
returns-in-Some g c =
    rw c.in-Some.is
    (draws-append g.W.Sink (select c.in-Some.cell.style ∷ []) (character_calls c.in-Some.cell) _ _ _
    c.put_style.ensures c.put_marked.ensures)
