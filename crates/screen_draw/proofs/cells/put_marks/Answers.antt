-- One mark, and then the other.
use Rattle.std.proofs.Common.{[], ◌∷◌}
use Rattle.anstyle_parse.specs.Stream.Call.{print}
use Rattle.screen_draw.specs.Draw.{drawn_character}
use Rattle.screen_draw.proofs.DrawLemmas.{draws-append}
use Rattle.screen_draw.proofs.cells.put_marks.Goals as goal

pub returns-in-Two : goal.returns-in-Two
returns-in-Two g c =
    rw c.in-Two.is
    (draws-append g.W.Sink (print (drawn_character c.in-Two.first) ∷ []) (print (drawn_character c.in-Two.second) ∷ []) _ _ _
    c.put_character-in-Two.ensures c.put_character-in-Two-2.ensures)
