-- The character, and its marks.
use Rattle.std.proofs.Common.{[], ◌∷◌}
use Rattle.anstyle_parse.specs.Stream.Call.{print}
use Rattle.screen_draw.specs.Draw.{drawn_character, marks_calls}
use Rattle.screen_draw.proofs.DrawLemmas.{draws-append}
use Rattle.screen_draw.proofs.cells.put_marked.Goals as goal

pub returns : goal.returns
returns g c =
    draws-append g.W.Sink (print (drawn_character c.args.cell.character) ∷ []) (marks_calls c.args.cell.marks) _ _ _
    c.put_character.ensures c.put_marks.ensures
