-- Two marks, one after the other.
use Rattle.std.proofs.Common.{◌∷◌, []}
use Rattle.anstyle_parse.specs.Stream.Call.{print}
use Rattle.screen_calls.proofs.rows.give_marks.Goals as goal

pub returns-in-Two : goal.returns-in-Two
returns-in-Two g c =
    rw c.in-Two.is (g.met.P.PerformText.follows.more c.args.performer.now c.give_character-in-Two.new.performer c.give_character-in-Two-2.new.performer
    (print c.in-Two.first ∷ []) (print c.in-Two.second ∷ []) c.give_character-in-Two.ensures c.give_character-in-Two-2.ensures)
