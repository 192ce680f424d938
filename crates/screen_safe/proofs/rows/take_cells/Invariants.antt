-- Where what is left of the cells is taken, all of them are.
use Rattle.std.proofs.Common.{false, length}
use Rattle.safe_text.specs.declared.performer.SafeWriter.{SafeWriter}
use Rattle.safe_text.specs.Writer.{Takes}
use Rattle.screen_safe.specs.Characters.{cells_marked}
use Rattle.screen_safe.proofs.rows.take_cells.Given as goal

abbrev pub invariant-rest : goal.invariant-rest
invariant-rest g l =
    (end : SafeWriter _) → Takes g.W.Sink l.writer (cells_marked l.is_hidden l.rest) end
    → Takes g.W.Sink l.initial.writer (cells_marked false l.cells) end

abbrev pub decreases-rest : goal.decreases-rest
decreases-rest g l = length l.rest
