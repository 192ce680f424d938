use Rattle.std.proofs.Common.{length}
use Rattle.anstyle_parse.specs.Views.Runs.{LeadsTo}
use Rattle.anstyle_parse.specs.Views.Stage.{stage}
use Rattle.anstyle_parse.proofs.parser.Parser.take_chunks.Given as goal

abbrev pub invariant-chunks : goal.invariant-chunks
invariant-chunks g l =
    LeadsTo g.C.CharAccumulator.takes g.C.CharAccumulator.taken g.P.Perform.means (stage l.self l.fn.performer l.bytes) (stage l.self l.performer l.rest)

abbrev pub decreases-chunks : goal.decreases-chunks
decreases-chunks g l = length l.rest
