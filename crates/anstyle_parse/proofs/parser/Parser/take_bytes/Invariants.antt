use Rattle.std.proofs.Common.{length}
use Rattle.anstyle_parse.specs.Views.Runs.{LeadsTo}
use Rattle.anstyle_parse.specs.Views.Stage.{stage}
use Rattle.anstyle_parse.proofs.parser.Parser.take_bytes.Given as goal

abbrev pub invariant-rest : goal.invariant-rest
invariant-rest g l =
    LeadsTo g.C.CharAccumulator.takes g.C.CharAccumulator.taken g.P.Perform.means (stage l.fn.self l.fn.performer l.bytes) (stage l.self l.performer l.rest)

abbrev pub decreases-rest : goal.decreases-rest
decreases-rest g l = length l.rest
