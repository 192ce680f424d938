-- What is taken so far has, as it is read and in what counts, gone to the performer.
use Rattle.std.proofs.Common.{length}
use Rattle.anstyle_parse.specs.Views.AsRead.{LeadsAsReadTo}
use Rattle.anstyle_parse.specs.Views.Stage.{stage}
use Rattle.anstyle_parse.proofs.parser.log.Parser+Utf8Parser.take_log.Given as goal

abbrev pub invariant-rest : goal.invariant-rest
invariant-rest g l = LeadsAsReadTo g.P.PerformText.receives (stage l.fn.self l.fn.performer l.bytes) (stage l.self l.performer l.rest)

abbrev pub decreases-rest : goal.decreases-rest
decreases-rest g l = length l.rest
