use Rattle.std.proofs.Common.{length}
use Rattle.anstyle_parse.specs.Views.Runs.{LeadsTo}
use Rattle.anstyle_parse.specs.Views.Stage.{stage}
use Rattle.anstyle_parse.proofs.parser.Parser.take_characters.Given as goal

abbrev pub invariant-characters : goal.invariant-characters
invariant-characters g l =
    LeadsTo g.C.CharAccumulator.takes g.C.CharAccumulator.taken g.P.Perform.means (stage l.self l.fn.performer l.bytes) (stage l.self l.performer l.rest)

abbrev pub decreases-characters : goal.decreases-characters
decreases-characters g l = length l.rest
