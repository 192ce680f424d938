-- What is passed so far is bytes of fields.
use Rattle.std.proofs.Common.{length}
use Rattle.anstyle_parse.specs.Views.Passing.{PassFields}
use Rattle.anstyle_parse.proofs.parser.passing.after_fields.Given as goal

abbrev pub invariant-chunks : goal.invariant-chunks
invariant-chunks l = PassFields l.bytes l.rest

abbrev pub decreases-chunks : goal.decreases-chunks
decreases-chunks l = length l.rest
