-- What is passed so far is of the run.
use Rattle.std.proofs.Common.{length}
use Rattle.anstyle_parse.specs.Views.AsRead.{PassBytes}
use Rattle.anstyle_parse.specs.Views.Runs.{is_of_run}
use Rattle.anstyle_parse.proofs.parser.log.after_few.Given as goal

abbrev pub invariant-bytes : goal.invariant-bytes
invariant-bytes l = PassBytes (λ b. is_of_run l.run b) l.bytes l.rest

abbrev pub decreases-bytes : goal.decreases-bytes
decreases-bytes l = length l.rest
