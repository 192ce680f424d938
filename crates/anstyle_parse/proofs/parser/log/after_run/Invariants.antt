-- What is passed so far is of the run.
use Rattle.std.proofs.Common.{length}
use Rattle.anstyle_parse.specs.Views.AsRead.{PassBytes}
use Rattle.anstyle_parse.specs.Views.Runs.{is_of_run}
use Rattle.anstyle_parse.proofs.parser.log.after_run.Given as goal

abbrev pub invariant-chunks : goal.invariant-chunks
invariant-chunks l = PassBytes (λ b. is_of_run l.run b) l.bytes l.rest

abbrev pub decreases-chunks : goal.decreases-chunks
decreases-chunks l = length l.rest
