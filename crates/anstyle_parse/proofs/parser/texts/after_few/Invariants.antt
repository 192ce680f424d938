-- What is passed so far is text.
use Rattle.std.proofs.Common.{length}
use Rattle.anstyle_parse.specs.Views.Texts.{BeginWithText}
use Rattle.anstyle_parse.proofs.parser.texts.after_few.Given as goal

abbrev pub invariant-bytes : goal.invariant-bytes
invariant-bytes l = BeginWithText l.bytes l.rest

abbrev pub decreases-bytes : goal.decreases-bytes
decreases-bytes l = length l.rest
