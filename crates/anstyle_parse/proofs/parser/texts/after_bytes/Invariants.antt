-- What is passed so far is text.
use Rattle.std.proofs.Common.{length}
use Rattle.anstyle_parse.specs.Views.Texts.{BeginWithText}
use Rattle.anstyle_parse.proofs.parser.texts.after_bytes.Given as goal

abbrev pub invariant-chunks : goal.invariant-chunks
invariant-chunks l = BeginWithText l.bytes l.rest

abbrev pub decreases-chunks : goal.decreases-chunks
decreases-chunks l = length l.rest
