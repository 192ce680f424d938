-- What is passed so far is text.
use Rattle.std.proofs.Common.{length}
use Rattle.anstyle_parse.specs.Views.Texts.{BeginWithText}
use Rattle.anstyle_parse.proofs.parser.texts.after_text.Given as goal

abbrev pub invariant-text : goal.invariant-text
invariant-text l = BeginWithText l.bytes l.rest

abbrev pub decreases-text : goal.decreases-text
decreases-text l = length l.rest
