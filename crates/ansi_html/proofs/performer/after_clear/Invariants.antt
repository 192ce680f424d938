-- What is passed so far has no meaning in HTML.
use Rattle.std.proofs.Common.{length}
use Rattle.ansi_html.specs.Grammar.{BeginWithClear}
use Rattle.ansi_html.proofs.performer.after_clear.Given as goal

abbrev pub invariant-chunks : goal.invariant-chunks
invariant-chunks l = BeginWithClear l.bytes l.rest

abbrev pub decreases-chunks : goal.decreases-chunks
decreases-chunks l = length l.rest
