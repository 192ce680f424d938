-- What is passed so far has no meaning in HTML.
use Rattle.std.proofs.Common.{length}
use Rattle.ansi_html.specs.Grammar.{BeginWithClear}
use Rattle.ansi_html.proofs.performer.after_few_clear.Given as goal

abbrev pub invariant-bytes : goal.invariant-bytes
invariant-bytes l = BeginWithClear l.bytes l.rest

abbrev pub decreases-bytes : goal.decreases-bytes
decreases-bytes l = length l.rest
