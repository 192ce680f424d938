-- What is passed so far is visible.
use Rattle.std.proofs.Common.{length}
use Rattle.ansi_html.specs.Links.{BeginWithVisible}
use Rattle.ansi_html.proofs.link.after_visible.Given as goal

abbrev pub invariant-chunks : goal.invariant-chunks
invariant-chunks l = BeginWithVisible l.uri l.rest

abbrev pub decreases-chunks : goal.decreases-chunks
decreases-chunks l = length l.rest
