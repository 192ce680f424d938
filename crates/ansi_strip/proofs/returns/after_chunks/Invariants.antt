use Rattle.std.proofs.Common.{length}
use Rattle.ansi_strip.specs.Driving.{PassTo}
use Rattle.ansi_strip.specs.LineFeeds.{is_of_line}
use Rattle.ansi_strip.proofs.returns.after_chunks.Given as goal

abbrev pub invariant-chunks : goal.invariant-chunks
invariant-chunks l = PassTo is_of_line l.bytes l.rest

abbrev pub decreases-chunks : goal.decreases-chunks
decreases-chunks l = length l.rest
