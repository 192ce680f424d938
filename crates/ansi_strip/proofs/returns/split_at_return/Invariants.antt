use Rattle.std.proofs.Common.{length}
use Rattle.ansi_strip.specs.Driving.{PassTo}
use Rattle.ansi_strip.specs.LineFeeds.{is_of_line}
use Rattle.ansi_strip.proofs.returns.split_at_return.Given as goal

abbrev pub invariant-bytes : goal.invariant-bytes
invariant-bytes l = PassTo is_of_line l.bytes l.rest

abbrev pub decreases-bytes : goal.decreases-bytes
decreases-bytes l = length l.rest
