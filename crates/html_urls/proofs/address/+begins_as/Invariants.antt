-- The text gets shorter.
use Rattle.std.proofs.Common.{length}
use Rattle.html_urls.proofs.address.+begins_as.Given as goal

abbrev pub decreases-begins_as : goal.decreases-begins_as
decreases-begins_as l = length l.small.now
