-- What is passed so far has no colon.
use Rattle.std.proofs.Common.{◌≡◌, ℕ, List, ◌++◌, length}
use Rattle.anstyle_parse.specs.Stream.Items.{EachIs}
use Rattle.html_urls.specs.Colon.{is_no_colon}
use Rattle.html_urls.proofs.colon.from_colon.Given as goal

abbrev pub invariant-bytes : goal.invariant-bytes
invariant-bytes l = (passed : List ℕ) × (l.bytes ≡ passed ++ l.rest) × EachIs is_no_colon passed

abbrev pub decreases-bytes : goal.decreases-bytes
decreases-bytes l = length l.rest
