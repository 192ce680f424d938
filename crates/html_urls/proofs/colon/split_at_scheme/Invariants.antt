-- What was left off so far stands behind.
use Rattle.std.proofs.Common.{◌≡◌, ℕ, List, ◌++◌, length}
use Rattle.html_urls.proofs.colon.split_at_scheme.Given as goal

abbrev pub invariant-bytes : goal.invariant-bytes
invariant-bytes l = (behind : List ℕ) × (l.text ≡ l.rest ++ behind)

abbrev pub decreases-bytes : goal.decreases-bytes
decreases-bytes l = length l.rest
