-- Letters and digits stand at the end, so far.
use Rattle.std.proofs.Common.{◌≡◌, ℕ, List, ◌++◌, length}
use Rattle.std.specs.Char.{is_ascii_alphanumeric}
use Rattle.anstyle_parse.specs.Stream.Items.{EachIs}
use Rattle.html_urls.proofs.EntityLemmas.{is_some}
use Rattle.html_urls.proofs.address.ends_entity.Given as goal

abbrev pub invariant-rest : goal.invariant-rest
invariant-rest l =
    (behind : List ℕ) × (l.text ≡ l.rest ++ behind) × EachIs is_ascii_alphanumeric behind × (l.is_named ≡ is_some behind)

abbrev pub decreases-rest : goal.decreases-rest
decreases-rest l = length l.rest
