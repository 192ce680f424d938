-- What was left off so far is no part of the address.
use Rattle.std.proofs.Common.{◌≡◌, ℕ, List, ◌++◌, length}
use Rattle.html_urls.specs.Addresses.{parts_entity, address_length}
use Rattle.html_urls.proofs.address.address_length.Given as goal

abbrev pub invariant-front : goal.invariant-front
invariant-front l =
    (behind : List ℕ) × (l.text ≡ l.front ++ behind) × (l.is_parted ≡ parts_entity l.front behind)
    × (address_length (length l.text) l.text ≡ address_length (length l.front) l.text)

abbrev pub decreases-front : goal.decreases-front
decreases-front l = length l.front
