-- The first of what is left is the first of all.
use Rattle.std.proofs.Common.{◌≡◌, length, drop}
use Rattle.std.specs.List.{position_or_len}
use Rattle.lanes.proofs.front.from_first.Given as goal

abbrev pub invariant-bytes : goal.invariant-bytes
invariant-bytes g l = drop (position_or_len g.K.Kind.holds l.rest) l.rest ≡ drop (position_or_len g.K.Kind.holds l.bytes) l.bytes

abbrev pub decreases-bytes : goal.decreases-bytes
decreases-bytes g l = length l.rest
