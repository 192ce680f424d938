-- What comes after those at the front of what is left comes after those at the front of all.
use Rattle.std.proofs.Common.{◌≡◌, length, drop}
use Rattle.std.specs.List.{prefix_len}
use Rattle.lanes.proofs.front.after_few.Given as goal

abbrev pub invariant-bytes : goal.invariant-bytes
invariant-bytes g l = drop (prefix_len g.K.Kind.holds l.rest) l.rest ≡ drop (prefix_len g.K.Kind.holds l.bytes) l.bytes

abbrev pub decreases-bytes : goal.decreases-bytes
decreases-bytes g l = length l.rest
