-- The bytes so far are taken, and the next ones surely find room.
use Rattle.std.proofs.Common.{◌≡◌, ◌<◌, ◌+◌, ◌-◌, ◌≤◌, length, take}
use Rattle.safe_pieces.specs.Sizes.{most_safe, at_once}
use Rattle.safe_pieces.specs.Feed.{Takes}
use Rattle.safe_pieces.proofs.state.SafeState.take_parts.Given as goal

abbrev pub invariant-loop-count : goal.invariant-loop-count
invariant-loop-count l =
    (l.taken + l.count ≤ length l.piece)
    × (0 < l.count → most_safe l.count ≤ length l.room - l.written)
    × (0 < l.count → most_safe l.count ≤ length l.lent)
    × (0 < length l.piece → 0 < l.taken + l.count)
    × (at_once (length l.piece) ≤ length l.room → l.count ≡ 0 → l.taken ≡ length l.piece)
    × Takes l.initial.self l.self (take l.taken l.piece) l.initial.room l.room l.written

abbrev pub decreases-loop-count : goal.decreases-loop-count
decreases-loop-count l = length l.piece - l.taken
