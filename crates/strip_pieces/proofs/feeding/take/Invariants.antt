-- The bytes so far are taken: none yet, or all of them, where there is room for what all of them
-- may lead to.
use Rattle.std.proofs.Common.{◌≡◌, ◌≤◌, ◌+◌, ◌-◌, ◌⊎◌, length}
use Rattle.strip_pieces.specs.Feed.{most_text, IsTaken}
use Rattle.strip_pieces.proofs.feeding.take.Given as goal

abbrev pub invariant-loop-taken : goal.invariant-loop-taken
invariant-loop-taken l =
    IsTaken l.initial.parser l.parser l.piece l.initial.room l.room l.taken
    × (l.initial.room.written + most_text (length l.piece) ≤ length l.initial.room.into.now → (l.taken ≡ 0) ⊎ (l.taken ≡ length l.piece))

abbrev pub decreases-loop-taken : goal.decreases-loop-taken
decreases-loop-taken l = length l.piece - l.taken
