-- The bytes so far are taken: none yet, or all of them, where there is room for what all of them
-- may lead to.
use Rattle.std.proofs.Common.{◌≡◌, ◌≤◌, ◌+◌, ◌-◌, ◌⊎◌, length}
use Rattle.event_pieces.specs.Feed.{most_events, most_room, IsTaken}
use Rattle.event_pieces.proofs.feeding.take.Given as goal

abbrev pub invariant-loop-taken : goal.invariant-loop-taken
invariant-loop-taken l =
    IsTaken l.initial.parser l.parser l.piece l.initial.writer l.writer l.taken
    × (l.initial.writer.written + most_events (length l.piece) ≤ length l.initial.writer.events.now
    → l.initial.writer.used + most_room (length l.piece) ≤ length l.initial.writer.room.now
    → (l.taken ≡ 0) ⊎ (l.taken ≡ length l.piece))

abbrev pub decreases-loop-taken : goal.decreases-loop-taken
decreases-loop-taken l = length l.piece - l.taken
