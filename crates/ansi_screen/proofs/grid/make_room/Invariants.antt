-- The numbers from a place on stand a place further from the front, and those before them where they stood.
use Rattle.std.proofs.Common.{◌≡◌, ◌+◌, ◌-◌, ◌<◌, length, take, drop}
use Rattle.ansi_screen.proofs.grid.make_room.Given as goal

abbrev pub invariant-loop-past : goal.invariant-loop-past
invariant-loop-past l =
    (l.past < length l.initial.order) × (length l.order ≡ length l.initial.order)
    × (take (l.past + 1) l.order ≡ take (l.past + 1) l.initial.order)
    × (drop (l.past + 1) l.order ≡ drop l.past (take (length l.initial.order - 1) l.initial.order))

abbrev pub decreases-loop-past : goal.decreases-loop-past
decreases-loop-past l = l.past
