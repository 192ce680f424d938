-- The numbers so far stand a place nearer to the front, and those from there on where they stood.
use Rattle.std.proofs.Common.{◌≡◌, ◌-◌, ◌<◌, length, take, drop}
use Rattle.ansi_screen.proofs.grid.close_up.Given as goal

abbrev pub invariant-loop-at : goal.invariant-loop-at
invariant-loop-at l =
    (l.at < length l.initial.order) × (length l.order ≡ length l.initial.order)
    × (take l.at l.order ≡ take l.at (drop 1 l.initial.order)) × (drop l.at l.order ≡ drop l.at l.initial.order)

abbrev pub decreases-loop-at : goal.decreases-loop-at
decreases-loop-at l = length l.order - l.at
