-- The bytes so far are taken.
use Rattle.std.proofs.Common.{◌+◌, ◌-◌, ◌≤◌, length, take}
use Rattle.html_pieces.specs.Feed.{Takes}
use Rattle.html_pieces.proofs.state.HtmlState.take_through_tries.Given as goal

abbrev pub invariant-loop-count : goal.invariant-loop-count
invariant-loop-count l =
    (l.taken + l.count ≤ length l.piece) × (l.written ≤ l.size)
    × Takes l.initial.self l.self (take l.taken l.piece) l.initial.room l.room l.written

abbrev pub decreases-loop-count : goal.decreases-loop-count
decreases-loop-count l = length l.piece - l.taken
