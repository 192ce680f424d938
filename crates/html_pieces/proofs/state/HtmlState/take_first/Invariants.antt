-- Nothing was done so far, and what surely fits is tried at last.
use Rattle.std.proofs.Common.{◌≡◌, ◌<◌, ◌≤◌, length}
use Rattle.html_pieces.proofs.state.HtmlState.take_first.Given as goal

abbrev pub invariant-loop-written : goal.invariant-loop-written
invariant-loop-written l =
    (l.taken ≤ length l.piece) × (0 < length l.piece → 0 < l.taken) × (l.self ≡ l.initial.self) × (l.room ≡ l.initial.room)
    × (length l.piece ≤ l.sure → l.taken ≡ length l.piece)

abbrev pub decreases-loop-written : goal.decreases-loop-written
decreases-loop-written l = l.taken
