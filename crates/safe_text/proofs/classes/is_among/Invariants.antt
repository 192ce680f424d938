-- Those before `low` do not decide, and the one at `high` ends at the number or past it.
use Rattle.std.proofs.Common.{◌≡◌, ◌-◌, ◌<◌, ◌≤◌, length, drop, get_or}
use Rattle.safe_text.specs.Classes.{is_among}
use Rattle.safe_text.proofs.classes.is_among.Given as goal

abbrev pub invariant-loop-low : goal.invariant-loop-low
invariant-loop-low l = (l.low ≤ l.high) × (l.high ≤ length l.ranges) × (is_among l.number l.ranges ≡ is_among l.number (drop l.low l.ranges))
    × (l.high < length l.ranges → l.number ≤ (get_or l.ranges l.high (0, 0)).1)

abbrev pub decreases-loop-low : goal.decreases-loop-low
decreases-loop-low l = l.high - l.low
