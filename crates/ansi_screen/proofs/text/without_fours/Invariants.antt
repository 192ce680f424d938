-- What stands after them is left out.
use Rattle.std.proofs.Common.{◌≡◌, ◌≤◌, length, take}
use Rattle.ansi_screen.specs.Text.{left_out, used}
use Rattle.ansi_screen.proofs.text.without_fours.Given as goal

abbrev pub invariant-fours : goal.invariant-fours
invariant-fours l = (used (left_out l.ends) (take l.end l.cells) ≡ used (left_out l.ends) l.cells) × (l.end ≤ length l.cells)

abbrev pub decreases-fours : goal.decreases-fours
decreases-fours l = l.end
