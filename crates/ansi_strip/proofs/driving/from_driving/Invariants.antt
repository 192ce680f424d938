-- None begins in what is passed so far.
use Rattle.std.proofs.Common.{◌≡◌, ℕ, List, ◌++◌, length}
use Rattle.ansi_strip.specs.Driving.{NoneBegins}
use Rattle.ansi_strip.proofs.driving.from_driving.Given as goal

abbrev pub invariant-at : goal.invariant-at
invariant-at l = (passed : List ℕ) × (l.bytes ≡ passed ++ l.at) × NoneBegins passed l.at

abbrev pub decreases-at : goal.decreases-at
decreases-at l = length l.at
