-- The first cells are cleared.
use Rattle.std.proofs.Common.{◌≡◌, ◌-◌, ◌<◌, ◌≤◌, length, take}
use Rattle.std.specs.Prelude.{replicate}
use Rattle.ansi_screen.proofs.runs.clear.Given as goal

abbrev pub invariant-copies : goal.invariant-copies
invariant-copies l = record {
  long : length l.cells ≡ length l.fn.cells;
  within : l.cleared ≤ length l.cells;
  some : 0 < length l.cells → 0 < l.cleared;
  cleared : take l.cleared l.cells ≡ replicate l.cleared l.fn.blank;
}

abbrev pub decreases-copies : goal.decreases-copies
decreases-copies l = length l.cells - l.cleared
