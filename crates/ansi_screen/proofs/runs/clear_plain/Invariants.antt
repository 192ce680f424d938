-- The first cells are plain blanks, and the others are as they were.
use Rattle.std.proofs.Common.{◌≡◌, ◌≤◌, ◌-◌, ◌++◌, length, drop}
use Rattle.std.specs.Prelude.{replicate}
use Rattle.ansi_style.specs.Style.{plain}
use Rattle.ansi_screen.specs.Cells.{blank}
use Rattle.ansi_screen.proofs.runs.clear_plain.Given as goal

abbrev pub invariant-copies : goal.invariant-copies
invariant-copies l = record {
  within : l.cleared ≤ length l.initial.cells;
  cleared : l.cells ≡ replicate l.cleared (blank plain) ++ drop l.cleared l.initial.cells;
}

abbrev pub decreases-copies : goal.decreases-copies
decreases-copies l = length l.initial.cells - l.cleared
