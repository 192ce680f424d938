-- So many rows of those so far are blank, and there is memory for the others.
use Rattle.std.proofs.Common.{◌≡◌, ◌≤◌, ◌+◌, length}
use Rattle.std.specs.Prelude.{replicate}
use Rattle.std.specs.Vec.{vec_capacity}
use Rattle.ansi_style.specs.Style.{plain}
use Rattle.ansi_screen.specs.Cells.{blank}
use Rattle.ansi_screen.proofs.memory.into_rows.Given as goal

abbrev pub invariant-loop-cells : goal.invariant-loop-cells
invariant-loop-cells l = record {
  all : length l.memory.items + length l.rows.items ≡ length l.initial.memory.items;
  widths : l.memory.items ≡ replicate (length l.memory.items) l.width;
  rows : l.rows.items ≡ replicate (length l.rows.items) (replicate l.width (blank plain));
  room : length l.initial.memory.items ≤ vec_capacity l.rows;
}

abbrev pub decreases-loop-cells : goal.decreases-loop-cells
decreases-loop-cells l = length l.memory.items
