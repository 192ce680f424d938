-- The rows so far are copied, and there is room for as many as there is to be.
use Rattle.std.proofs.Common.{◌≡◌, ◌≤◌, take}
use Rattle.std.specs.Vec.{vec_capacity}
use Rattle.ansi_screen.proofs.row.copied_rows.Given as goal

abbrev pub invariant-loop-row : goal.invariant-loop-row
invariant-loop-row l = record { items : l.copies.items ≡ take l.row-index l.rows; capacity : l.most ≤ vec_capacity l.copies }
