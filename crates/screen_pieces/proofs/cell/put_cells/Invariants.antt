-- So many are written, and the rest is as it was.
use Rattle.std.proofs.Common.{◌≡◌, ◌≤◌, ◌-◌, length, take, drop, map}
use Rattle.std.specs.List.{All}
use Rattle.screen_pieces.specs.Cells.{cell_in, KeepsForLater}
use Rattle.screen_pieces.proofs.cell.put_cells.Given as goal

abbrev pub invariant-tens : goal.invariant-tens
invariant-tens l = record {
  within : l.done ≤ length l.cells;
  written : map cell_in (take l.done l.room) ≡ take l.done l.cells;
  reserved : All KeepsForLater (take l.done l.room);
  rest : drop (length l.cells) l.room ≡ drop (length l.cells) l.initial.room;
}

abbrev pub decreases-tens : goal.decreases-tens
decreases-tens l = length l.cells - l.done
