-- So many are written, and the rest is as it was.
use Rattle.std.proofs.Common.{◌≡◌, length, take, drop, map}
use Rattle.std.specs.List.{All}
use Rattle.screen_pieces.specs.Cells.{cell_in, KeepsForLater}
use Rattle.screen_pieces.proofs.cell.put_each.Given as goal

abbrev pub invariant-loop-place : goal.invariant-loop-place
invariant-loop-place l = record {
  written : map cell_in (take l.place l.room) ≡ take l.place l.cells;
  reserved : All KeepsForLater (take l.place l.room);
  rest : drop (length l.cells) l.room ≡ drop (length l.cells) l.initial.room;
}
