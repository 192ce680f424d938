-- Plain cells, by the greatest kind of their foregrounds.
use Rattle.std.proofs.Common.{◌≤◌, ℕ, List}
use Rattle.std.proofs.Math.Nat.{le_trans}
use Rattle.std.specs.List.{All}
use Rattle.std.specs.Prelude.{slice_index_or}
use Rattle.ansi_screen.specs.declared.cell.Cell.{Cell}
use Rattle.screen_pieces.specs.Cells.{IsPlain}

pub plain-more : (least most : ℕ) (cell : Cell) → least ≤ most → IsPlain least cell → IsPlain most cell
plain-more least most cell more plain = record {
  foreground = le_trans plain.foreground more;
  background = plain.background;
  marks = plain.marks;
}

pub all-plain-more : (least most : ℕ) (cells : List Cell) → least ≤ most → All (IsPlain least) cells → All (IsPlain most) cells
all-plain-more least most cells more plain k d within = plain-more least most (slice_index_or cells k d) more (plain k d within)
