-- Each cell so far is plain, with a foreground of no greater kind, where nothing else was seen.
use Rattle.std.proofs.Common.{◌≡◌, take}
use Rattle.std.specs.List.{All}
use Rattle.screen_pieces.specs.Cells.{IsPlain}
use Rattle.screen_pieces.proofs.cell.kinds.Given as goal

abbrev pub invariant-loop-cell : goal.invariant-loop-cell
invariant-loop-cell l = l.others ≡ 0 → All (IsPlain l.most) (take l.cell-index l.cells)
