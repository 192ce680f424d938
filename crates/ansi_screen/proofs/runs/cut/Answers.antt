-- The pair is cut, or there is none.
use Rattle.ansi_screen.proofs.CellLemmas.{cut-other, cut-past, right-at}
use Rattle.ansi_screen.proofs.runs.cut.Goals as goal
use Rattle.ansi_screen.proofs.runs.cut.Goals.{else-place-cells-via-then-place-cells+else-is_right, else-place-cells-via-else-place-cells}

pub empty_halves-requires-clause-right : goal.empty_halves-requires-clause-right
empty_halves-requires-clause-right c = right-at c.args.cells.now c.args.place _ _ c.if-place-cells.true c.is_right.ensures c.if-is_right.true

pub returns-else-place-cells : goal.returns-else-place-cells
returns-else-place-cells c = elim c.else-place-cells.branch [
  | else-place-cells-via-then-place-cells+else-is_right w ↦
      cut-other c.args.cells.now c.args.place _ _ w.if-place-cells.true w.is_right.ensures w.if-is_right.false
  | else-place-cells-via-else-place-cells w ↦ cut-past c.args.cells.now c.args.place w.if-place-cells.false
]
