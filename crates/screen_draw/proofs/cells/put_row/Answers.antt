-- One cell more.
use Rattle.screen_draw.proofs.DrawLemmas.{draws-cell, pen-more}
use Rattle.screen_draw.proofs.cells.put_row.Goals as goal

pub loop-column-preserved : goal.loop-column-preserved
loop-column-preserved g c =
    let inside = c.loop-column-test.true in
    let before = c.loop-column.invariant in (
      draws-cell g.W.Sink c.args.width c.args.start c.args.pen c.loop-column.pen c.args.cells.now c.loop-column.column _
          c.args.output.now c.loop-column.output c.put_cell-pen.new.output inside before.1 before.0 c.put_cell-pen.ensures.calls,
      pen-more c.args.pen c.loop-column.pen c.put_cell-pen.result c.args.cells.now c.loop-column.column _ inside before.1 c.put_cell-pen.ensures.pen,
    )
