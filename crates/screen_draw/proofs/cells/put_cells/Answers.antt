-- One row more.
use Rattle.std.proofs.Common.{ℕ, ◌+◌, ◌*◌, ◌≤◌, length, sym, subst, arith}
use Rattle.ansi_screen.specs.Display.{most_rows}
use Rattle.screen_draw.specs.Buffers.{cells_of}
use Rattle.screen_draw.specs.Draw.{first_pen, cells_calls}
use Rattle.screen_draw.specs.Drawing.{Draws}
use Rattle.screen_draw.proofs.BufferLemmas.{row-fits, row-below, all-rows}
use Rattle.screen_draw.proofs.DrawLemmas.{draws-row, pen-row}
use Rattle.screen_draw.proofs.cells.put_cells.Goals as goal

pub loop-row-preserved : goal.loop-row-preserved
loop-row-preserved g c =
    let d = c.args.screen.now.display in
    let row = c.loop-row.row in
    let before = c.loop-row.invariant in
    let fits = row-fits c.args.buffer d row c.rows-row-end.ensures.sized (omega (arith, c.rows-row-end.ensures.rows)) in
    let drawn = subst (λ (w : ℕ). Draws g.W.Sink (cells_calls w (row * w) c.loop-row.pen c.row.result.now) c.loop-row.output c.put_row-pen.new.output)
    c.columns-width.ensures.columns c.put_row-pen.ensures.calls in (
      draws-row g.W.Sink d.width row first_pen c.loop-row.pen (cells_of c.args.buffer d) c.row.result.now _ _ _
          (omega (arith, fits)) c.row.ensures.cells before.1 before.0 drawn,
      pen-row d.width row first_pen c.loop-row.pen c.put_row-pen.result (cells_of c.args.buffer d) c.row.result.now
          c.row.ensures.cells before.1 c.put_row-pen.ensures.pen,
    )

pub put_row-pen-requires-clause-rows : goal.put_row-pen-requires-clause-rows
put_row-pen-requires-clause-rows g c =
    let d = c.args.screen.now.display in
    let row = c.loop-row.row in
    subst (λ (w : ℕ). row * w + length c.row.result.now ≤ most_rows * w) (sym c.columns-width.ensures.columns)
    (omega (arith, c.row.ensures.columns, row-below d row c.rows-row-end.ensures.sized (omega (arith, c.rows-row-end.ensures.rows))))

pub returns : goal.returns
returns g c =
    let d = c.args.screen.now.display in
    subst (λ l. Draws g.W.Sink (cells_calls d.width 0 first_pen l) c.args.output.now c.loop-row.output)
    (all-rows c.args.buffer d c.loop-row.row c.rows-row-end.ensures.sized (omega (arith, c.rows-row-end.ensures.rows))) c.loop-row.invariant.0
