-- A row more is written.
use Rattle.std.proofs.Common.{List, sym, subst, add-one}
use Rattle.anstyle_parse.specs.Io.Output.{Adds}
use Rattle.ansi_screen.specs.declared.cell.Cell.{Cell}
use Rattle.screen_svg.specs.Xml.{xml}
use Rattle.screen_svg.specs.Picture.{drawn_cells, row_events, rows_events}
use Rattle.screen_svg.proofs.AddsLemmas.{Adds-xml}
use Rattle.screen_svg.proofs.rows.put_rows.Goals as goal

pub loop-row-preserved : goal.loop-row-preserved
loop-row-preserved g c =
    let scheme = c.args.scheme in
    let links = c.args.links.now.places in
    let above = c.args.extent.above in
    let s = c.args.screen.now in
    let row = c.loop-row.row in
    let start = c.args.output.now in
    let here = c.loop-row.output in
    let end = c.put_row.new.output in
    subst (λ n. Adds g.W.Sink (xml (rows_events scheme links above n s)) start end) (sym (add-one row))
    (Adds-xml g.W.Sink (rows_events scheme links above row s) (row_events scheme links row (drawn_cells above s row)) start here end c.loop-row.invariant
    (subst (λ (cells : List Cell). Adds g.W.Sink (xml (row_events scheme links row cells)) here end) c.drawn_cells.ensures.cells c.put_row.ensures))
