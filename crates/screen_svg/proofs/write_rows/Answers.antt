use Rattle.std.proofs.Common.{ℕ, [], ◌∷◌, ◌++◌, codes, subst}
use Rattle.anstyle_parse.specs.Io.Output.{Adds}
use Rattle.screen_svg.specs.Xml.{end, xml}
use Rattle.screen_svg.specs.Picture.{head, rows_events, rows_in, cursor_events}
use Rattle.screen_svg.proofs.AddsLemmas.{Adds-xml}
use Rattle.screen_svg.proofs.write_rows.Goals as goal

pub returns : goal.returns
returns g c =
    let s = c.args.screen.now in
    let drawing = c.args.drawing in
    let title = c.args.title.now in
    let font = c.args.font.now in
    let extent = c.args.extent in
    let count = rows_in extent in
    let before = head drawing title font s.display.width count in
    let rows = rows_events drawing.scheme c.args.links.now.places extent.above count s in
    let cursor = cursor_events drawing.cursor extent.above s.display in
    let start = c.args.output in
    let headed = c.put_head.new.output in
    let rowed = c.put_rows.new.output in
    let cursored = c.put_cursor.new.output in
    let last = c.put_end.new.output in
    Adds-xml g.W.Sink before (rows ++ (cursor ++ (end (codes "svg") ∷ []))) start headed last
    (subst (λ (width : ℕ). Adds g.W.Sink (xml (head drawing title font width count)) start headed) c.columns.ensures.columns c.put_head.ensures)
    (Adds-xml g.W.Sink rows (cursor ++ (end (codes "svg") ∷ [])) headed rowed last c.put_rows.ensures
    (Adds-xml g.W.Sink cursor (end (codes "svg") ∷ []) rowed cursored last c.put_cursor.ensures c.put_end.ensures))
