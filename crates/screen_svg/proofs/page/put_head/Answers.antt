use Rattle.std.proofs.Common.{[], ◌∷◌, ◌++◌, codes}
use Rattle.screen_svg.specs.Xml.{start}
use Rattle.screen_svg.specs.Picture.{picture_attributes, title_element, rules, page, window_events}
use Rattle.screen_svg.proofs.AddsLemmas.{Adds-xml}
use Rattle.screen_svg.proofs.page.put_head.Goals as goal

pub returns : goal.returns
returns g c =
    let drawing = c.args.drawing in
    let title = c.args.title.now in
    let columns = c.args.columns in
    let rows = c.args.rows in
    let begin = start (codes "svg") (picture_attributes drawing.window c.args.font.now columns rows) ∷ [] in
    let paper = page columns rows in
    let window = window_events drawing.window title columns in
    let begun = c.put_picture_begin.new.output in
    let titled = c.put_title.new.output in
    let ruled = c.put_rules.new.output in
    let paged = c.put_page.new.output in
    let end = c.put_window.new.output in
    Adds-xml g.W.Sink begin (title_element title ++ (rules drawing.scheme ++ (paper ++ window))) c.args.output.now begun end c.put_picture_begin.ensures
    (Adds-xml g.W.Sink (title_element title) (rules drawing.scheme ++ (paper ++ window)) begun titled end c.put_title.ensures
    (Adds-xml g.W.Sink (rules drawing.scheme) (paper ++ window) titled ruled end c.put_rules.ensures
    (Adds-xml g.W.Sink paper window ruled paged end c.put_page.ensures c.put_window.ensures)))
