use Rattle.std.proofs.Common.{◌++◌, codes}
use Rattle.std.specs.List.{flat_map}
use Rattle.screen_svg.specs.Characters.{cell_text}
use Rattle.screen_svg.specs.Runs.{run_of}
use Rattle.screen_svg.specs.Picture.{text_place, text_style, text_kind}
use Rattle.screen_svg.proofs.AddsLemmas.{Adds-attributes, Adds-escaped, Adds-start, Adds-element}
use Rattle.screen_svg.proofs.elements.put_text.Goals as goal

pub returns : goal.returns
returns g c =
    let first = c.args.first.now in
    let others = c.args.others.now in
    let place = text_place c.args.row (run_of c.args.column first others) in
    let style = text_style c.args.scheme first.style in
    let kind = text_kind first in
    let start = c.args.output.now in
    let placed = c.put_text_place.new.output in
    let styled = c.put_text_style.new.output in
    let named = c.put_text_kind.new.output in
    let begun = c.put-2.new.self in
    let texted = c.put_cells.new.output in
    Adds-element g.W.Sink (codes "text") (place ++ (style ++ kind)) (cell_text first ++ flat_map cell_text others) start begun texted c.put_end.new.output
    (Adds-start g.W.Sink (codes "text") (place ++ (style ++ kind)) start c.put.new.self named begun c.put.ensures
    (Adds-attributes g.W.Sink place (style ++ kind) c.put.new.self placed named c.put_text_place.ensures
    (Adds-attributes g.W.Sink style kind placed styled named c.put_text_style.ensures c.put_text_kind.ensures))
    c.put-2.ensures)
    (Adds-escaped g.W.Sink (cell_text first) (flat_map cell_text others) begun c.put_cell.new.output texted c.put_cell.ensures c.put_cells.ensures)
    c.put_end.ensures
