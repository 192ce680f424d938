use Rattle.std.proofs.Common.{◌≡◌, true, List, [], ◌∷◌, codes, sym, ◌∙◌, subst}
use Rattle.anstyle_parse.specs.Io.Output.{Adds}
use Rattle.screen_svg.specs.Xml.{Attribute, attribute, Event, xml}
use Rattle.screen_svg.specs.Runs.{is_shaped, run_of}
use Rattle.screen_svg.specs.Picture.{element, shape_place, text_style}
use Rattle.screen_svg.proofs.AddsLemmas.{Adds-more, Adds-start, Adds-empty}
use Rattle.screen_svg.proofs.ChoiceLemmas.{chosen}
use Rattle.screen_svg.proofs.elements.put_shape.Goals as goal

pub returns-then-is_shaped : goal.returns-then-is_shaped
returns-then-is_shaped g c =
    let first = c.args.first.now in
    let place : Attribute = attribute (codes "d") (shape_place c.args.row (run_of c.args.column first c.args.others.now)) in
    let style = text_style c.args.scheme first.style in
    let start = c.args.output.now in
    let begun = c.put.new.self in
    let placed = c.put_shape_place.new.output in
    let styled = c.put_text_style.new.output in
    let ended = c.put-then-is_shaped.new.self in
    let is : is_shaped first ≡ true = sym c.is_shaped.ensures ∙ c.if-is_shaped.true in
    let written : List Event = element (codes "path") (place ∷ style) [] in
    subst (λ (events : List Event). Adds g.W.Sink (xml events) start c.put_end.new.output) (chosen written [] (is_shaped first) is)
    (Adds-empty g.W.Sink (codes "path") (place ∷ style) start ended c.put_end.new.output
    (Adds-start g.W.Sink (codes "path") (place ∷ style) start begun styled ended c.put.ensures
    (Adds-more g.W.Sink place style begun placed styled c.put_shape_place.ensures c.put_text_style.ensures)
    c.put-then-is_shaped.ensures)
    c.put_end.ensures)
