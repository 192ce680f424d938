use Rattle.std.proofs.Common.{◌*◌, List, [], ◌∷◌, ◌++◌, codes, decimal}
use Rattle.screen_svg.specs.Xml.{Attribute, attribute}
use Rattle.screen_svg.specs.Picture.{class}
use Rattle.screen_svg.proofs.AddsLemmas.{Adds-more, Adds-attributes, Adds-start, Adds-empty}
use Rattle.screen_svg.proofs.page.put_bar.Goals as goal

pub returns : goal.returns
returns g c =
    let place : List Attribute = attribute (codes "x") (codes "0") ∷ attribute (codes "y") (codes "-30") ∷ [] in
    let width : Attribute = attribute (codes "width") (decimal (10 * c.args.width)) in
    let last : List Attribute = attribute (codes "height") (codes "30") ∷ class (codes "bar") ∷ [] in
    let start = c.args.output.now in
    let begun = c.put.new.self in
    let end = c.put-3.new.self in
    let ended = c.put-4.new.self in
    Adds-empty g.W.Sink (codes "rect") (place ++ (width ∷ last)) start ended c.put_end.new.output
    (Adds-start g.W.Sink (codes "rect") (place ++ (width ∷ last)) start begun end ended c.put.ensures
    (Adds-attributes g.W.Sink place (width ∷ last) begun c.put-2.new.self end c.put-2.ensures
    (Adds-more g.W.Sink width last c.put-2.new.self c.put_number.new.output end c.put_number.ensures c.put-3.ensures))
    c.put-4.ensures)
    c.put_end.ensures
