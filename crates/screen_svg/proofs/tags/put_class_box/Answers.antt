use Rattle.std.proofs.Common.{[], ◌∷◌, ◌++◌, codes}
use Rattle.screen_svg.specs.Xml.{Attribute}
use Rattle.screen_svg.specs.Picture.{box, class}
use Rattle.screen_svg.proofs.AddsLemmas.{Adds-attributes, Adds-last, Adds-start, Adds-empty}
use Rattle.screen_svg.proofs.tags.put_class_box.Goals as goal

pub returns : goal.returns
returns g c =
    let places = box c.args.column c.args.row c.args.columns c.args.rows in
    let named : Attribute = class c.args.name.now in
    let start = c.args.output.now in
    let boxed = c.put_box.new.output in
    let classed = c.put_attribute.new.output in
    let ended = c.put-2.new.self in
    Adds-empty g.W.Sink (codes "rect") (places ++ (named ∷ [])) start ended c.put_end.new.output
    (Adds-start g.W.Sink (codes "rect") (places ++ (named ∷ [])) start c.put.new.self classed ended c.put.ensures
    (Adds-attributes g.W.Sink places (named ∷ []) c.put.new.self boxed classed c.put_box.ensures
    (Adds-last g.W.Sink named boxed classed c.put_attribute.ensures))
    c.put-2.ensures)
    c.put_end.ensures
