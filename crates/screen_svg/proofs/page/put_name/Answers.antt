use Rattle.std.proofs.Common.{◌*◌, List, [], ◌∷◌, codes, decimal}
use Rattle.screen_svg.specs.Characters.{text_of}
use Rattle.screen_svg.specs.Xml.{Attribute, attribute}
use Rattle.screen_svg.specs.Picture.{class}
use Rattle.screen_svg.proofs.AddsLemmas.{Adds-more, Adds-start, Adds-element}
use Rattle.screen_svg.proofs.page.put_name.Goals as goal

pub returns : goal.returns
returns g c =
    let x : Attribute = attribute (codes "x") (decimal (5 * c.args.width)) in
    let last : List Attribute = attribute (codes "y") (codes "-10") ∷ class (codes "name") ∷ [] in
    let start = c.args.output.now in
    let begun = c.put.new.self in
    let end = c.put-2.new.self in
    let ended = c.put-3.new.self in
    Adds-element g.W.Sink (codes "text") (x ∷ last) (text_of c.args.title.now) start ended c.put_text.new.output c.put_end.new.output
    (Adds-start g.W.Sink (codes "text") (x ∷ last) start begun end ended c.put.ensures
    (Adds-more g.W.Sink x last begun c.put_number.new.output end c.put_number.ensures c.put-2.ensures)
    c.put-3.ensures)
    c.put_text.ensures c.put_end.ensures
