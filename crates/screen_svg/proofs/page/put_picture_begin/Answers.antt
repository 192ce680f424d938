use Rattle.std.proofs.Common.{List, ℕ, ◌*◌, [], ◌∷◌, codes, decimal, subst}
use Rattle.anstyle_parse.specs.Io.Output.{Adds}
use Rattle.screen_svg.specs.Characters.{text_of}
use Rattle.screen_svg.specs.Xml.{Attribute, attribute, attribute_xml}
use Rattle.screen_svg.specs.Picture.{units_high, view, picture_attributes}
use Rattle.screen_svg.proofs.AddsLemmas.{Adds-more, Adds-start}
use Rattle.screen_svg.proofs.page.put_picture_begin.Goals as goal

pub returns : goal.returns
returns g c =
    let window = c.args.window in
    let columns = c.args.columns in
    let rows = c.args.rows in
    let space : Attribute = attribute (codes "xmlns") (codes "http://www.w3.org/2000/svg") in
    let seen : Attribute = attribute (codes "viewBox") (view window columns rows) in
    let width : Attribute = attribute (codes "width") (decimal (10 * columns)) in
    let height : Attribute = attribute (codes "height") (decimal (units_high window rows)) in
    let font : Attribute = attribute (codes "font-family") (text_of c.args.font.now) in
    let last : List Attribute = attribute (codes "font-size") (codes "16.61") ∷ attribute (codes "xml:space") (codes "preserve") ∷ [] in
    let begun = c.put.new.self in
    let spaced = c.put-2.new.self in
    let viewed = c.put_view.new.output in
    let widened = c.put_number.new.output in
    let heightened = c.put_number-2.new.output in
    let fonted = c.put_font.new.output in
    let end = c.put-3.new.self in
    Adds-start g.W.Sink (codes "svg") (picture_attributes window c.args.font.now columns rows) c.args.output.now begun end c.put-4.new.self c.put.ensures
    (Adds-more g.W.Sink space (seen ∷ width ∷ height ∷ font ∷ last) begun spaced end c.put-2.ensures
    (Adds-more g.W.Sink seen (width ∷ height ∷ font ∷ last) spaced viewed end c.put_view.ensures
    (Adds-more g.W.Sink width (height ∷ font ∷ last) viewed widened end c.put_number.ensures
    (Adds-more g.W.Sink height (font ∷ last) widened heightened end
    (subst (λ (n : ℕ). Adds g.W.Sink (attribute_xml (attribute (codes "height") (decimal n))) widened heightened) c.units_high.ensures c.put_number-2.ensures)
    (Adds-more g.W.Sink font last heightened fonted end c.put_font.ensures c.put-3.ensures)))))
    c.put-4.ensures
