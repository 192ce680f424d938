use Rattle.std.proofs.Common.{◌*◌, [], ◌∷◌, codes, decimal}
use Rattle.screen_svg.specs.Xml.{Attribute, attribute}
use Rattle.screen_svg.proofs.AddsLemmas.{Adds-more, Adds-last}
use Rattle.screen_svg.proofs.tags.put_box.Goals as goal

pub returns : goal.returns
returns g c =
    let x : Attribute = attribute (codes "x") (decimal (10 * c.args.column)) in
    let y : Attribute = attribute (codes "y") (decimal (20 * c.args.row)) in
    let width : Attribute = attribute (codes "width") (decimal (10 * c.args.columns)) in
    let height : Attribute = attribute (codes "height") (decimal (20 * c.args.rows)) in
    let end = c.put_number-4.new.output in
    Adds-more g.W.Sink x (y ∷ width ∷ height ∷ []) c.args.output.now c.put_number.new.output end c.put_number.ensures
    (Adds-more g.W.Sink y (width ∷ height ∷ []) c.put_number.new.output c.put_number-2.new.output end c.put_number-2.ensures
    (Adds-more g.W.Sink width (height ∷ []) c.put_number-2.new.output c.put_number-3.new.output end c.put_number-3.ensures
    (Adds-last g.W.Sink height c.put_number-3.new.output end c.put_number-4.ensures)))
