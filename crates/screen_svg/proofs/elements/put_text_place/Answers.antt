use Rattle.std.proofs.Common.{◌+◌, ◌*◌, [], ◌∷◌, codes, decimal, subst}
use Rattle.anstyle_parse.specs.Io.Output.{Adds}
use Rattle.screen_svg.specs.Xml.{Attribute, attribute, attribute_xml}
use Rattle.screen_svg.specs.Runs.{run_of}
use Rattle.screen_svg.specs.Picture.{text_columns}
use Rattle.screen_svg.proofs.AddsLemmas.{Adds-more, Adds-last}
use Rattle.screen_svg.proofs.elements.put_text_place.Goals as goal

pub returns : goal.returns
returns g c =
    let x : Attribute = attribute (codes "x") (decimal (10 * c.args.column)) in
    let y : Attribute = attribute (codes "y") (decimal (20 * c.args.row + 15)) in
    let columns : Attribute = attribute (codes "textLength") (decimal (10 * text_columns (run_of c.args.column c.args.first.now c.args.others.now))) in
    let end = c.put_number-3.new.output in
    Adds-more g.W.Sink x (y ∷ columns ∷ []) c.args.output.now c.put_number.new.output end c.put_number.ensures
    (Adds-more g.W.Sink y (columns ∷ []) c.put_number.new.output c.put_number-2.new.output end c.put_number-2.ensures
    (Adds-last g.W.Sink columns c.put_number-2.new.output end
    (subst (λ n. Adds g.W.Sink (attribute_xml (attribute (codes "textLength") (decimal (10 * n)))) c.put_number-2.new.output end)
    (c.text_columns.ensures.columns c.args.column) c.put_number-3.ensures)))
