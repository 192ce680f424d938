use Rattle.std.proofs.Common.{◌≡◌, true, List, [], ◌∷◌, codes, sym, ◌∙◌, subst}
use Rattle.std.specs.List.{flat_map}
use Rattle.anstyle_parse.specs.Io.Output.{Adds}
use Rattle.screen_svg.specs.Xml.{Attribute, attribute_xml}
use Rattle.screen_svg.specs.Runs.{is_shaped}
use Rattle.screen_svg.specs.Picture.{class}
use Rattle.screen_svg.proofs.AddsLemmas.{Adds-last}
use Rattle.screen_svg.proofs.ChoiceLemmas.{chosen}
use Rattle.screen_svg.proofs.elements.put_text_kind.Goals as goal

pub returns-then-is_shaped : goal.returns-then-is_shaped
returns-then-is_shaped g c =
    let it : Attribute = class (codes "shape") in
    let start = c.args.output.now in
    let end = c.put_attribute.new.output in
    let is : is_shaped c.args.first.now ≡ true = sym c.is_shaped.ensures ∙ c.if-is_shaped.true in
    subst (λ (attributes : List Attribute). Adds g.W.Sink (flat_map attribute_xml attributes) start end) (chosen (it ∷ []) [] (is_shaped c.args.first.now) is)
    (Adds-last g.W.Sink it start end c.put_attribute.ensures)
