use Rattle.std.proofs.Common.{◌≡◌, true, List, suc, [], ◌∷◌, ◌++◌, codes, length, sym, ◌∙◌, subst, add-one}
use Rattle.std.specs.List.{flat_map}
use Rattle.anstyle_parse.specs.Io.Output.{Adds}
use Rattle.ansi_html.specs.Css.{has_ground, ground_css}
use Rattle.screen_svg.specs.Xml.{Attribute, attribute, attribute_xml, Event, xml}
use Rattle.screen_svg.specs.Picture.{box, rectangle}
use Rattle.screen_svg.proofs.AddsLemmas.{Adds-attributes, Adds-last, Adds-start, Adds-empty}
use Rattle.screen_svg.proofs.ChoiceLemmas.{chosen}
use Rattle.screen_svg.proofs.runs.put_run_ground.Goals as goal

pub returns-then-has_ground : goal.returns-then-has_ground
returns-then-has_ground g c =
    let places = box c.args.column c.args.row (suc (length c.args.others.now)) 1 in
    let color : Attribute = attribute (codes "style") (ground_css c.args.first.now.style) in
    let start = c.args.output.now in
    let boxed = c.put_box.new.output in
    let colored = c.put_ground_style.new.output in
    let ended = c.put-then-has_ground.new.self in
    let is : has_ground c.args.first.now.style ≡ true = sym c.has_ground.ensures ∙ c.if-has_ground.true in
    let written : List Event = rectangle (places ++ (color ∷ [])) in
    subst (λ (events : List Event). Adds g.W.Sink (xml events) start c.put_end.new.output) (chosen written [] (has_ground c.args.first.now.style) is)
    (Adds-empty g.W.Sink (codes "rect") (places ++ (color ∷ [])) start ended c.put_end.new.output
    (Adds-start g.W.Sink (codes "rect") (places ++ (color ∷ [])) start c.put.new.self colored ended c.put.ensures
    (Adds-attributes g.W.Sink places (color ∷ []) c.put.new.self boxed colored
    (subst (λ n. Adds g.W.Sink (flat_map attribute_xml (box c.args.column c.args.row n 1)) c.put.new.self boxed) (add-one (length c.args.others.now)) c.put_box.ensures)
    (Adds-last g.W.Sink color boxed colored c.put_ground_style.ensures))
    c.put-then-has_ground.ensures)
    c.put_end.ensures)
