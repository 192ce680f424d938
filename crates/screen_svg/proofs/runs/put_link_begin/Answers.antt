use Rattle.std.proofs.Common.{[], ◌∷◌, codes}
use Rattle.screen_svg.specs.Xml.{Attribute, attribute}
use Rattle.screen_svg.proofs.AddsLemmas.{Adds-last, Adds-start}
use Rattle.screen_svg.proofs.runs.put_link_begin.Goals as goal

pub returns : goal.returns
returns g c =
    let href : Attribute = attribute (codes "href") c.args.uri.now in
    Adds-start g.W.Sink (codes "a") (href ∷ []) c.args.output.now c.put.new.self c.put_attribute.new.output c.put-2.new.self c.put.ensures
    (Adds-last g.W.Sink href c.put.new.self c.put_attribute.new.output c.put_attribute.ensures) c.put-2.ensures
