use Rattle.std.proofs.Common.{refl}
use Rattle.ansi_html.specs.Html.{escaped_text}
use Rattle.screen_svg.proofs.AddsLemmas.{Adds-attribute, Adds-name}
use Rattle.screen_svg.proofs.tags.put_attribute.Goals as goal

pub returns : goal.returns
returns g c =
    let name = c.args.name.now in
    let value = c.args.value.now in
    let start = c.args.output.now in
    Adds-attribute g.W.Sink name value (escaped_text value) start c.put-3.new.self c.put_escaped.new.output c.put-4.new.self refl
    (Adds-name g.W.Sink name start c.put.new.self c.put-2.new.self c.put-3.new.self c.put.ensures c.put-2.ensures c.put-3.ensures)
    c.put_escaped.ensures c.put-4.ensures
