use Rattle.std.proofs.Common.{decimal, sym}
use Rattle.ansi_html.proofs.DeclarationLemmas.{escaped_text-safe}
use Rattle.ansi_html.proofs.LineTagLemmas.{AreSafe-decimal}
use Rattle.screen_svg.proofs.AddsLemmas.{Adds-attribute, Adds-name}
use Rattle.screen_svg.proofs.tags.put_number.Goals as goal

pub returns : goal.returns
returns g c =
    let name = c.args.name.now in
    let value = decimal c.args.number in
    let start = c.args.output.now in
    Adds-attribute g.W.Sink name value value start c.put-3.new.self c.put_decimal.new.self c.put-4.new.self
    (sym (escaped_text-safe value (AreSafe-decimal c.args.number)))
    (Adds-name g.W.Sink name start c.put.new.self c.put-2.new.self c.put-3.new.self c.put.ensures c.put-2.ensures c.put-3.ensures)
    c.put_decimal.ensures c.put-4.ensures
