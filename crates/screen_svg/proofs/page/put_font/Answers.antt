use Rattle.std.proofs.Common.{codes, refl}
use Rattle.ansi_html.specs.Html.{escaped_text}
use Rattle.screen_svg.specs.Characters.{text_of}
use Rattle.screen_svg.proofs.AddsLemmas.{Adds-attribute}
use Rattle.screen_svg.proofs.page.put_font.Goals as goal

pub returns : goal.returns
returns g c =
    let value = text_of c.args.font.now in
    Adds-attribute g.W.Sink (codes "font-family") value (escaped_text value) c.args.output.now c.put.new.self c.put_text.new.output c.put-2.new.self
    refl c.put.ensures c.put_text.ensures c.put-2.ensures
