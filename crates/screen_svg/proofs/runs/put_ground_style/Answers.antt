use Rattle.std.proofs.Common.{codes, sym}
use Rattle.ansi_html.specs.Css.{ground_css}
use Rattle.ansi_html.proofs.DeclarationLemmas.{escaped_text-safe, AreSafe-ground}
use Rattle.screen_svg.proofs.AddsLemmas.{Adds-attribute}
use Rattle.screen_svg.proofs.runs.put_ground_style.Goals as goal

pub returns : goal.returns
returns g c =
    let value = ground_css c.args.style.now in
    Adds-attribute g.W.Sink (codes "style") value value c.args.output.now c.put.new.self c.put_ground.new.output c.put-2.new.self
    (sym (escaped_text-safe value (AreSafe-ground c.args.style.now))) c.put.ensures c.put_ground.ensures c.put-2.ensures
