use Rattle.ansi_html.proofs.ColorLemmas.{AreReadable-css}
use Rattle.std.proofs.Common.{subst}
use Rattle.anstyle_parse.specs.Io.Output.{Adds}
use Rattle.screen_svg.specs.declared.drawing.Extent.{Extent}
use Rattle.screen_svg.specs.Picture.{svg}
use Rattle.screen_svg.proofs.write_svg.Goals as goal

pub returns-clause-contrast : goal.returns-clause-contrast
returns-clause-contrast g c = AreReadable-css

pub returns-clause-added : goal.returns-clause-added
returns-clause-added g c =
    subst (λ (extent : Extent). Adds g.W.Sink (svg c.args.drawing c.args.title.now c.args.font.now c.args.links.now extent c.args.screen.now) c.args.output c.write_rows.result)
    c.all_of.ensures.extent c.write_rows.ensures
