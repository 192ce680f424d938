use Rattle.std.proofs.Common.{◌∙◌, ap, codes, subst}
use Rattle.anstyle_parse.specs.Io.Output.{Adds}
use Rattle.ansi_style.specs.declared.style.Color.TheVariants.{Default}
use Rattle.ansi_html.specs.declared.contrast.Rgb.{Rgb}
use Rattle.ansi_html.specs.declared.palette.Shades.{Shades}
use Rattle.ansi_html.specs.Css.{declared, text_on}
use Rattle.ansi_html.proofs.stylesheet.put_ink.Goals as goal

pub returns : goal.returns
returns g c =
    subst (λ (color : Rgb). Adds g.W.Sink (declared (codes "color:") color) c.args.output.now c.put_declared.new.output)
    (c.text_on.ensures ∙ ap (λ (it : Shades). text_on c.args.dim Default it.fixed) c.indexed.ensures) c.put_declared.ensures
