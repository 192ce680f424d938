use Rattle.anstyle_parse.proofs.Written.Output.{Adds-append}
use Rattle.ansi_html.specs.Css.{colors_css, others_css}
use Rattle.ansi_html.proofs.declarations.put_declarations.Goals as goal

pub returns : goal.returns
returns g c =
    Adds-append g.W.Sink (colors_css c.args.scheme c.args.style.now) (others_css c.args.style.now) c.args.output.now
    c.put_colors.new.output c.put_others.new.output c.put_colors.ensures c.put_others.ensures
