use Rattle.std.proofs.Common.{◌++◌, codes}
use Rattle.anstyle_parse.proofs.Written.Output.{Adds-append}
use Rattle.ansi_html.specs.Css.{colors_css, others_css}
use Rattle.ansi_html.proofs.tag.put_tag.Goals as goal

pub returns : goal.returns
returns g c =
    let style = c.args.style.now in
    let colors = codes "<span style=\"" ++ colors_css c.args.scheme style in
    let start = c.args.output.now in
    let end = c.put.new.self in
    let add = Adds-append g.W.Sink in
    add (colors ++ others_css style) (codes "\">") start c.put_others.new.output end
    (add colors (others_css style) start c.put_colors.new.output c.put_others.new.output c.put_colors.ensures c.put_others.ensures) c.put.ensures
