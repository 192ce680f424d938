use Rattle.std.proofs.Common.{codes}
use Rattle.anstyle_parse.proofs.Written.Output.{Adds-append}
use Rattle.ansi_html.specs.Css.{text_if}
use Rattle.ansi_html.specs.Tags.{rare_css}
use Rattle.ansi_html.proofs.css.put_others.Goals as goal

pub returns-then-has_rare : goal.returns-then-has_rare
returns-then-has_rare g c =
    let style = c.args.style.now in
    Adds-append g.W.Sink (text_if style.bold (codes "font-weight:bold;")) (rare_css style) c.args.output.now c.put_if.new.output c.put_rare.new.output
    c.put_if.ensures c.put_rare.ensures
