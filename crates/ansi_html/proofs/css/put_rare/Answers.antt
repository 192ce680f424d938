use Rattle.std.proofs.Common.{◌++◌, Bool, codes, subst}
use Rattle.anstyle_parse.specs.Io.Output.{Adds}
use Rattle.anstyle_parse.proofs.Written.Output.{Adds-append}
use Rattle.ansi_html.specs.Css.{text_if, is_underlined, lines_css, underline_css}
use Rattle.ansi_html.proofs.css.put_rare.Goals as goal

pub returns : goal.returns
returns g c =
    let style = c.args.style.now in
    let end = c.put_if-2.new.output in
    let added = Adds g.W.Sink in
    let add = Adds-append g.W.Sink in
    let lines = subst (λ (underlined : Bool). added (lines_css underlined style.overlined style.struck_out style.blink) c.put_if.new.output c.put_lines.new.output) c.is_underlined.ensures c.put_lines.ensures in
    add (text_if style.italic (codes "font-style:italic;")) (lines_css (is_underlined style.underline) style.overlined style.struck_out style.blink ++ (underline_css style.underline ++ text_if style.hidden (codes "visibility:hidden;"))) c.args.output.now c.put_if.new.output end c.put_if.ensures
    (add (lines_css (is_underlined style.underline) style.overlined style.struck_out style.blink) (underline_css style.underline ++ text_if style.hidden (codes "visibility:hidden;")) c.put_if.new.output c.put_lines.new.output end lines
    (add (underline_css style.underline) (text_if style.hidden (codes "visibility:hidden;")) c.put_lines.new.output c.put_drawn.new.output end c.put_drawn.ensures c.put_if-2.ensures))
