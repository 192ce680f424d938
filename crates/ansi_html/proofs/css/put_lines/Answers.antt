use Rattle.std.proofs.Common.{◌++◌, codes, sym, ◌∙◌, subst}
use Rattle.anstyle_parse.specs.Io.Output.{Adds}
use Rattle.anstyle_parse.proofs.Written.Output.{Adds-append}
use Rattle.ansi_html.specs.Css.{text_if}
use Rattle.ansi_html.proofs.css.put_lines.Goals as goal

pub returns-then-has_line : goal.returns-then-has_line
returns-then-has_line g c =
    let end = c.put-then-has_line.new.self in
    let add = Adds-append g.W.Sink in
    let names = codes "text-decoration-line:" ++ (text_if c.args.underlined (codes " underline") ++ (text_if c.args.overlined (codes " overline") ++ (text_if c.args.struck_out (codes " line-through") ++ (text_if c.args.blink (codes " blink") ++ (codes ";"))))) in
    subst (λ wanted. Adds g.W.Sink (text_if wanted names) c.args.output.now end) (sym c.if-has_line.true ∙ c.has_line.ensures) (
    add (codes "text-decoration-line:") (text_if c.args.underlined (codes " underline") ++ (text_if c.args.overlined (codes " overline") ++ (text_if c.args.struck_out (codes " line-through") ++ (text_if c.args.blink (codes " blink") ++ codes ";")))) c.args.output.now c.put.new.self end c.put.ensures
    (add (text_if c.args.underlined (codes " underline")) (text_if c.args.overlined (codes " overline") ++ (text_if c.args.struck_out (codes " line-through") ++ (text_if c.args.blink (codes " blink") ++ codes ";"))) c.put.new.self c.put_if.new.output end c.put_if.ensures
    (add (text_if c.args.overlined (codes " overline")) (text_if c.args.struck_out (codes " line-through") ++ (text_if c.args.blink (codes " blink") ++ codes ";")) c.put_if.new.output c.put_if-then-has_line.new.output end c.put_if-then-has_line.ensures
    (add (text_if c.args.struck_out (codes " line-through")) (text_if c.args.blink (codes " blink") ++ codes ";") c.put_if-then-has_line.new.output c.put_if-then-has_line-2.new.output end c.put_if-then-has_line-2.ensures
    (add (text_if c.args.blink (codes " blink")) (codes ";") c.put_if-then-has_line-2.new.output c.put_if-then-has_line-3.new.output end c.put_if-then-has_line-3.ensures c.put-then-has_line.ensures))))
    )
