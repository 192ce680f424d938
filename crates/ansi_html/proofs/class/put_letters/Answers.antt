use Rattle.std.proofs.Common.{◌++◌, codes}
use Rattle.anstyle_parse.proofs.Written.Output.{Adds-append}
use Rattle.ansi_html.specs.Css.{text_if}
use Rattle.ansi_html.proofs.class.put_letters.Goals as goal

pub returns : goal.returns
returns g c =
    let end = c.put_if-4.new.output in
    let add = Adds-append g.W.Sink in
    let over = text_if c.args.overlined (codes "o") in
    let struck = text_if c.args.struck_out (codes "s") in
    let blink = text_if c.args.blink (codes "k") in
    add (text_if c.args.underlined (codes "u")) (over ++ (struck ++ blink)) c.args.output.now c.put_if.new.output end c.put_if.ensures
    (add over (struck ++ blink) c.put_if.new.output c.put_if-2.new.output end c.put_if-2.ensures
    (add struck blink c.put_if-2.new.output c.put_if-3.new.output end c.put_if-3.ensures c.put_if-4.ensures))
