-- The parts of the tag, one after another.
use Rattle.std.proofs.Common.{◌++◌, codes, decimal}
use Rattle.anstyle_parse.proofs.Written.Output.{Adds-append}
use Rattle.ansi_html.proofs.line.put_line_begin.Goals as goal

pub returns : goal.returns
returns g c =
    let digits = decimal c.args.number in
    let last = codes "\"></a>" in
    let line = codes "\" data-line=\"" in
    let link = codes "\"><a href=\"#L" in
    let end = c.put-4.new.self in
    let add = Adds-append g.W.Sink in
    add (codes "<span id=\"L") (digits ++ (link ++ (digits ++ (line ++ (digits ++ last))))) c.args.output.now c.put.new.self end c.put.ensures
    (add digits (link ++ (digits ++ (line ++ (digits ++ last)))) c.put.new.self c.put_number.new.output end c.put_number.ensures
    (add link (digits ++ (line ++ (digits ++ last))) c.put_number.new.output c.put-2.new.self end c.put-2.ensures
    (add digits (line ++ (digits ++ last)) c.put-2.new.self c.put_number-2.new.output end c.put_number-2.ensures
    (add line (digits ++ last) c.put_number-2.new.output c.put-3.new.self end c.put-3.ensures
    (add digits last c.put-3.new.self c.put_number-3.new.output end c.put_number-3.ensures c.put-4.ensures)))))
