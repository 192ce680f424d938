use Rattle.std.proofs.Common.{◌++◌, codes, decimal}
use Rattle.anstyle_parse.proofs.Written.Output.{Adds-append}
use Rattle.screen_svg.proofs.tags.put_pair.Goals as goal

pub returns : goal.returns
returns g c =
    let second = decimal c.args.second in
    let end = c.put_decimal-2.new.self in
    Adds-append g.W.Sink (decimal c.args.first) (codes " " ++ second) c.args.output.now c.put_decimal.new.self end c.put_decimal.ensures
    (Adds-append g.W.Sink (codes " ") second c.put_decimal.new.self c.put.new.self end c.put.ensures c.put_decimal-2.ensures)
