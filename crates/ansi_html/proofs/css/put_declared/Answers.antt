use Rattle.std.proofs.Common.{◌++◌, codes}
use Rattle.anstyle_parse.proofs.Written.Output.{Adds-append}
use Rattle.ansi_html.specs.Palette.{hex}
use Rattle.ansi_html.proofs.css.put_declared.Goals as goal

pub returns : goal.returns
returns g c =
    Adds-append g.W.Sink c.args.property.now (hex c.args.color ++ codes ";") c.args.output.now c.put.new.self c.put_hex.new.output
    c.put.ensures c.put_hex.ensures
