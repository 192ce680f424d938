use Rattle.std.proofs.Common.{codes}
use Rattle.anstyle_parse.proofs.Written.Output.{Adds-append}
use Rattle.ansi_html.specs.Classes.{class_word}
use Rattle.ansi_html.proofs.class.put_name.Goals as goal

pub returns : goal.returns
returns g c =
    Adds-append g.W.Sink (codes "ansi-") (class_word c.args.class) c.args.output.now c.put.new.self c.put_word.new.output c.put.ensures c.put_word.ensures
