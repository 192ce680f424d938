use Rattle.anstyle_parse.proofs.Written.Output.{Adds-append}
use Rattle.ansi_html.specs.Css.{reversed_text, reversed_ground}
use Rattle.ansi_html.proofs.declarations.put_on_reversed.Goals as goal

pub returns : goal.returns
returns g c =
    Adds-append g.W.Sink (reversed_text c.args.scheme c.args.dim c.args.text) (reversed_ground c.args.scheme) c.args.output.now
    c.put_reversed_text.new.output c.put_reversed_ground.new.output c.put_reversed_text.ensures c.put_reversed_ground.ensures
