use Rattle.std.proofs.Common.{codes, subst}
use Rattle.anstyle_parse.specs.Io.Output.{Adds}
use Rattle.anstyle_parse.proofs.Written.Output.{Adds-append}
use Rattle.ansi_html.specs.declared.contrast.Rgb.{Rgb}
use Rattle.ansi_html.specs.Css.{declared, text_on}
use Rattle.ansi_html.proofs.declarations.put_on_chosen.Goals as goal

pub returns : goal.returns
returns g c =
    let text = text_on c.args.dim c.args.text c.args.behind in
    Adds-append g.W.Sink (declared (codes "color:") text) (declared (codes "background-color:") c.args.behind) c.args.output.now
    c.put_declared.new.output c.put_declared-2.new.output
    (subst (λ (color : Rgb). Adds g.W.Sink (declared (codes "color:") color) c.args.output.now c.put_declared.new.output) c.text_on.ensures c.put_declared.ensures)
    c.put_declared-2.ensures
