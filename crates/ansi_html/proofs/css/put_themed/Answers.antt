use Rattle.std.proofs.Common.{sym, subst}
use Rattle.anstyle_parse.specs.Io.Output.{Adds}
use Rattle.anstyle_parse.proofs.Written.Output.{Adds-append}
use Rattle.ansi_html.specs.declared.scheme.Scheme.{Scheme}
use Rattle.ansi_html.specs.Css.{declared as declared_color, light_dark, themed}
use Rattle.ansi_html.proofs.css.put_themed.Goals as goal

pub returns-in-Both : goal.returns-in-Both
returns-in-Both g c =
    let property = c.args.property.now in
    let end = c.put_light_dark.new.output in
    subst (λ (scheme : Scheme). Adds g.W.Sink (themed scheme property c.args.light c.args.dark) c.args.output.now end) (sym c.in-Both.is)
    (Adds-append g.W.Sink (declared_color property c.args.light) (light_dark property c.args.light c.args.dark)
    c.args.output.now c.put_declared-in-Both.new.output end c.put_declared-in-Both.ensures c.put_light_dark.ensures)
