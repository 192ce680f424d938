use Rattle.std.proofs.Common.{ap, sym, codes, subst}
use Rattle.anstyle_parse.specs.Io.Output.{Adds}
use Rattle.ansi_html.specs.declared.class.Class.{Class}
use Rattle.ansi_html.specs.declared.contrast.Rgb.{Rgb}
use Rattle.ansi_html.specs.declared.palette.Shades.{Shades}
use Rattle.ansi_html.specs.Css.{declared}
use Rattle.ansi_html.specs.Stylesheet.{declarations_of}
use Rattle.ansi_html.proofs.stylesheet.put_declarations.Goals as goal

pub returns-in-Ground : goal.returns-in-Ground
returns-in-Ground g c =
    let end = c.put_declared-in-Ground.new.output in
    subst (λ (class : Class). Adds g.W.Sink (declarations_of c.args.scheme class) c.args.output.now end) (sym c.in-Ground.is)
    (subst (λ (color : Rgb). Adds g.W.Sink (declared (codes "background-color:") color) c.args.output.now end)
    (ap (λ (it : Shades). it.fixed) c.indexed-in-Ground.ensures) c.put_declared-in-Ground.ensures)

pub returns-in-Italic : goal.returns-in-Italic
returns-in-Italic g c =
    subst (λ (class : Class). Adds g.W.Sink (declarations_of c.args.scheme class) c.args.output.now c.put-in-Italic.new.self) (sym c.in-Italic.is) c.put-in-Italic.ensures

pub returns-in-Hidden : goal.returns-in-Hidden
returns-in-Hidden g c =
    subst (λ (class : Class). Adds g.W.Sink (declarations_of c.args.scheme class) c.args.output.now c.put-in-Hidden.new.self) (sym c.in-Hidden.is) c.put-in-Hidden.ensures
