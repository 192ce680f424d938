use Rattle.std.proofs.Common.{◌++◌, append_assoc, codes, subst}
use Rattle.anstyle_parse.specs.Io.Output.{Adds}
use Rattle.anstyle_parse.proofs.Written.Output.{Adds-append}
use Rattle.ansi_html.specs.Palette.{hex}
use Rattle.ansi_html.proofs.css.put_light_dark.Goals as goal

pub returns : goal.returns
returns g c =
    let property = c.args.property.now in
    let light = hex c.args.light in
    let dark = hex c.args.dark in
    let end = c.put-3.new.self in
    let add = Adds-append g.W.Sink in
    let second = subst (λ text. Adds g.W.Sink text c.put_hex.new.output end) (append_assoc dark (codes ")") (codes ";"))
    (add (dark ++ codes ")") (codes ";") c.put_hex.new.output c.put_hex-2.new.output end c.put_hex-2.ensures c.put-3.ensures) in
    let first = subst (λ text. Adds g.W.Sink text c.put-2.new.self end) (append_assoc light (codes ",") (dark ++ codes ");"))
    (add (light ++ codes ",") (dark ++ codes ");") c.put-2.new.self c.put_hex.new.output end c.put_hex.ensures second) in
    add property (codes "light-dark(" ++ (light ++ (codes "," ++ (dark ++ codes ");")))) c.args.output.now c.put.new.self end c.put.ensures
    (add (codes "light-dark(") (light ++ (codes "," ++ (dark ++ codes ");"))) c.put.new.self c.put-2.new.self end c.put-2.ensures first)
