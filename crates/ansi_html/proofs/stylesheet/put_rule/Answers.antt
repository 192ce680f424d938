use Rattle.std.proofs.Common.{◌++◌, codes}
use Rattle.anstyle_parse.proofs.Written.Output.{Adds-append}
use Rattle.ansi_html.specs.Classes.{class_name}
use Rattle.ansi_html.specs.Stylesheet.{declarations_of}
use Rattle.ansi_html.proofs.stylesheet.put_rule.Goals as goal

pub returns : goal.returns
returns g c =
    let end = c.put-3.new.self in
    let add = Adds-append g.W.Sink in
    let name = class_name c.args.class in
    let declarations = declarations_of c.args.scheme c.args.class in
    let block = codes "{" ++ (declarations ++ codes "}\n") in
    add (codes ".") (name ++ block) c.args.output.now c.put.new.self end c.put.ensures
    (add name block c.put.new.self c.put_name.new.output end c.put_name.ensures
    (add (codes "{") (declarations ++ codes "}\n") c.put_name.new.output c.put-2.new.self end c.put-2.ensures
    (add declarations (codes "}\n") c.put-2.new.self c.put_declarations.new.output end c.put_declarations.ensures c.put-3.ensures)))
