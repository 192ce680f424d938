use Rattle.std.proofs.Common.{◌++◌, codes}
use Rattle.anstyle_parse.proofs.Written.Output.{Adds-append}
use Rattle.ansi_html.specs.Classes.{class_names, classes_of}
use Rattle.ansi_html.proofs.performer.put_classes_between.Goals as goal

pub returns : goal.returns
returns g c =
    let end = c.put-2.new.self in
    let add = Adds-append g.W.Sink in
    let names = class_names (classes_of c.args.linked c.args.style) in
    add c.args.before.now (names ++ codes "\">") c.args.output.now c.put.new.self end c.put.ensures
    (add names (codes "\">") c.put.new.self c.put_classes.new.output end c.put_classes.ensures c.put-2.ensures)
