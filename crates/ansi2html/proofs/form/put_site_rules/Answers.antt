-- The rules of the classes, those of lines, and those of pages without rules.
use Rattle.std.proofs.Common.{◌++◌}
use Rattle.anstyle_parse.proofs.Written.Output.{Adds-append}
use Rattle.ansi_html.specs.Stylesheet.{stylesheet}
use Rattle.ansi2html.specs.Page.{line_rules, linked_rules}
use Rattle.ansi2html.proofs.form.put_site_rules.Goals as goal

pub returns : goal.returns
returns g c =
    let add = Adds-append g.W.Sink in
    let end = c.put.new.self in
    add (stylesheet c.args.scheme) (line_rules c.args.scheme ++ linked_rules) c.args.output.now c.put_stylesheet.new.output end c.put_stylesheet.ensures.added
    (add (line_rules c.args.scheme) linked_rules c.put_stylesheet.new.output c.put_line_rules.new.output end c.put_line_rules.ensures c.put.ensures)
