-- The parts of the rules, one after another.
use Rattle.std.proofs.Common.{List, ℕ, subst}
use Rattle.anstyle_parse.specs.Io.Output.{Adds}
use Rattle.anstyle_parse.proofs.Written.Output.{Adds-append}
use Rattle.ansi2html.specs.Page.{number_color}
use Rattle.ansi2html.proofs.form.put_line_rules.Goals as goal

pub returns : goal.returns
returns g c =
    let color = number_color c.args.scheme in
    let end = c.put-3.new.self in
    let add = Adds-append g.W.Sink in
    let colored = subst (λ (text : List ℕ). Adds g.W.Sink text c.put.new.self c.put-2.new.self) c.number_color.ensures c.put-2.ensures in
    add _ _ c.args.output.now c.put.new.self end c.put.ensures (add color _ c.put.new.self c.put-2.new.self end colored c.put-3.ensures)
