-- The parts of the link, one after another.
use Rattle.std.proofs.Common.{◌++◌, ◌∷◌, [], List, ℕ, codes, subst}
use Rattle.anstyle_parse.specs.Io.Output.{Adds}
use Rattle.anstyle_parse.proofs.Written.Output.{Adds-append}
use Rattle.ansi_html.specs.Html.{escaped_text}
use Rattle.ansi2html.specs.Page.{lines, named_scheme}
use Rattle.ansi2html.proofs.form.put_link.Goals as goal

pub returns : goal.returns
returns g c =
    let address = escaped_text c.args.address.now in
    let before = codes "<link rel=\"stylesheet\" href=\"" in
    let after = lines (codes "\">" ∷ []) in
    let end = c.put-3.new.self in
    let add = Adds-append g.W.Sink in
    let schemed = subst (λ (text : List ℕ). Adds g.W.Sink text c.args.output.now c.put.new.self) c.color_scheme.ensures c.put.ensures in
    add (named_scheme c.args.scheme) (before ++ (address ++ after)) c.args.output.now c.put.new.self end schemed
    (add before (address ++ after) c.put.new.self c.put-2.new.self end c.put-2.ensures
    (add address after c.put-2.new.self c.put_value.new.output end c.put_value.ensures.added c.put-3.ensures))
