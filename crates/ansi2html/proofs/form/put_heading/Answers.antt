-- The tags around a name.
use Rattle.std.proofs.Common.{◌++◌, codes}
use Rattle.anstyle_parse.proofs.Written.Output.{Adds-append}
use Rattle.std.specs.Prelude.{[], ◌∷◌}
use Rattle.ansi_html.specs.Html.{escaped_text}
use Rattle.ansi2html.specs.Page.{lines}
use Rattle.ansi2html.proofs.form.put_heading.Goals as goal

pub returns : goal.returns
returns g c =
    let add = Adds-append g.W.Sink in
    let shown = escaped_text c.args.shown.now in
    let after = lines (codes "</h2>" ∷ []) in
    add (codes "<h2>") (shown ++ after) c.args.output.now c.put.new.self c.put-2.new.self c.put.ensures
    (add shown after c.put.new.self c.put_text.new.output c.put-2.new.self c.put_text.ensures.added c.put-2.ensures)
