use Rattle.std.proofs.Common.{List, ℕ, sym, ap, ◌∙◌, subst}
use Rattle.anstyle_parse.specs.Io.Output.{Adds}
use Rattle.ansi_html.specs.Html.{Element, element, change}
use Rattle.ansi_html.specs.Writer.{output_of, styling_of, standing_of, in_element}
use Rattle.ansi_html.proofs.SelectedLemmas.{selected-kept}
use Rattle.ansi_html.proofs.performer.HtmlWriter.change.Goals as goal

pub returns-clause-standing : goal.returns-clause-standing
returns-clause-standing g c =
    let before = c.args.self.now in
    ap (λ (link : List ℕ). in_element (element before.selected link) before.returned) c.show_selected.ensures.shown
    ∙ ap (λ (it : Element). in_element it before.returned) (sym (selected-kept before))

pub returns-clause-added : goal.returns-clause-added
returns-clause-added g c =
    let before = c.args.self.now in
    subst (λ (it : Element). Adds g.W.Sink (change (styling_of before) (standing_of before).shown it) (output_of before) c.put_change.new.output)
    (sym (selected-kept before)) c.put_change.ensures
