use Rattle.std.proofs.Common.{Bool, Some, None, sym, ap, ◌∙◌, subst}
use Rattle.std.specs.Prelude.{if◌then◌else◌}
use Rattle.anstyle_parse.specs.Io.Output.{Adds}
use Rattle.anstyle_parse.proofs.Written.Output.{Adds-nil}
use Rattle.ansi_html.specs.Html.{change}
use Rattle.ansi_html.specs.Writer.{output_of, styling_of, standing_of, selected_of}
use Rattle.ansi_html.proofs.HtmlLemmas.{change-same}
use Rattle.ansi_html.proofs.performer.HtmlWriter.show_selected.Goals as goal

pub returns-else-self-clause-added : goal.returns-else-self-clause-added
returns-else-self-clause-added g c =
    let before = c.args.self.now in
    let styling = styling_of before in
    let shown = (standing_of before).shown in
    let none = ap (λ (has : Bool). change styling shown (selected_of (if has then Some before.selected else None) before.shown before.links)) c.if-self.false ∙ change-same styling shown in
    subst (λ text. Adds g.W.Sink text (output_of before) (output_of before)) (sym none) (Adds-nil g.W.Sink (output_of before))
