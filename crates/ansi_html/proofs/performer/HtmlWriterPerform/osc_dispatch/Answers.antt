use Rattle.std.proofs.Common.{Bool, List, ℕ, refl, sym, ap, ap₂, ◌∙◌}
use Rattle.std.specs.Prelude.{if◌then◌else◌}
use Rattle.anstyle_parse.proofs.Written.Output.{Adds-nil}
use Rattle.ansi_html.specs.Links.{is_link_command, link_of}
use Rattle.ansi_html.specs.Html.{Element, element, text_html}
use Rattle.ansi_html.specs.Writer.{output_of, standing_of}
use Rattle.ansi_html.proofs.LinkLemmas.{texts}
use Rattle.ansi_html.proofs.SelectedLemmas.{selected-kept}
use Rattle.ansi_html.proofs.performer.HtmlWriterPerform.osc_dispatch.Goals as goal

pub returns-then-is_link_command : goal.returns-then-is_link_command
unfolding text_html
returns-then-is_link_command g c =
    let before = c.args.self.now in
    let at = standing_of before in
    let command = sym c.is_link_command.ensures ∙ c.if-is_link_command.true in
    let link = c.select.ensures.selected ∙ sym (ap (λ (it : Bool). if it then link_of (texts c.args.params.now) else at.selected.link) command) in
    record {
      styling = refl;
      standing = ap₂ (λ (l m : List ℕ). record { shown = element before.shown l; selected = element before.selected m; returned = at.returned }) c.select.ensures.shown link
          ∙ ap (λ (it : Element). record { shown = at.shown; selected = element it.style (if is_link_command (texts c.args.params.now) then link_of (texts c.args.params.now) else at.selected.link); returned = at.returned }) (sym (selected-kept before));
      added = Adds-nil g.W.Sink (output_of before);
    }

pub returns-else-is_link_command : goal.returns-else-is_link_command
unfolding text_html
returns-else-is_link_command g c =
    let before = c.args.self.now in
    let at = standing_of before in
    let no = sym c.is_link_command.ensures ∙ c.if-is_link_command.false in
    let link = ap (λ (it : Bool). if it then link_of (texts c.args.params.now) else at.selected.link) no in
    record {
      styling = refl;
      standing = ap (λ (l : List ℕ). record { shown = at.shown; selected = element at.selected.style l; returned = at.returned }) (sym link);
      added = Adds-nil g.W.Sink (output_of before);
    }
