use Rattle.std.proofs.Common.{refl, sym, ap, ◌∙◌}
use Rattle.anstyle_parse.specs.Stream.Call.{csi_dispatch}
use Rattle.anstyle_parse.specs.Views.Params.{groups_shown}
use Rattle.anstyle_parse.proofs.Written.Output.{Adds-nil}
use Rattle.ansi_style.specs.declared.style.Style.{Style}
use Rattle.ansi_style.specs.Rendition.{style_after}
use Rattle.ansi_html.specs.ShownLinks.{selected_link}
use Rattle.ansi_html.specs.Html.{Element, element, text_html}
use Rattle.ansi_html.specs.Writer.{output_of, standing_of}
use Rattle.ansi_html.proofs.SelectedLemmas.{selected-kept}
use Rattle.ansi_html.proofs.performer.HtmlWriterPerform.csi_dispatch.Goals as goal

pub returns : goal.returns
unfolding text_html
returns g c =
    let call = csi_dispatch (groups_shown c.args.params.now) c.args.intermediates.now c.args.ignore c.args.action in
    let before = c.args.self.now in
    let at = standing_of before in
    record {
      styling = refl;
      standing = ap (λ (style : Style). record { shown = at.shown; selected = element style (selected_link before.links); returned = at.returned }) c.csi_dispatch.ensures
          ∙ ap (λ (it : Element). record { shown = at.shown; selected = element (style_after call it.style) it.link; returned = at.returned }) (sym (selected-kept before));
      added = Adds-nil g.W.Sink (output_of before);
    }
