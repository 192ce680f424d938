use Rattle.std.proofs.Common.{◌≡◌, false, List, [], ◌∷◌, codes, sym, ap, ◌∙◌, subst}
use Rattle.std.specs.List.{flat_map}
use Rattle.anstyle_parse.specs.Io.Output.{Adds}
use Rattle.ansi_style.specs.declared.style.Style.{Style}
use Rattle.ansi_style.specs.Style.{are_equal}
use Rattle.ansi_html.specs.Css.{css}
use Rattle.ansi_html.specs.Html.{is_plain}
use Rattle.ansi_html.proofs.DeclarationLemmas.{escaped_text-safe, AreSafe-css}
use Rattle.screen_svg.specs.Xml.{Attribute, attribute, attribute_xml}
use Rattle.screen_svg.proofs.AddsLemmas.{Adds-attribute, Adds-last}
use Rattle.screen_svg.proofs.ChoiceLemmas.{unchosen}
use Rattle.screen_svg.proofs.elements.put_text_style.Goals as goal

pub returns-then-not-is_same : goal.returns-then-not-is_same
returns-then-not-is_same g c =
    let style = c.args.style.now in
    let styled : is_plain style ≡ false =
    ap (λ (it : Style). are_equal style it) (sym c.default.ensures) ∙ sym c.is_same.ensures ∙ c.if-not-is_same.true in
    let value = css c.args.scheme style in
    let it : Attribute = attribute (codes "style") value in
    let start = c.args.output.now in
    let end = c.put-then-not-is_same.new.self in
    subst (λ (attributes : List Attribute). Adds g.W.Sink (flat_map attribute_xml attributes) start end) (unchosen [] (it ∷ []) (is_plain style) styled)
    (Adds-last g.W.Sink it start end
    (Adds-attribute g.W.Sink (codes "style") value value start c.put.new.self c.put_declarations.new.output end
    (sym (escaped_text-safe value (AreSafe-css c.args.scheme style))) c.put.ensures c.put_declarations.ensures c.put-then-not-is_same.ensures))
