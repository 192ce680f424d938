-- What a writer of HTML keeps as selected is selected, whether or not anything has been since the last text.
use Rattle.std.proofs.Common.{◌≡◌, Bool, true, false, Some, None, refl, sym, ap, ap₂}
use Rattle.std.specs.Prelude.{not, if◌then◌else◌}
use Rattle.ansi_style.specs.declared.style.Style.{Style}
use Rattle.ansi_html.specs.declared.performer.HtmlWriter.{HtmlWriter}
use Rattle.ansi_html.specs.declared.link.Links.{Links}
use Rattle.ansi_html.specs.ShownLinks.{has_next, link_at, shown_link, selected_link}
use Rattle.ansi_html.specs.Html.{element}
use Rattle.ansi_html.specs.Writer.{next_of, selected_of}

by_flag : (has_selected : Bool) (shown selected : Style) (links : Links)
    → (has_selected ≡ false → selected ≡ shown) → (has_selected ≡ false → has_next links ≡ false)
    → selected_of (if has_selected then Some selected else None) shown links ≡ element selected (selected_link links)
by_flag true shown selected links style link = refl
by_flag false shown selected links style link =
    ap₂ element (sym (style refl))
    (sym (ap (λ (is : Bool). if is then link_at (not links.shows_second) links else shown_link links) (link refl)))

pub selected-kept : {W : Type 0} (performer : HtmlWriter W)
    → selected_of (next_of performer) performer.shown performer.links ≡ element performer.selected (selected_link performer.links)
selected-kept performer =
    by_flag performer.has_selected performer.shown performer.selected performer.links performer.same_style performer.same_link
