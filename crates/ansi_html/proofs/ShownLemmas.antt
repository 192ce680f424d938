-- The links that a reader reads.
use Rattle.std.proofs.Common.{◌≡◌, ℕ, List, [], ◌∷◌, ◌++◌, map, refl, sym, subst}
use Rattle.std.specs.List.{AllByRecursion}
use Rattle.anstyle_parse.specs.Stream.Call.{Call}
use Rattle.ansi_strip.specs.Strip.{stripped_call}
use Rattle.ansi_html.specs.declared.scheme.Styling.{Styling}
use Rattle.ansi_html.specs.declared.scheme.Styling.TheVariants.{Inline, Classes}
use Rattle.ansi_html.specs.Links.{IsLink}
use Rattle.ansi_html.specs.Html.{Element, no_element, element_value, element_after, html}
use Rattle.ansi_html.specs.Reader.{Shown, Attributes, href_of, under, attributes_by, attributes_of, read, shown_from}
use Rattle.ansi_html.proofs.ReadLemmas.{read-html}
use Rattle.ansi_html.proofs.SoundLemmas.{IsSound, IsSound-none, IsSound-after}

unfoldable pub AreLinks : List Shown → Type 0
AreLinks shown = AllByRecursion IsLink (map href_of shown)

pub AreLinks-append : (first second : List Shown) → AreLinks first → AreLinks second → AreLinks (first ++ second)
unfolding AreLinks
AreLinks-append [] second one other = other
AreLinks-append (it ∷ first) second one other = (one.0, AreLinks-append first second one.1 other)

pub AreLinks-under : (attributes : Attributes) (bytes : List ℕ) → IsLink attributes.href → AreLinks (map (under attributes) bytes)
unfolding AreLinks
AreLinks-under attributes [] is = tt
AreLinks-under attributes (b ∷ bytes) is = (is, AreLinks-under attributes bytes is)

pub href-by : (styling : Styling) (value link : List ℕ) → link ≡ (attributes_by styling value link).href
href-by (Inline scheme) value link = refl
href-by Classes value link = refl

AreLinks-from : (styling : Styling) (element : Element) (calls : List Call) → IsSound element.link → AreLinks (shown_from styling element calls)
unfolding AreLinks
AreLinks-from styling element [] sound = tt
AreLinks-from styling element (call ∷ calls) sound =
    AreLinks-append (map (under (attributes_of styling element)) (stripped_call call)) (shown_from styling (element_after call element) calls)
    (AreLinks-under (attributes_of styling element) (stripped_call call) (subst IsLink (href-by styling (element_value styling element) element.link) sound.is_link))
    (AreLinks-from styling (element_after call element) calls (IsSound-after call element.link sound))

pub AreLinks-html : (styling : Styling) (calls : List Call) → AllByRecursion IsLink (map href_of (read (html styling calls)))
unfolding AreLinks
AreLinks-html styling calls =
    subst (λ l. AllByRecursion IsLink (map href_of l)) (sym (read-html styling calls)) (AreLinks-from styling no_element calls IsSound-none)
