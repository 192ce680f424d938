-- Links that are kept.
use Rattle.std.proofs.Common.{◌≡◌, ℕ, Bool, true, false, ◌&&◌, List, [], length, refl, sym, ap, ap₂, ◌∙◌, ⊎_elim, inr}
use Rattle.std.specs.Prelude.{nat_le, if◌then◌else◌}
use Rattle.std.proofs.lemmas.Bool.{leb-true, le-leb}
use Rattle.ansi_html.specs.Links.{max_link, kept_link, is_linkable}
use Rattle.ansi_style.specs.Style.{plain}
use Rattle.ansi_html.specs.Html.{element, Standing, at_start}
use Rattle.ansi_html.specs.Writer.{kept}
use Rattle.ansi_html.proofs.ColorLemmas.{choose}
use Rattle.ansi_html.proofs.SoundLemmas.{IsSound, IsSound-none, AreSound}

pub kept_link-none : kept_link [] ≡ []
kept_link-none = choose (λ (l : List ℕ). l ≡ []) (is_linkable []) [] [] refl refl

-- at the start none is held
pub kept-start : kept at_start ≡ at_start
kept-start = ap (λ link. record { shown = element plain link; selected = element plain link; returned = false }) kept_link-none

-- one that is kept may stand in the HTML
IsSound-kept : (link : List ℕ) → IsSound (kept_link link)
IsSound-kept link = by_case (nat_le (length link) max_link) (is_linkable link) refl refl
  where
    by_case : (short linkable : Bool) → nat_le (length link) max_link ≡ short → is_linkable link ≡ linkable → IsSound (if short && linkable then link else [])
    by_case true true short is = record { is_link = inr is; short = leb-true (length link) max_link short }
    by_case true false short is = IsSound-none
    by_case false linkable short is = IsSound-none

pub AreSound-kept : (at : Standing) → AreSound (kept at)
AreSound-kept at = record { shown = IsSound-kept at.shown.link; selected = IsSound-kept at.selected.link }

-- and one that may stand there is kept
kept_link-sound : (link : List ℕ) → IsSound link → kept_link link ≡ link
kept_link-sound link sound =
    ⊎_elim (λ (none : link ≡ []). ap kept_link none ∙ kept_link-none ∙ sym none)
    (λ (is : is_linkable link ≡ true). ap₂ (λ (short linkable : Bool). if short && linkable then link else []) (le-leb (length link) max_link sound.short) is)
    sound.is_link

pub kept-sound : (at : Standing) → AreSound at → kept at ≡ at
kept-sound at sound =
    ap₂ (λ shown selected. record { shown = element at.shown.style shown; selected = element at.selected.style selected; returned = at.returned })
    (kept_link-sound at.shown.link sound.shown) (kept_link-sound at.selected.link sound.selected)
