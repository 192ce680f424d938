-- Links that stand in the HTML: none, or a URI of one of the schemes, and of so many bytes.
use Rattle.std.proofs.Common.{◌≡◌, ◌≤◌, ℕ, Bool, true, false, ◌&&◌, ◌||◌, eqb, List, [], ◌∷◌, ◌++◌, codes, length, drop, refl, sym, ap, ◌∙◌, subst, arith, ⊎_elim, inl, inr}
use Rattle.std.specs.Prelude.{nat_eq, if◌then◌else◌}
use Rattle.std.specs.List.{list_all, starts_with}
use Rattle.std.proofs.lemmas.Bool.{and_parts, and_from, or_cases, or_left, or_right, or_parts, eqb-true}
use Rattle.std.proofs.lemmas.Bool.Decides.{Decides-eqb}
use Rattle.std.proofs.lemmas.Slice.Eq.{starts_is}
use Rattle.std.proofs.lemmas.List.Folds.{list_all-append}
use Rattle.std.proofs.lemmas.Grind.{flat_map-append}
use Rattle.anstyle_parse.specs.Stream.Call.{Call, print, execute, hook, put, unhook, osc_dispatch, csi_dispatch, esc_dispatch}
use Rattle.ansi_strip.specs.Strip.{stripped_call}
use Rattle.ansi_html.specs.Links.{has_scheme, is_visible, is_linkable, IsLink, is_link_command, is_whole, uri_of, link_of, link_after}
use Rattle.ansi_html.specs.Html.{escaped, escaped_text, Element, Standing, at_start, after_text, standing_after}
use Rattle.ansi_html.specs.Grammar.{is_special, is_href_byte, IsHref}
use Rattle.ansi_html.proofs.HtmlLemmas.{escaped-clear}
use Rattle.ansi_html.proofs.LinkLemmas.{length-uri}

pub record IsSound (link : List ℕ) : Type 0 where
  pub is_link : IsLink link
  pub short : length link ≤ 1035

pub IsSound-none : IsSound []
IsSound-none = record { is_link = inl refl; short = omega arith }

pub IsSound-of : (parts : List (List ℕ)) → IsSound (link_of parts)
unfolding link_of
IsSound-of parts = by_case (is_whole parts) (is_linkable (uri_of parts)) refl refl
  where
    by_case : (whole linkable : Bool) → is_whole parts ≡ whole → is_linkable (uri_of parts) ≡ linkable
        → IsSound (if whole && linkable then uri_of parts else [])
    by_case true true whole is = record { is_link = inr is; short = length-uri parts whole }
    by_case true false whole is = IsSound-none
    by_case false linkable whole is = IsSound-none

pub IsSound-after : (call : Call) (link : List ℕ) → IsSound link → IsSound (link_after call link)
IsSound-after (print c) link is = is
IsSound-after (execute b) link is = is
IsSound-after (hook gs is ig f) link sound = sound
IsSound-after (put b) link is = is
IsSound-after unhook link is = is
IsSound-after (osc_dispatch parts bell) link is = by_case (is_link_command parts)
  where
    by_case : (command : Bool) → IsSound (if command then link_of parts else link)
    by_case true = IsSound-of parts
    by_case false = is
IsSound-after (csi_dispatch gs is ig f) link sound = sound
IsSound-after (esc_dispatch is ig f) link sound = sound

-- where the HTML of a stream stands
pub record AreSound (at : Standing) : Type 0 where
  pub shown : IsSound at.shown.link
  pub selected : IsSound at.selected.link

pub AreSound-start : AreSound at_start
AreSound-start = record { shown = IsSound-none; selected = IsSound-none }

pub either : (before after : Element) (bytes : List ℕ) → IsSound before.link → IsSound after.link → IsSound (after_text before after bytes).link
either before after [] one other = one
either before after (b ∷ bytes) one other = other

pub AreSound-after : (call : Call) (at : Standing) → AreSound at → AreSound (standing_after call at)
AreSound-after call at sound = record {
  shown = either at.shown at.selected (stripped_call call) sound.shown sound.selected;
  selected = IsSound-after call at.selected.link sound.selected;
}

-- a text that begins so still does when it is escaped
begins-escaped : (first link : List ℕ) → escaped_text first ≡ first → starts_with nat_eq link first ≡ true → starts_with nat_eq (escaped_text link) first ≡ true
begins-escaped first link same begins =
    let rest = drop (length first) link in
    let whole = (starts_is {E = nat_eq} Decides-eqb link first (starts_with nat_eq link first) refl).0 begins in
    let escaped_whole : escaped_text link ≡ first ++ escaped_text rest
    = ap escaped_text whole ∙ flat_map-append escaped first rest ∙ ap (λ l. l ++ escaped_text rest) same in
    (starts_is {E = nat_eq} Decides-eqb (escaped_text link) first (starts_with nat_eq (escaped_text link) first) refl).1 (escaped_text rest) escaped_whole

has_scheme-escaped : (link : List ℕ) → has_scheme link ≡ true → has_scheme (escaped_text link) ≡ true
unfolding has_scheme
has_scheme-escaped link is =
    let text = escaped_text link in
    let begins : List ℕ → List ℕ → Bool = λ l first. starts_with nat_eq l first in
    ⊎_elim
    (λ h. or_left (begins text (codes "https://")) _ (begins-escaped (codes "https://") link refl h))
    (λ others. or_right (begins text (codes "https://")) (begins text (codes "http://") || begins text (codes "mailto:"))
    (⊎_elim
    (λ h. or_left (begins text (codes "http://")) _ (begins-escaped (codes "http://") link refl h))
    (λ h. or_right (begins text (codes "http://")) (begins text (codes "mailto:")) (begins-escaped (codes "mailto:") link refl h))
    (or_cases (begins link (codes "http://")) (begins link (codes "mailto:")) others)))
    (or_cases (begins link (codes "https://")) _ is)

-- visible bytes, escaped, may stand in an href
AreHref : List ℕ → Type 0
AreHref bytes = list_all is_href_byte bytes ≡ true

AreHref-special : (b : ℕ) → is_special b ≡ true → AreHref (escaped b)
unfolding is_special AreHref is_href_byte
AreHref-special b is =
    let P : ℕ → Type 0 = λ k. AreHref (escaped k) in
    let at : (k : ℕ) → P k → eqb b k ≡ true → P b = λ k h e. subst P (sym (eqb-true b k e)) h in
    ⊎_elim (at 0x26 refl) (λ h. ⊎_elim (at 0x3C refl) (λ h. ⊎_elim (at 0x3E refl) (λ h. ⊎_elim (at 0x22 refl) (λ h. ⊎_elim (at 0x27 refl) (at 0x0D refl)
    (or_cases (eqb b 0x27) (eqb b 0x0D) h)) (or_cases (eqb b 0x22) _ h)) (or_cases (eqb b 0x3E) _ h)) (or_cases (eqb b 0x3C) _ h)) (or_cases (eqb b 0x26) _ is)

href-clear : (b : ℕ) → is_special b ≡ false → is_visible b ≡ true → is_href_byte b ≡ true
unfolding is_special is_href_byte
href-clear b clear visible =
    let h0 = or_parts (eqb b 0x26) _ clear in
    let h1 = or_parts (eqb b 0x3C) _ h0.1 in
    let h2 = or_parts (eqb b 0x3E) _ h1.1 in
    let h3 = or_parts (eqb b 0x22) _ h2.1 in
    let h4 = or_parts (eqb b 0x27) (eqb b 0x0D) h3.1 in
    rw (visible, h3.0, h4.0, h1.0, h2.0) refl

AreHref-byte : (b : ℕ) → is_visible b ≡ true → AreHref (escaped b)
unfolding AreHref
AreHref-byte b visible = by_case (is_special b) refl
  where
    by_case : (special : Bool) → is_special b ≡ special → AreHref (escaped b)
    by_case true is = AreHref-special b is
    by_case false clear = subst AreHref (sym (escaped-clear b clear)) (and_from (is_href_byte b) true (href-clear b clear visible) refl)

AreHref-escaped : (bytes : List ℕ) → list_all is_visible bytes ≡ true → AreHref (escaped_text bytes)
unfolding AreHref
AreHref-escaped [] visible = refl
AreHref-escaped (b ∷ bytes) visible =
    let parts = and_parts (is_visible b) (list_all is_visible bytes) visible in
    list_all-append is_href_byte (escaped b) (escaped_text bytes)
    ∙ and_from (list_all is_href_byte (escaped b)) (list_all is_href_byte (escaped_text bytes)) (AreHref-byte b parts.0) (AreHref-escaped bytes parts.1)

-- a URI of a link, escaped
pub IsHref-escaped : (link : List ℕ) → is_linkable link ≡ true → IsHref (escaped_text link)
unfolding is_linkable AreHref
IsHref-escaped link is =
    let parts = and_parts (has_scheme link) (list_all is_visible link) is in
    record { scheme = has_scheme-escaped link parts.0; bytes = AreHref-escaped link parts.1 }
