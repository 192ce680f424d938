-- The HTML has no 0D, so that a reader who normalizes newlines leaves it as it is.
use Rattle.std.proofs.Common.{◌≡◌, ℕ, Bool, true, false, ◌&&◌, eqb, List, [], ◌∷◌, ◌++◌, codes, refl, sym, ap, ◌∙◌, subst, ⊎_elim}
use Rattle.std.specs.Prelude.{not, if◌then◌else◌}
use Rattle.std.specs.List.{list_all}
use Rattle.std.proofs.lemmas.Bool.{and_from, and_parts, or_cases, eqb-true}
use Rattle.std.proofs.lemmas.List.Folds.{list_all-append}
use Rattle.anstyle_parse.specs.Stream.Call.{Call}
use Rattle.ansi_strip.specs.Strip.{stripped_call}
use Rattle.std.specs.Str.{bytes_eq}
use Rattle.ansi_style.specs.declared.style.Style.{Style}
use Rattle.ansi_style.specs.Style.{plain}
use Rattle.ansi_html.specs.declared.scheme.Styling.{Styling}
use Rattle.ansi_html.specs.declared.scheme.Styling.TheVariants.{Inline, Classes}
use Rattle.ansi_html.specs.Links.{is_none}
use Rattle.ansi_html.specs.Grammar.{is_special}
use Rattle.ansi_html.specs.Html.{escaped, escaped_text, is_plain, span_begin, span_end, Element, are_same, value_of, attribute_text, link_begin, link_end, element_begin, element_end, change, Standing, at_start, line_break, beginning, is_executed, text_html, call_html, standing_after, html_from, standing_at_end, html}
use Rattle.ansi_html.specs.Reader.{normalized_from, normalized}
use Rattle.ansi_html.proofs.ColorLemmas.{choose}
use Rattle.ansi_html.proofs.HtmlLemmas.{escaped-clear, not_return-clear, false-from_not}
use Rattle.ansi_html.proofs.DeclarationLemmas.{is_safe, AreSafe, not_return-safe}
use Rattle.ansi_html.proofs.ClassLemmas.{AreSafe-value}

unfoldable pub is_not_return : ℕ → Bool
is_not_return b = not (eqb b 0x0D)

-- bytes without 0D
abbrev pub HasNoReturn : List ℕ → Type 0
HasNoReturn bytes = list_all is_not_return bytes ≡ true

pub HasNoReturn-append : (first second : List ℕ) → HasNoReturn first → HasNoReturn second → HasNoReturn (first ++ second)
HasNoReturn-append first second a b = list_all-append is_not_return first second ∙ and_from (list_all is_not_return first) (list_all is_not_return second) a b

-- Such bytes stay as they are.
pub normalized-same : (bytes : List ℕ) → HasNoReturn bytes → normalized bytes ≡ bytes
unfolding is_not_return
normalized-same [] none = refl
normalized-same (b ∷ bytes) none =
    let parts = and_parts (not (eqb b 0x0D)) (list_all (λ x. not (eqb x 0x0D)) bytes) none in
    ap (λ (t : Bool). if t then 0x0A ∷ normalized_from true bytes else b ∷ normalized_from false bytes) (false-from_not (eqb b 0x0D) parts.0)
    ∙ ap (λ l. b ∷ l) (normalized-same bytes parts.1)

pub HasNoReturn-safe : (bytes : List ℕ) → AreSafe bytes → HasNoReturn bytes
unfolding is_not_return
HasNoReturn-safe [] safe = refl
HasNoReturn-safe (b ∷ bytes) safe =
    let parts = and_parts (is_safe b) (list_all is_safe bytes) safe in
    and_from (not (eqb b 0x0D)) (list_all (λ x. not (eqb x 0x0D)) bytes) (ap not (not_return-safe b parts.0)) (HasNoReturn-safe bytes parts.1)

HasNoReturn-special : (b : ℕ) → is_special b ≡ true → HasNoReturn (escaped b)
unfolding is_special is_not_return
HasNoReturn-special b is =
    let P : ℕ → Type 0 = λ k. HasNoReturn (escaped k) in
    let at : (k : ℕ) → P k → eqb b k ≡ true → P b = λ k h e. subst P (sym (eqb-true b k e)) h in
    ⊎_elim (at 0x26 refl) (λ h. ⊎_elim (at 0x3C refl) (λ h. ⊎_elim (at 0x3E refl) (λ h. ⊎_elim (at 0x22 refl) (λ h. ⊎_elim (at 0x27 refl) (at 0x0D refl)
    (or_cases (eqb b 0x27) (eqb b 0x0D) h)) (or_cases (eqb b 0x22) _ h)) (or_cases (eqb b 0x3E) _ h)) (or_cases (eqb b 0x3C) _ h)) (or_cases (eqb b 0x26) _ is)

HasNoReturn-clear : (b : ℕ) → is_special b ≡ false → HasNoReturn (escaped b)
unfolding is_not_return
HasNoReturn-clear b clear =
    subst (λ l. list_all (λ x. not (eqb x 0x0D)) l ≡ true) (sym (escaped-clear b clear)) (ap (λ (t : Bool). not t && true) (not_return-clear b clear))

HasNoReturn-byte : (b : ℕ) → HasNoReturn (escaped b)
HasNoReturn-byte b = by_case (is_special b) refl
  where
    by_case : (special : Bool) → is_special b ≡ special → HasNoReturn (escaped b)
    by_case true is = HasNoReturn-special b is
    by_case false is = HasNoReturn-clear b is

HasNoReturn-escaped : (bytes : List ℕ) → HasNoReturn (escaped_text bytes)
HasNoReturn-escaped [] = refl
HasNoReturn-escaped (b ∷ bytes) = HasNoReturn-append (escaped b) (escaped_text bytes) (HasNoReturn-byte b) (HasNoReturn-escaped bytes)

-- An escaped text stays as it is.
pub normalized-escaped : (bytes : List ℕ) → normalized (escaped_text bytes) ≡ escaped_text bytes
normalized-escaped bytes = normalized-same (escaped_text bytes) (HasNoReturn-escaped bytes)

HasNoReturn-span_end : (style : Style) → HasNoReturn (span_end style)
unfolding is_not_return
HasNoReturn-span_end style = choose (λ l. list_all (λ x. not (eqb x 0x0D)) l ≡ true) (is_plain style) [] (codes "</span>") refl refl

pub HasNoReturn-end : (shown : Element) → HasNoReturn (element_end shown)
unfolding is_not_return
HasNoReturn-end shown =
    HasNoReturn-append (span_end shown.style) (link_end shown.link) (HasNoReturn-span_end shown.style)
    (choose (λ l. list_all (λ x. not (eqb x 0x0D)) l ≡ true) (is_none shown.link) [] (codes "</a>") refl refl)

HasNoReturn-attribute : (styling : Styling) (value : List ℕ) → AreSafe value → HasNoReturn (attribute_text styling value)
unfolding is_not_return
HasNoReturn-attribute (Inline scheme) value safe =
    HasNoReturn-append (codes " style=\"") (value ++ codes "\">") refl (HasNoReturn-append value (codes "\">") (HasNoReturn-safe value safe) refl)
HasNoReturn-attribute Classes value safe =
    HasNoReturn-append (codes " class=\"") (value ++ codes "\">") refl (HasNoReturn-append value (codes "\">") (HasNoReturn-safe value safe) refl)

module _ (styling : Styling) where
  HasNoReturn-span : (style : Style) → HasNoReturn (span_begin styling style)
  unfolding is_not_return
  HasNoReturn-span style =
      let tag = attribute_text styling (value_of styling false style) in
      choose HasNoReturn (is_plain style) [] (codes "<span" ++ tag) refl
      (HasNoReturn-append (codes "<span") tag refl (HasNoReturn-attribute styling (value_of styling false style) (AreSafe-value styling false style)))

  HasNoReturn-link : (link : List ℕ) → HasNoReturn (link_begin styling link)
  unfolding is_not_return
  HasNoReturn-link link =
      let tag = attribute_text styling (value_of styling true plain) in
      choose HasNoReturn (is_none link) [] (codes "<a rel=\"nofollow noreferrer\" href=\"" ++ (escaped_text link ++ (codes "\"" ++ tag))) refl
      (HasNoReturn-append (codes "<a rel=\"nofollow noreferrer\" href=\"") (escaped_text link ++ (codes "\"" ++ tag)) refl
      (HasNoReturn-append (escaped_text link) (codes "\"" ++ tag) (HasNoReturn-escaped link)
      (HasNoReturn-append (codes "\"") tag refl (HasNoReturn-attribute styling (value_of styling true plain) (AreSafe-value styling true plain)))))

  HasNoReturn-begin : (element : Element) → HasNoReturn (element_begin styling element)
  HasNoReturn-begin element =
      HasNoReturn-append (link_begin styling element.link) (span_begin styling element.style) (HasNoReturn-link element.link) (HasNoReturn-span element.style)

  HasNoReturn-change : (shown next : Element) → HasNoReturn (change styling shown next)
  HasNoReturn-change shown next =
      choose HasNoReturn (are_same shown next) [] _ refl
      (choose HasNoReturn (bytes_eq shown.link next.link) (span_end shown.style ++ span_begin styling next.style) (element_end shown ++ element_begin styling next)
      (HasNoReturn-append (span_end shown.style) (span_begin styling next.style) (HasNoReturn-span_end shown.style) (HasNoReturn-span next.style))
      (HasNoReturn-append (element_end shown) (element_begin styling next) (HasNoReturn-end shown) (HasNoReturn-begin next)))

  HasNoReturn-beginning : (at : Standing) (is_line_feed : Bool) → HasNoReturn (beginning styling at is_line_feed)
  unfolding is_not_return
  HasNoReturn-beginning at is_line_feed =
      HasNoReturn-append (change styling at.shown at.selected) (line_break at.returned is_line_feed) (HasNoReturn-change at.shown at.selected)
      (choose HasNoReturn (at.returned && not is_line_feed) (codes "<br>") [] refl refl)

  pub HasNoReturn-text : (at : Standing) (is_line_feed : Bool) (bytes : List ℕ) → HasNoReturn (text_html styling at is_line_feed bytes)
  unfolding text_html
  HasNoReturn-text at is_line_feed [] = refl
  HasNoReturn-text at is_line_feed (b ∷ bytes) =
      HasNoReturn-append (beginning styling at is_line_feed) (escaped_text (b ∷ bytes)) (HasNoReturn-beginning at is_line_feed) (HasNoReturn-escaped (b ∷ bytes))

  HasNoReturn-html_from : (at : Standing) (calls : List Call) → HasNoReturn (html_from styling at calls)
  HasNoReturn-html_from at [] = refl
  HasNoReturn-html_from at (call ∷ calls) =
      HasNoReturn-append (call_html styling at call) (html_from styling (standing_after call at) calls)
      (HasNoReturn-text at (is_executed 0x0A call) (stripped_call call)) (HasNoReturn-html_from (standing_after call at) calls)

  -- The HTML stays as it is.
  pub normalized-html : (calls : List Call) → normalized (html styling calls) ≡ html styling calls
  normalized-html calls =
      let last = (standing_at_end at_start calls).shown in
      normalized-same (html styling calls) (HasNoReturn-append (html_from styling at_start calls) (element_end last) (HasNoReturn-html_from at_start calls) (HasNoReturn-end last))
