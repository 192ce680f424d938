-- The HTML is UTF-8.
use Rattle.std.proofs.Common.{◌≡◌, ◌<◌, ℕ, Bool, true, false, ◌&&◌, eqb, List, [], ◌∷◌, ◌++◌, codes, refl, sym, subst, ⊎_elim, inl, inr, arith}
use Rattle.std.specs.Prelude.{not, nat_lt, nat_le, encode_utf8, if◌then◌else◌}
use Rattle.std.specs.List.{list_all}
use Rattle.std.specs.Str.{IsUtf8, bytes_eq}
use Rattle.std.proofs.lemmas.Bool.{and_parts, or_cases, eqb-true, ltb-true, leb-true}
use Rattle.std.proofs.lemmas.Str.{IsUtf8-append, IsUtf8-nil, IsUtf8-encode}
use Rattle.anstyle_parse.specs.Stream.Call.{Call, print, execute, hook, put, unhook, osc_dispatch, csi_dispatch, esc_dispatch}
use Rattle.anstyle_parse.specs.Laws.Lawful.{is_character}
use Rattle.anstyle_parse.proofs.Characters.Encoding.{encode_one}
use Rattle.ansi_strip.specs.Strip.{is_layout, stripped_call}
use Rattle.anstyle_parse.proofs.Characters.Layout.{IsUtf8-byte, layout-low}
use Rattle.ansi_strip.proofs.Showable.{IsShowable, AreShowable, IsScalar-character}
use Rattle.ansi_style.specs.declared.style.Style.{Style}
use Rattle.ansi_style.specs.Style.{plain}
use Rattle.ansi_html.specs.declared.scheme.Styling.{Styling}
use Rattle.ansi_html.specs.declared.scheme.Styling.TheVariants.{Inline, Classes}
use Rattle.ansi_html.specs.Links.{IsLink, is_none}
use Rattle.ansi_html.specs.Grammar.{is_special, is_href_byte}
use Rattle.ansi_html.specs.Html.{escaped_text, is_plain, span_begin, span_end, Element, are_same, value_of, attribute_text, link_begin, link_end, element_begin, element_end, change, Standing, at_start, line_break, beginning, is_executed, text_html, call_html, standing_after, html_from, standing_at_end, html}
use Rattle.ansi_html.proofs.HtmlLemmas.{AreClear-encode, escaped_text-clear}
use Rattle.ansi_html.proofs.ColorLemmas.{choose}
use Rattle.ansi_html.proofs.DeclarationLemmas.{is_safe, AreSafe, ascii-safe}
use Rattle.ansi_html.proofs.ClassLemmas.{AreSafe-value}
use Rattle.ansi_html.proofs.SoundLemmas.{IsHref-escaped, AreSound, AreSound-start, AreSound-after}

layout_ascii : (b : ℕ) → is_layout b ≡ true → b < 0x80
layout_ascii b is = let low = layout-low b is in omega arith

-- ASCII is UTF-8
pub IsUtf8-ascii : (bytes : List ℕ) → list_all (λ b. nat_lt b 0x80) bytes ≡ true → IsUtf8 bytes
IsUtf8-ascii [] low = IsUtf8-nil
IsUtf8-ascii (b ∷ bytes) low =
    let parts = and_parts (nat_lt b 0x80) (list_all (λ x. nat_lt x 0x80) bytes) low in
    IsUtf8-append (b ∷ []) bytes (IsUtf8-byte b (ltb-true b 0x80 parts.0)) (IsUtf8-ascii bytes parts.1)

pub IsUtf8-safe : (bytes : List ℕ) → AreSafe bytes → IsUtf8 bytes
IsUtf8-safe [] safe = IsUtf8-nil
IsUtf8-safe (b ∷ bytes) safe =
    let parts = and_parts (is_safe b) (list_all is_safe bytes) safe in
    IsUtf8-append (b ∷ []) bytes (IsUtf8-byte b (ascii-safe b parts.0)) (IsUtf8-safe bytes parts.1)

-- a character, escaped
IsUtf8-special : (c : ℕ) → is_special c ≡ true → IsUtf8 (escaped_text (encode_utf8 c))
unfolding is_special
IsUtf8-special c is =
    let P : ℕ → Type 0 = λ k. IsUtf8 (escaped_text (encode_utf8 k)) in
    let by : (k : ℕ) → k < 0x80 → IsUtf8 (escaped_text (k ∷ [])) → P k = λ k low h. subst (λ l. IsUtf8 (escaped_text l)) (sym (encode_one k low)) h in
    let at : (k : ℕ) → P k → eqb c k ≡ true → P c = λ k h e. subst P (sym (eqb-true c k e)) h in
    ⊎_elim (at 0x26 (by 0x26 (omega arith) (IsUtf8-ascii (codes "&amp;") refl)))
    (λ h. ⊎_elim (at 0x3C (by 0x3C (omega arith) (IsUtf8-ascii (codes "&lt;") refl)))
    (λ h. ⊎_elim (at 0x3E (by 0x3E (omega arith) (IsUtf8-ascii (codes "&gt;") refl)))
    (λ h. ⊎_elim (at 0x22 (by 0x22 (omega arith) (IsUtf8-ascii (codes "&quot;") refl)))
    (λ h. ⊎_elim (at 0x27 (by 0x27 (omega arith) (IsUtf8-ascii (codes "&#39;") refl))) (at 0x0D (by 0x0D (omega arith) (IsUtf8-ascii (codes "&#13;") refl)))
    (or_cases (eqb c 0x27) (eqb c 0x0D) h)) (or_cases (eqb c 0x22) _ h)) (or_cases (eqb c 0x3E) _ h)) (or_cases (eqb c 0x3C) _ h)) (or_cases (eqb c 0x26) _ is)

-- an ASCII character, escaped
IsUtf8-ascii_character : (c : ℕ) → c < 0x80 → IsUtf8 (escaped_text (encode_utf8 c))
IsUtf8-ascii_character c low = by_case (is_special c) refl
  where
    by_case : (special : Bool) → is_special c ≡ special → IsUtf8 (escaped_text (encode_utf8 c))
    by_case true e = IsUtf8-special c e
    by_case false e = subst IsUtf8 (sym (escaped_text-clear (encode_utf8 c) (AreClear-encode c e))) (subst IsUtf8 (sym (encode_one c low)) (IsUtf8-byte c low))

IsUtf8-printed : (c : ℕ) (special : Bool) → is_special c ≡ special → is_character c ≡ true → IsUtf8 (escaped_text (encode_utf8 c))
IsUtf8-printed c true e is = IsUtf8-special c e
IsUtf8-printed c false e is = subst IsUtf8 (sym (escaped_text-clear (encode_utf8 c) (AreClear-encode c e))) (IsUtf8-encode c (IsScalar-character c is))

IsUtf8-executed : (b : ℕ) (layout : Bool) → is_layout b ≡ layout → IsUtf8 (escaped_text (if layout then b ∷ [] else []))
IsUtf8-executed b true is = subst (λ l. IsUtf8 (escaped_text l)) (encode_one b (layout_ascii b is)) (IsUtf8-ascii_character b (layout_ascii b is))
IsUtf8-executed b false is = IsUtf8-nil

pub IsUtf8-stripped : (call : Call) → IsShowable call → IsUtf8 (escaped_text (stripped_call call))
IsUtf8-stripped (print c) is = IsUtf8-printed c (is_special c) refl is
IsUtf8-stripped (execute b) is = IsUtf8-executed b (is_layout b) refl
IsUtf8-stripped (hook gs is ig f) h = IsUtf8-nil
IsUtf8-stripped (put b) h = IsUtf8-nil
IsUtf8-stripped unhook h = IsUtf8-nil
IsUtf8-stripped (osc_dispatch parts bell) h = IsUtf8-nil
IsUtf8-stripped (csi_dispatch gs is ig f) h = IsUtf8-nil
IsUtf8-stripped (esc_dispatch is ig f) h = IsUtf8-nil

-- a link
IsUtf8-href : (bytes : List ℕ) → list_all is_href_byte bytes ≡ true → IsUtf8 bytes
unfolding is_href_byte
IsUtf8-href [] are = IsUtf8-nil
IsUtf8-href (b ∷ bytes) are =
    let parts = and_parts (is_href_byte b) (list_all is_href_byte bytes) are in
    let visible = and_parts (nat_le 0x21 b && nat_le b 0x7E) _ parts.0 in
    let low = leb-true b 0x7E (and_parts (nat_le 0x21 b) (nat_le b 0x7E) visible.0).1 in
    IsUtf8-append (b ∷ []) bytes (IsUtf8-byte b (omega (arith, low))) (IsUtf8-href bytes parts.1)

IsUtf8-link : (link : List ℕ) → IsLink link → IsUtf8 (escaped_text link)
IsUtf8-link link (inl none) = subst (λ l. IsUtf8 (escaped_text l)) (sym none) IsUtf8-nil
IsUtf8-link link (inr is) = IsUtf8-href (escaped_text link) (IsHref-escaped link is).bytes

IsUtf8-span_end : (style : Style) → IsUtf8 (span_end style)
IsUtf8-span_end style = choose IsUtf8 (is_plain style) [] (codes "</span>") IsUtf8-nil (IsUtf8-ascii (codes "</span>") refl)

pub IsUtf8-end : (shown : Element) → IsUtf8 (element_end shown)
IsUtf8-end shown =
    IsUtf8-append (span_end shown.style) (link_end shown.link) (IsUtf8-span_end shown.style)
    (choose IsUtf8 (is_none shown.link) [] (codes "</a>") IsUtf8-nil (IsUtf8-ascii (codes "</a>") refl))

IsUtf8-attribute : (styling : Styling) (value : List ℕ) → AreSafe value → IsUtf8 (attribute_text styling value)
IsUtf8-attribute (Inline scheme) value safe =
    IsUtf8-append (codes " style=\"") (value ++ codes "\">") (IsUtf8-ascii (codes " style=\"") refl)
    (IsUtf8-append value (codes "\">") (IsUtf8-safe value safe) (IsUtf8-ascii (codes "\">") refl))
IsUtf8-attribute Classes value safe =
    IsUtf8-append (codes " class=\"") (value ++ codes "\">") (IsUtf8-ascii (codes " class=\"") refl)
    (IsUtf8-append value (codes "\">") (IsUtf8-safe value safe) (IsUtf8-ascii (codes "\">") refl))

IsUtf8-span_begin : (styling : Styling) → (style : Style) → IsUtf8 (span_begin styling style)
IsUtf8-span_begin styling style =
    let tag = attribute_text styling (value_of styling false style) in
    choose IsUtf8 (is_plain style) [] (codes "<span" ++ tag) IsUtf8-nil
    (IsUtf8-append (codes "<span") tag (IsUtf8-ascii (codes "<span") refl) (IsUtf8-attribute styling (value_of styling false style) (AreSafe-value styling false style)))

IsUtf8-link_begin : (styling : Styling) (link : List ℕ) → IsLink link → IsUtf8 (link_begin styling link)
IsUtf8-link_begin styling link is =
    let value = value_of styling true plain in
    choose IsUtf8 (is_none link) [] (codes "<a rel=\"nofollow noreferrer\" href=\"" ++ (escaped_text link ++ (codes "\"" ++ attribute_text styling value))) IsUtf8-nil
    (IsUtf8-append (codes "<a rel=\"nofollow noreferrer\" href=\"") _ (IsUtf8-ascii (codes "<a rel=\"nofollow noreferrer\" href=\"") refl)
    (IsUtf8-append (escaped_text link) _ (IsUtf8-link link is)
    (IsUtf8-append (codes "\"") (attribute_text styling value) (IsUtf8-ascii (codes "\"") refl) (IsUtf8-attribute styling value (AreSafe-value styling true plain)))))

IsUtf8-begin : (styling : Styling) (element : Element) → IsLink element.link → IsUtf8 (element_begin styling element)
IsUtf8-begin styling element is =
    IsUtf8-append (link_begin styling element.link) (span_begin styling element.style) (IsUtf8-link_begin styling element.link is) (IsUtf8-span_begin styling element.style)

IsUtf8-change : (styling : Styling) (shown next : Element) → IsLink next.link → IsUtf8 (change styling shown next)
IsUtf8-change styling shown next is =
    choose IsUtf8 (are_same shown next) [] _ IsUtf8-nil
    (choose IsUtf8 (bytes_eq shown.link next.link) (span_end shown.style ++ span_begin styling next.style) (element_end shown ++ element_begin styling next)
    (IsUtf8-append (span_end shown.style) (span_begin styling next.style) (IsUtf8-span_end shown.style) (IsUtf8-span_begin styling next.style))
    (IsUtf8-append (element_end shown) (element_begin styling next) (IsUtf8-end shown) (IsUtf8-begin styling next is)))

IsUtf8-beginning : (styling : Styling) (at : Standing) (is_line_feed : Bool) → AreSound at → IsUtf8 (beginning styling at is_line_feed)
IsUtf8-beginning styling at is_line_feed sound =
    IsUtf8-append (change styling at.shown at.selected) (line_break at.returned is_line_feed) (IsUtf8-change styling at.shown at.selected sound.selected.is_link)
    (choose IsUtf8 (at.returned && not is_line_feed) (codes "<br>") [] (IsUtf8-ascii (codes "<br>") refl) IsUtf8-nil)

pub IsUtf8-text_html : (styling : Styling) (at : Standing) (is_line_feed : Bool) (bytes : List ℕ) → AreSound at → IsUtf8 (escaped_text bytes) → IsUtf8 (text_html styling at is_line_feed bytes)
unfolding text_html
IsUtf8-text_html styling at is_line_feed [] sound is = IsUtf8-nil
IsUtf8-text_html styling at is_line_feed (b ∷ bytes) sound is = IsUtf8-append (beginning styling at is_line_feed) (escaped_text (b ∷ bytes)) (IsUtf8-beginning styling at is_line_feed sound) is

pub IsUtf8-html_from : (styling : Styling) (at : Standing) (calls : List Call) → AreSound at → AreShowable calls → IsUtf8 (html_from styling at calls)
IsUtf8-html_from styling at [] sound are = IsUtf8-nil
IsUtf8-html_from styling at (call ∷ calls) sound are =
    IsUtf8-append (call_html styling at call) (html_from styling (standing_after call at) calls)
    (IsUtf8-text_html styling at (is_executed 0x0A call) (stripped_call call) sound (IsUtf8-stripped call are.0))
    (IsUtf8-html_from styling (standing_after call at) calls (AreSound-after call at sound) are.1)

pub IsUtf8-html : (styling : Styling) → (calls : List Call) → AreShowable calls → IsUtf8 (html styling calls)
IsUtf8-html styling calls are =
    let last = (standing_at_end at_start calls).shown in
    IsUtf8-append (html_from styling at_start calls) (element_end last) (IsUtf8-html_from styling at_start calls AreSound-start are) (IsUtf8-end last)
