-- The HTML stands in the grammar.
use Rattle.std.proofs.Common.{◌≡◌, ℕ, Bool, true, false, ◌||◌, ◌&&◌, eqb, List, [], ◌∷◌, ◌++◌, codes, refl, sym, ap, ◌∙◌, subst, append_assoc, append-nil, ⊎_elim, inl, inr}
use Rattle.std.specs.Prelude.{not, nat_le, if◌then◌else◌}
use Rattle.std.proofs.lemmas.Bool.{and_from, or_cases, eqb-true}
use Rattle.anstyle_parse.specs.Stream.Call.{Call}
use Rattle.ansi_strip.specs.Strip.{stripped_call}
use Rattle.ansi_style.specs.declared.style.Style.{Style}
use Rattle.ansi_style.specs.Style.{plain as plain_style}
use Rattle.std.specs.Str.{bytes_eq}
use Rattle.std.proofs.lemmas.Slice.Eq.{bytes_eq-Decides}
use Rattle.ansi_style.proofs.EqualityLemmas.{are_equal-refl}
use Rattle.ansi_html.specs.declared.scheme.Styling.{Styling}
use Rattle.ansi_html.specs.declared.scheme.Styling.TheVariants.{Inline, Classes}
use Rattle.ansi_html.specs.Css.{colors_css, others_css}
use Rattle.ansi_html.specs.Classes.{classes_of}
use Rattle.ansi_html.specs.Links.{is_linkable, IsLink, is_none}
use Rattle.ansi_html.specs.Grammar.{is_special, is_text_byte, ampersand, less_than, greater_than, quotation_mark, apostrophe, carriage_return, IsText, nothing, byte, reference, line_break as broken, IsSpanValue, link_value, declarations, classes, IsStyled, nothing_more, plain, span, IsFragment, end, styled, link}
use Rattle.ansi_html.specs.Html.{escaped, escaped_text, is_plain, span_begin, span_end, Element, no_element, are_same, value_of, attribute_text, link_begin, link_end, element_begin, element_end, change, Standing, at_start, line_break, after_text, is_executed, text_html, call_html, standing_after, html_from, standing_at_end, html}
use Rattle.ansi_html.proofs.HtmlLemmas.{escaped-clear, not_return-clear, are_same-same}
use Rattle.ansi_html.proofs.SoundLemmas.{IsHref-escaped, AreSound, AreSound-start, AreSound-after}
use Rattle.ansi_html.proofs.DeclarationLemmas.{AreDeclarations-others}
use Rattle.ansi_html.proofs.ColorLemmas.{AreColors-css}
use Rattle.ansi_html.proofs.ClassLemmas.{AreKnown-style}
use Rattle.ansi_strip.proofs.Showable.{AreShowable}
use Rattle.ansi_html.proofs.LawfulText.{is_textual, AreTextual, AreTextual-stripped}

-- one byte of text, escaped, before text
IsText-special : (b : ℕ) (rest : List ℕ) → is_special b ≡ true → IsText rest → IsText (escaped b ++ rest)
unfolding is_special
IsText-special b rest is more =
    let P : ℕ → Type 0 = λ k. IsText (escaped k ++ rest) in
    let at : (k : ℕ) → P k → eqb b k ≡ true → P b = λ k h e. subst P (sym (eqb-true b k e)) h in
    ⊎_elim (at 0x26 (reference (codes "&amp;") rest ampersand more))
    (λ h. ⊎_elim (at 0x3C (reference (codes "&lt;") rest less_than more))
    (λ h. ⊎_elim (at 0x3E (reference (codes "&gt;") rest greater_than more))
    (λ h. ⊎_elim (at 0x22 (reference (codes "&quot;") rest quotation_mark more))
    (λ h. ⊎_elim (at 0x27 (reference (codes "&#39;") rest apostrophe more)) (at 0x0D (reference (codes "&#13;") rest carriage_return more))
    (or_cases (eqb b 0x27) (eqb b 0x0D) h)) (or_cases (eqb b 0x22) _ h)) (or_cases (eqb b 0x3E) _ h)) (or_cases (eqb b 0x3C) _ h)) (or_cases (eqb b 0x26) _ is)

text_byte : (b : ℕ) → is_textual b ≡ true → is_special b ≡ false → is_text_byte b ≡ true
unfolding is_text_byte is_textual
text_byte b is clear =
    let no_return = not_return-clear b clear in
    and_from _ (not (is_special b)) (ap (λ (return : Bool). nat_le 0x20 b || (eqb b 0x09 || (return || eqb b 0x0A))) (sym no_return) ∙ is) (ap not clear)

IsText-byte : (b : ℕ) (rest : List ℕ) → is_textual b ≡ true → IsText rest → IsText (escaped b ++ rest)
IsText-byte b rest is more = by_case (is_special b) refl
  where
    by_case : (special : Bool) → is_special b ≡ special → IsText (escaped b ++ rest)
    by_case true e = IsText-special b rest e more
    by_case false e = subst (λ l. IsText (l ++ rest)) (sym (escaped-clear b e)) (byte (text_byte b is e) more)

IsText-escaped : (bytes rest : List ℕ) → AreTextual bytes → IsText rest → IsText (escaped_text bytes ++ rest)
IsText-escaped [] rest are more = more
IsText-escaped (b ∷ bytes) rest are more =
    subst IsText (sym (append_assoc (escaped b) (escaped_text bytes) rest)) (IsText-byte b (escaped_text bytes ++ rest) are.0 (IsText-escaped bytes rest are.1 more))

-- What may follow inside a span of this end and a link of that one, each of which is empty where there is none: text, the
-- end of the span, text and spans, the end of the link, and a fragment.
pub record IsInside (styling : Styling) (close close_link : List ℕ) (all : List ℕ) : Type 0 where
  pub inside : List ℕ
  pub others : List ℕ
  pub rest : List ℕ
  pub whole : all ≡ inside ++ (close ++ (others ++ (close_link ++ rest)))
  pub is_text : IsText inside
  pub are_styled : IsStyled styling others
  pub fragment : IsFragment styling rest

-- text, which before any text is text, goes on as what follows it does
IsInside-prefix : (styling : Styling) (close close_link bytes rest : List ℕ) → ((more : List ℕ) → IsText more → IsText (bytes ++ more))
    → IsInside styling close close_link rest → IsInside styling close close_link (bytes ++ rest)
IsInside-prefix styling close close_link bytes rest is more = record {
  inside = bytes ++ more.inside;
  others = more.others;
  rest = more.rest;
  whole = ap (λ l. bytes ++ l) more.whole ∙ sym (append_assoc bytes more.inside (close ++ (more.others ++ (close_link ++ more.rest))));
  is_text = is more.inside more.is_text;
  are_styled = more.are_styled;
  fragment = more.fragment;
}

IsInside-text : (styling : Styling) (close close_link bytes rest : List ℕ) → AreTextual bytes → IsInside styling close close_link rest
    → IsInside styling close close_link (escaped_text bytes ++ rest)
IsInside-text styling close close_link bytes rest are more = IsInside-prefix styling close close_link (escaped_text bytes) rest (λ after is. IsText-escaped bytes after are is) more

-- outside all elements that is a fragment
pub IsFragment-plain : (styling : Styling) (all : List ℕ) → IsInside styling [] [] all → IsFragment styling all
IsFragment-plain styling all within =
    subst (IsFragment styling) (append_assoc within.inside within.others within.rest ∙ sym within.whole)
    (styled (within.inside ++ within.others) within.rest (plain within.inside within.others within.is_text within.are_styled) within.fragment)

-- what the attribute of a style says
IsSpanValue-style : (styling : Styling) (style : Style) → IsSpanValue styling (value_of styling false style)
IsSpanValue-style (Inline scheme) style = declarations scheme (colors_css scheme style) (others_css style) (AreColors-css scheme style) (AreDeclarations-others style)
IsSpanValue-style Classes style = classes (classes_of false style) (AreKnown-style false style)

-- and that of a link
link_value-is : (styling : Styling) → value_of styling true plain_style ≡ link_value styling
unfolding colors_css classes_of
link_value-is (Inline scheme) = refl
link_value-is Classes = refl

-- the beginning of a span, what follows it in the span, and what follows that in the link
IsStyled-span : (styling : Styling) (style : Style) (inside others : List ℕ) → IsText inside → IsStyled styling others
    → IsStyled styling (span_begin styling style ++ (inside ++ (span_end style ++ others)))
IsStyled-span styling style inside others is are = by_case (is_plain style)
  where
    tag : List ℕ
    tag = attribute_text styling (value_of styling false style)

    by_case : (plain_is : Bool)
        → IsStyled styling ((if plain_is then [] else codes "<span" ++ tag) ++ (inside ++ ((if plain_is then [] else codes "</span>") ++ others)))
    by_case true = plain inside others is are
    by_case false = span (value_of styling false style) inside others (IsSpanValue-style styling style) is are

-- five texts, of which the first four belong together
regrouped : (begin inside close others rest : List ℕ) → begin ++ (inside ++ (close ++ (others ++ rest))) ≡ (begin ++ (inside ++ (close ++ others))) ++ rest
regrouped begin inside close others rest =
    ap (λ l. begin ++ (inside ++ l)) (sym (append_assoc close others rest)) ∙ ap (λ l. begin ++ l) (sym (append_assoc inside (close ++ others) rest))
    ∙ sym (append_assoc begin (inside ++ (close ++ others)) rest)

-- a link that is there is a URI
linkable : (uri : List ℕ) → is_none uri ≡ false → IsLink uri → is_linkable uri ≡ true
linkable uri some (inl none) = cc (some, none)
linkable uri some (inr is) = is

-- the beginning of a link, text and spans, its end, and what follows it
IsFragment-link : (styling : Styling) (link linked rest : List ℕ) → IsLink link → IsStyled styling linked → IsFragment styling rest
    → IsFragment styling (link_begin styling link ++ (linked ++ (link_end link ++ rest)))
IsFragment-link styling uri linked rest is are more = by_case (is_none uri) refl
  where
    tag : List ℕ
    tag = attribute_text styling (value_of styling true plain_style)

    by_case : (none : Bool) → is_none uri ≡ none
        → IsFragment styling
        ((if none then [] else codes "<a rel=\"nofollow noreferrer\" href=\"" ++ (escaped_text uri ++ (codes "\"" ++ tag)))
        ++ (linked ++ ((if none then [] else codes "</a>") ++ rest)))
    by_case true none = styled linked rest are more
    by_case false some =
        let all = linked ++ (codes "</a>" ++ rest) in
        let before : List ℕ → List ℕ = λ l. codes "<a rel=\"nofollow noreferrer\" href=\"" ++ l in
        subst (IsFragment styling)
        (ap (λ value. before (escaped_text uri ++ (codes "\"" ++ (attribute_text styling value ++ all)))) (sym (link_value-is styling))
        ∙ ap before (sym (append_assoc (escaped_text uri) (codes "\"" ++ tag) all)))
        (link (escaped_text uri) linked rest (IsHref-escaped uri (linkable uri some is)) are more)

-- the beginning of an element, and what follows it, is a fragment
IsFragment-begin : (styling : Styling) (element : Element) (all : List ℕ) → IsLink element.link → IsInside styling (span_end element.style) (link_end element.link) all
    → IsFragment styling (element_begin styling element ++ all)
IsFragment-begin styling element all is more =
    let begin = span_begin styling element.style in
    let close = span_end element.style in
    let close_link = link_end element.link in
    let linked = begin ++ (more.inside ++ (close ++ more.others)) in
    subst (IsFragment styling)
    (ap (λ l. link_begin styling element.link ++ l)
    (sym (regrouped begin more.inside close more.others (close_link ++ more.rest)) ∙ ap (λ l. begin ++ l) (sym more.whole))
    ∙ sym (append_assoc (link_begin styling element.link) begin all))
    (IsFragment-link styling element.link linked more.rest is (IsStyled-span styling element.style more.inside more.others more.is_text more.are_styled) more.fragment)

-- the end of an element, and a fragment after it, goes on inside it
pub IsInside-end : (styling : Styling) (shown : Element) (rest : List ℕ) → IsFragment styling rest
    → IsInside styling (span_end shown.style) (link_end shown.link) (element_end shown ++ rest)
IsInside-end styling shown rest fragment = record {
  inside = [];
  others = [];
  rest = rest;
  whole = append_assoc (span_end shown.style) (link_end shown.link) rest;
  is_text = nothing;
  are_styled = nothing_more;
  fragment = fragment;
}

-- the end of a span and the beginning of another one in the same link
IsInside-spans : (styling : Styling) (shown next : Style) (close_link all : List ℕ) → IsInside styling (span_end next) close_link all
    → IsInside styling (span_end shown) close_link ((span_end shown ++ span_begin styling next) ++ all)
IsInside-spans styling shown next close_link all more =
    let begin = span_begin styling next in
    record {
      inside = [];
      others = begin ++ (more.inside ++ (span_end next ++ more.others));
      rest = more.rest;
      whole = append_assoc (span_end shown) begin all ∙ ap (λ l. span_end shown ++ (begin ++ l)) more.whole
          ∙ ap (λ l. span_end shown ++ l) (regrouped begin more.inside (span_end next) more.others (close_link ++ more.rest));
      is_text = nothing;
      are_styled = IsStyled-span styling next more.inside more.others more.is_text more.are_styled;
      fragment = more.fragment;
    }

IsInside-change : (styling : Styling) (shown next : Element) (all : List ℕ) → IsLink next.link → IsInside styling (span_end next.style) (link_end next.link) all
    → IsInside styling (span_end shown.style) (link_end shown.link) (change styling shown next ++ all)
IsInside-change styling shown next all is more = by_case (are_same shown next) (bytes_eq shown.link next.link) refl refl
  where
    by_case : (same linked_so : Bool) → are_same shown next ≡ same → bytes_eq shown.link next.link ≡ linked_so
        → IsInside styling (span_end shown.style) (link_end shown.link)
        ((if same then [] else if linked_so then span_end shown.style ++ span_begin styling next.style else element_end shown ++ element_begin styling next) ++ all)
    by_case true linked_so e links = subst (λ (it : Element). IsInside styling (span_end it.style) (link_end it.link) all) (sym (are_same-same shown next e)) more
    by_case false true e links =
        IsInside-spans styling shown.style next.style (link_end shown.link) all
        (subst (λ link. IsInside styling (span_end next.style) (link_end link) all) (sym ((bytes_eq-Decides shown.link next.link).0 links)) more)
    by_case false false e links =
        subst (IsInside styling (span_end shown.style) (link_end shown.link)) (sym (append_assoc (element_end shown) (element_begin styling next) all))
        (IsInside-end styling shown (element_begin styling next ++ all) (IsFragment-begin styling next all is more))

IsInside-break : (styling : Styling) (close close_link : List ℕ) (returned is_line_feed : Bool) (all : List ℕ) → IsInside styling close close_link all
    → IsInside styling close close_link (line_break returned is_line_feed ++ all)
IsInside-break styling close close_link returned is_line_feed all more = by_case (returned && not is_line_feed)
  where
    by_case : (wanted : Bool) → IsInside styling close close_link ((if wanted then codes "<br>" else []) ++ all)
    by_case true = IsInside-prefix styling close close_link (codes "<br>") all (λ rest is. broken rest is) more
    by_case false = more

-- what may follow inside an element
abbrev pub IsInElement : Styling → Element → List ℕ → Type 0
IsInElement styling element all = IsInside styling (span_end element.style) (link_end element.link) all

pub IsInside-text_html : (styling : Styling) (at : Standing) (is_line_feed : Bool) (bytes rest : List ℕ) → AreSound at → AreTextual bytes
    → IsInElement styling (after_text at.shown at.selected bytes) rest → IsInElement styling at.shown (text_html styling at is_line_feed bytes ++ rest)
unfolding text_html
IsInside-text_html styling at is_line_feed [] rest sound are more = more
IsInside-text_html styling at is_line_feed (b ∷ bytes) rest sound are more =
    let changed = change styling at.shown at.selected in
    let break = line_break at.returned is_line_feed in
    let escaped_bytes = escaped_text (b ∷ bytes) in
    let close = span_end at.selected.style in
    let close_link = link_end at.selected.link in
    subst (IsInElement styling at.shown) (sym (append_assoc (changed ++ break) escaped_bytes rest ∙ append_assoc changed break (escaped_bytes ++ rest)))
    (IsInside-change styling at.shown at.selected (break ++ (escaped_bytes ++ rest)) sound.selected.is_link
    (IsInside-break styling close close_link at.returned is_line_feed (escaped_bytes ++ rest)
    (IsInside-text styling close close_link (b ∷ bytes) rest are more)))

-- at the end of all text
pub IsInside-nothing : (styling : Styling) (shown : Element) → IsInElement styling shown (element_end shown)
IsInside-nothing styling shown = subst (IsInElement styling shown) (append-nil (element_end shown)) (IsInside-end styling shown [] end)

IsInside-html_from : (styling : Styling) (at : Standing) (calls : List Call) → AreSound at → AreShowable calls
    → IsInElement styling at.shown (html_from styling at calls ++ element_end (standing_at_end at calls).shown)
IsInside-html_from styling at [] sound are = IsInside-nothing styling at.shown
IsInside-html_from styling at (call ∷ calls) sound are =
    let bytes = stripped_call call in
    let after = standing_after call at in
    let last = element_end (standing_at_end after calls).shown in
    subst (IsInElement styling at.shown) (sym (append_assoc (call_html styling at call) (html_from styling after calls) last))
    (IsInside-text_html styling at (is_executed 0x0A call) bytes (html_from styling after calls ++ last) sound (AreTextual-stripped call are.0)
    (IsInside-html_from styling after calls (AreSound-after call at sound) are.1))

-- what may follow in no element is a fragment
pub IsFragment-outside : (styling : Styling) (all : List ℕ) → IsInElement styling no_element all → IsFragment styling all
IsFragment-outside styling all within =
    IsFragment-plain styling all (subst (λ (none : Bool). IsInside styling (if none then [] else codes "</span>") [] all) (are_equal-refl plain_style) within)

-- The HTML of calls that can be shown is a fragment.
pub IsFragment-html : (styling : Styling) → (calls : List Call) → AreShowable calls → IsFragment styling (html styling calls)
IsFragment-html styling calls are = IsFragment-outside styling (html styling calls) (IsInside-html_from styling at_start calls AreSound-start are)
