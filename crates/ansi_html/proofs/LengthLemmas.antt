-- How long the HTML can be.
use Rattle.std.proofs.Common.{◌≡◌, ◌≤◌, ◌<◌, ℕ, ◌+◌, ◌*◌, Bool, true, false, ◌||◌, ◌&&◌, eqb, ⊎_elim, ap, List, [], ◌∷◌, ◌++◌, codes, length, drop, refl, arith, length-append}
use Rattle.std.specs.Prelude.{not, encode_utf8, nat_eq, if◌then◌else◌}
use Rattle.std.specs.List.{list_all, starts_with}
use Rattle.std.proofs.lemmas.Bool.{and_parts, or_cases}
use Rattle.std.proofs.lemmas.Bool.Decides.{Decides-eqb}
use Rattle.std.proofs.lemmas.Slice.Eq.{starts_is}
use Rattle.std.proofs.lemmas.Grind.{flat_map-append}
use Rattle.std.proofs.lemmas.Bool.{cases_lt}
use Rattle.std.proofs.lemmas.Str.{length-encode, len_utf8_bounds}
use Rattle.anstyle_parse.specs.Stream.Call.{Call, print, execute, hook, put, unhook, osc_dispatch, csi_dispatch, esc_dispatch}
use Rattle.ansi_strip.specs.Strip.{is_layout, stripped_call}
use Rattle.std.specs.Str.{bytes_eq}
use Rattle.ansi_style.specs.declared.style.Style.{Style}
use Rattle.ansi_style.specs.Style.{plain}
use Rattle.ansi_style.specs.declared.style.Underline.{Underline}
use Rattle.ansi_style.specs.declared.style.Underline.TheVariants.{Off, Single, Double, Curly, Dotted, Dashed}
use Rattle.ansi_html.specs.declared.contrast.Rgb.{Rgb}
use Rattle.ansi_html.specs.declared.scheme.Scheme.{Scheme}
use Rattle.ansi_html.specs.declared.scheme.Scheme.TheVariants.{Light, Dark, Both}
use Rattle.ansi_html.specs.declared.scheme.Styling.{Styling}
use Rattle.ansi_html.specs.declared.scheme.Styling.TheVariants.{Inline, Classes}
use Rattle.ansi_html.specs.Contrast.{black, white}
use Rattle.ansi_html.specs.Palette.{hex}
use Rattle.ansi_html.specs.Css.{declared, light_dark, themed, colors_css, text_if, is_underlined, lines_css, underline_css, css}
use Rattle.ansi_html.specs.Classes.{classes_of}
use Rattle.ansi_html.specs.Grammar.{AreReadable, of_page, on_page, on_reversed, on_color, AreColors, readable, chosen}
use Rattle.ansi_html.specs.Html.{escaped, escaped_text, is_plain, span_begin, span_end, Element, are_same, value_of, attribute_text, link_begin, link_end, element_begin, element_end, change, Standing, line_break, beginning, text_html}
use Rattle.ansi_html.proofs.HtmlLemmas.{escaped_one, escaped_ascii, escaped_high}
use Rattle.ansi_html.proofs.ColorLemmas.{choose, AreColors-css}
use Rattle.ansi_html.proofs.ClassLemmas.{length-class_names}
use Rattle.ansi_html.specs.Links.{has_scheme, is_visible, is_linkable, is_none}
use Rattle.ansi_html.proofs.SoundLemmas.{IsSound, AreSound}

-- a test that a text is at most so long
unfoldable pub AtMost : ℕ → List ℕ → Type 0
AtMost n bytes = length bytes ≤ n

pub AtMost-append : (m n : ℕ) (first second : List ℕ) → AtMost m first → AtMost n second → AtMost (m + n) (first ++ second)
unfolding AtMost
AtMost-append m n first second a b = omega (arith, length-append first second)

pub AtMost-if : (n : ℕ) (wanted : Bool) (text : List ℕ) → AtMost n text → AtMost n (text_if wanted text)
unfolding AtMost
AtMost-if n wanted text few = choose (λ l. length l ≤ n) wanted text [] few (omega arith)

AtMost-length : (bytes : List ℕ) → AtMost (length bytes) bytes
unfolding AtMost
AtMost-length bytes = omega arith

AtMost-hex : (color : Rgb) → AtMost 7 (hex color)
unfolding AtMost
AtMost-hex color = omega arith

pub AtMost-declared : (property : List ℕ) (color : Rgb) → AtMost (length property + 8) (declared property color)
AtMost-declared property color =
    AtMost-append (length property) 8 property (hex color ++ codes ";") (AtMost-length property)
    (AtMost-append 7 1 (hex color) (codes ";") (AtMost-hex color) (AtMost-length (codes ";")))

AtMost-light_dark : (property : List ℕ) (light dark : Rgb) → AtMost (length property + 28) (light_dark property light dark)
AtMost-light_dark property light dark =
    AtMost-append (length property) 28 property _ (AtMost-length property)
    (AtMost-append 11 17 (codes "light-dark(") _ (AtMost-length (codes "light-dark("))
    (AtMost-append 7 10 (hex light) _ (AtMost-hex light)
    (AtMost-append 1 9 (codes ",") _ (AtMost-length (codes ",")) (AtMost-append 7 2 (hex dark) (codes ");") (AtMost-hex dark) (AtMost-length (codes ");"))))))

AtMost-more : (m n : ℕ) (bytes : List ℕ) → m ≤ n → AtMost m bytes → AtMost n bytes
unfolding AtMost
AtMost-more m n bytes less few = omega (arith, less, few)

AtMost-themed : (scheme : Scheme) (property : List ℕ) (light dark : Rgb) → AtMost (length property + 8 + (length property + 28)) (themed scheme property light dark)
AtMost-themed Light property light dark = AtMost-more (length property + 8) _ (declared property light) (omega arith) (AtMost-declared property light)
AtMost-themed Dark property light dark = AtMost-more (length property + 8) _ (declared property dark) (omega arith) (AtMost-declared property dark)
AtMost-themed Both property light dark =
    AtMost-append (length property + 8) (length property + 28) (declared property light) (light_dark property light dark)
    (AtMost-declared property light) (AtMost-light_dark property light dark)

AtMost-pair : (text behind : Rgb) → AtMost 118 (declared (codes "color:") text ++ declared (codes "background-color:") behind)
AtMost-pair text behind =
    AtMost-more 39 118 (declared (codes "color:") text ++ declared (codes "background-color:") behind) (omega arith)
    (AtMost-append 14 25 (declared (codes "color:") text) (declared (codes "background-color:") behind)
    (AtMost-declared (codes "color:") text) (AtMost-declared (codes "background-color:") behind))

AtMost-readable : (scheme : Scheme) {colors : List ℕ} → AreReadable scheme colors → AtMost 118 colors
AtMost-readable scheme of_page = AtMost-more 0 118 [] (omega arith) (AtMost-length [])
AtMost-readable scheme (on_page light dark l d) =
    AtMost-more 48 118 (themed scheme (codes "color:") light dark) (omega arith) (AtMost-themed scheme (codes "color:") light dark)
AtMost-readable scheme (on_reversed light dark l d) =
    AtMost-append 48 70 (themed scheme (codes "color:") dark light) (themed scheme (codes "background-color:") black white)
    (AtMost-themed scheme (codes "color:") dark light) (AtMost-themed scheme (codes "background-color:") black white)
AtMost-readable scheme (on_color text behind is) = AtMost-pair text behind

AtMost-colors : (scheme : Scheme) {colors : List ℕ} → AreColors scheme colors → AtMost 118 colors
AtMost-colors scheme (readable colors are) = AtMost-readable scheme are
AtMost-colors scheme (chosen text behind) = AtMost-pair text behind

AtMost-lines : (underlined overlined struck_out blink : Bool) → AtMost 60 (lines_css underlined overlined struck_out blink)
unfolding AtMost
AtMost-lines underlined overlined struck_out blink =
    AtMost-if 60 (underlined || (overlined || (struck_out || blink))) _
    (AtMost-append 21 39 (codes "text-decoration-line:") _ (omega arith)
    (AtMost-append 10 29 (text_if underlined (codes " underline")) _ (AtMost-if 10 underlined (codes " underline") (omega arith))
    (AtMost-append 9 20 (text_if overlined (codes " overline")) _ (AtMost-if 9 overlined (codes " overline") (omega arith))
    (AtMost-append 13 7 (text_if struck_out (codes " line-through")) _ (AtMost-if 13 struck_out (codes " line-through") (omega arith))
    (AtMost-append 6 1 (text_if blink (codes " blink")) (codes ";") (AtMost-if 6 blink (codes " blink") (omega arith)) (omega arith))))))

AtMost-underline : (kind : Underline) → AtMost 29 (underline_css kind)
unfolding AtMost
AtMost-underline Off = omega arith
AtMost-underline Single = omega arith
AtMost-underline Double = omega arith
AtMost-underline Curly = omega arith
AtMost-underline Dotted = omega arith
AtMost-underline Dashed = omega arith

-- 118 for the colours, 17 and 18 for bold and italic, 60 and 29 for lines, 18 for hidden
pub AtMost-css : (scheme : Scheme) (style : Style) → AtMost 260 (css scheme style)
unfolding AtMost
AtMost-css scheme style =
    AtMost-append 118 142 (colors_css scheme style) _ (AtMost-colors scheme (AreColors-css scheme style))
    (AtMost-append 17 125 (text_if style.bold (codes "font-weight:bold;")) _ (AtMost-if 17 style.bold (codes "font-weight:bold;") (omega arith))
    (AtMost-append 18 107 (text_if style.italic (codes "font-style:italic;")) _ (AtMost-if 18 style.italic (codes "font-style:italic;") (omega arith))
    (AtMost-append 60 47 (lines_css (is_underlined style.underline) style.overlined style.struck_out style.blink) _
    (AtMost-lines (is_underlined style.underline) style.overlined style.struck_out style.blink)
    (AtMost-append 29 18 (underline_css style.underline) (text_if style.hidden (codes "visibility:hidden;")) (AtMost-underline style.underline)
    (AtMost-if 18 style.hidden (codes "visibility:hidden;") (omega arith))))))

pub AtMost-span_end : (style : Style) → AtMost 7 (span_end style)
unfolding AtMost
AtMost-span_end style = choose (λ l. length l ≤ 7) (is_plain style) [] (codes "</span>") (omega arith) (omega arith)

-- 7 for the end of a span, and 4 for that of a link
pub AtMost-end : (shown : Element) → AtMost 11 (element_end shown)
unfolding AtMost
AtMost-end shown =
    AtMost-append 7 4 (span_end shown.style) (link_end shown.link) (AtMost-span_end shown.style)
    (choose (λ l. length l ≤ 4) (is_none shown.link) [] (codes "</a>") (omega arith) (omega arith))

-- what a span says: declarations, or the names of classes
AtMost-value : (styling : Styling) (style : Style) → AtMost 260 (value_of styling false style)
unfolding AtMost
AtMost-value (Inline scheme) style = AtMost-css scheme style
AtMost-value Classes style = omega (arith, length-class_names false style)

AtMost-attribute : (n : ℕ) (styling : Styling) (value : List ℕ) → AtMost n value → AtMost (n + 10) (attribute_text styling value)
unfolding AtMost
AtMost-attribute n (Inline scheme) value few = omega (arith, few, length-append (codes " style=\"") (value ++ codes "\">"), length-append value (codes "\">"))
AtMost-attribute n Classes value few = omega (arith, few, length-append (codes " class=\"") (value ++ codes "\">"), length-append value (codes "\">"))

-- by classes
pub AtMost-span_of_classes : (style : Style) → AtMost 119 (span_begin Classes style)
unfolding AtMost
AtMost-span_of_classes style =
    let tag = attribute_text Classes (value_of Classes false style) in
    choose (λ l. length l ≤ 119) (is_plain style) [] (codes "<span" ++ tag) (omega arith)
    (AtMost-append 5 114 (codes "<span") tag (omega arith) (AtMost-attribute 104 Classes (value_of Classes false style) (length-class_names false style)))

pub AtMost-span_begin : (styling : Styling) → (style : Style) → AtMost 275 (span_begin styling style)
unfolding AtMost
AtMost-span_begin styling style =
    let tag = attribute_text styling (value_of styling false style) in
    choose (λ l. length l ≤ 275) (is_plain style) [] (codes "<span" ++ tag) (omega arith)
    (AtMost-append 5 270 (codes "<span") tag (omega arith) (AtMost-attribute 260 styling (value_of styling false style) (AtMost-value styling style)))

pub length-escaped : (b : ℕ) → length (escaped b) ≤ 6
length-escaped b =
    let P : List ℕ → Type 0 = λ l. length l ≤ 6 in
    choose P (eqb b 0x26) _ _ (omega arith) (choose P (eqb b 0x3C) _ _ (omega arith) (choose P (eqb b 0x3E) _ _ (omega arith)
    (choose P (eqb b 0x22) _ _ (omega arith) (choose P (eqb b 0x27) _ _ (omega arith) (choose P (eqb b 0x0D) _ _ (omega arith) (omega arith))))))

pub length-escaped_text : (bytes : List ℕ) → length (escaped_text bytes) ≤ 6 * length bytes
length-escaped_text [] = omega arith
length-escaped_text (b ∷ bytes) = omega (arith, length-append (escaped b) (escaped_text bytes), length-escaped b, length-escaped_text bytes)

-- 14 for the colour of a link, or 9 for its class
AtMost-link_value : (styling : Styling) → AtMost 14 (value_of styling true plain)
unfolding AtMost colors_css classes_of
AtMost-link_value (Inline scheme) = omega arith
AtMost-link_value Classes = omega arith

-- 60 for the tag, and the link as it is written
pub few-link_begin : (styling : Styling) (link : List ℕ) → length (link_begin styling link) ≤ 60 + length (escaped_text link)
unfolding AtMost
few-link_begin styling link =
    let tag = attribute_text styling (value_of styling true plain) in
    choose (λ l. length l ≤ 60 + length (escaped_text link)) (is_none link) [] (codes "<a rel=\"nofollow noreferrer\" href=\"" ++ (escaped_text link ++ (codes "\"" ++ tag))) (omega arith)
    (omega (
      arith,
      length-append (codes "<a rel=\"nofollow noreferrer\" href=\"") (escaped_text link ++ (codes "\"" ++ tag)),
      length-append (escaped_text link) (codes "\"" ++ tag),
      AtMost-attribute 14 styling (value_of styling true plain) (AtMost-link_value styling),
    ))

pub AtMost-link_begin : (styling : Styling) (link : List ℕ) → AtMost (60 + 6 * length link) (link_begin styling link)
unfolding AtMost
AtMost-link_begin styling link = omega (arith, few-link_begin styling link, length-escaped_text link)

-- a URI that begins with a scheme has seven bytes at least that are written as they are
length-scheme : (first link : List ℕ) → escaped_text first ≡ first → 7 ≤ length first → starts_with nat_eq link first ≡ true → length (escaped_text link) + 35 ≤ 6 * length link
length-scheme first link same long begins =
    let rest = drop (length first) link in
    let whole = (starts_is {E = nat_eq} Decides-eqb link first (starts_with nat_eq link first) refl).0 begins in
    omega (
      arith,
      long,
      ap length whole,
      length-append first rest,
      ap (λ l. length (escaped_text l)) whole,
      ap length (flat_map-append escaped first rest),
      ap length same,
      length-append (escaped_text first) (escaped_text rest),
      length-escaped_text rest,
    )

length-linkable : (link : List ℕ) → is_linkable link ≡ true → length (escaped_text link) + 35 ≤ 6 * length link
unfolding is_linkable has_scheme
length-linkable link is =
    let begins : List ℕ → Bool = λ first. starts_with nat_eq link first in
    let scheme = (and_parts (begins (codes "https://") || (begins (codes "http://") || begins (codes "mailto:"))) (list_all is_visible link) is).0 in
    ⊎_elim (length-scheme (codes "https://") link refl (omega arith))
    (λ others. ⊎_elim (length-scheme (codes "http://") link refl (omega arith)) (length-scheme (codes "mailto:") link refl (omega arith))
    (or_cases (begins (codes "http://")) (begins (codes "mailto:")) others))
    (or_cases (begins (codes "https://")) _ scheme)

pub length-link : (styling : Styling) (link : List ℕ) → IsSound link → length (link_begin styling link) ≤ 6235
unfolding AtMost
length-link styling link sound =
    let tag = attribute_text styling (value_of styling true plain) in
    ⊎_elim (λ (none : link ≡ []). omega (arith, ap (λ l. length (link_begin styling l)) none))
    (λ (is : is_linkable link ≡ true). choose (λ l. length l ≤ 6235) (is_none link) [] (codes "<a rel=\"nofollow noreferrer\" href=\"" ++ (escaped_text link ++ (codes "\"" ++ tag))) (omega arith)
    (omega (
      arith,
      sound.short,
      length-append (codes "<a rel=\"nofollow noreferrer\" href=\"") (escaped_text link ++ (codes "\"" ++ tag)),
      length-append (escaped_text link) (codes "\"" ++ tag),
      length-append (codes "\"") tag,
      length-linkable link is,
      AtMost-attribute 14 styling (value_of styling true plain) (AtMost-link_value styling),
    )))
    sound.is_link

-- A change: 7 for the end of a span and 275 for the beginning of another one, and where the link changes too 4 for the end
-- of a link and 6235 for the beginning of another one.
pub length-change : (styling : Styling) (shown next : Element) → IsSound next.link → length (change styling shown next) ≤ 6521
unfolding AtMost
length-change styling shown next sound = by_case (are_same shown next) (bytes_eq shown.link next.link)
  where
    by_case : (same linked : Bool)
        → length (if same then [] else if linked then span_end shown.style ++ span_begin styling next.style else element_end shown ++ element_begin styling next) ≤ 6521
    by_case true linked = omega arith
    by_case false true = omega (arith, length-append (span_end shown.style) (span_begin styling next.style), AtMost-span_end shown.style, AtMost-span_begin styling next.style)
    by_case false false =
        omega (
          arith,
          length-append (element_end shown) (element_begin styling next),
          length-append (link_begin styling next.link) (span_begin styling next.style),
          AtMost-end shown,
          length-link styling next.link sound,
          AtMost-span_begin styling next.style,
        )

pub AtMost-line_break : (returned is_line_feed : Bool) → AtMost 4 (line_break returned is_line_feed)
unfolding AtMost
AtMost-line_break returned is_line_feed = choose (λ l. length l ≤ 4) (returned && not is_line_feed) (codes "<br>") [] (omega arith) (omega arith)

-- what ends an element
pub length-end : (shown : Element) → length (element_end shown) ≤ 11
unfolding AtMost
length-end shown = AtMost-end shown

-- what begins a text
pub length-beginning : (styling : Styling) (at : Standing) (is_line_feed : Bool) → IsSound at.selected.link → length (beginning styling at is_line_feed) ≤ 6525
unfolding AtMost
length-beginning styling at is_line_feed sound =
    let changed = change styling at.shown at.selected in
    let broken = line_break at.returned is_line_feed in
    omega (arith, length-append changed broken, length-change styling at.shown at.selected sound, AtMost-line_break at.returned is_line_feed)

-- what is left of a call, escaped: a reference, or the bytes of a character
length-encoded : (c : ℕ) → length (escaped_text (encode_utf8 c)) ≤ 6
length-encoded c =
    ⊎_elim
    (λ (k : c < 0x80). omega (arith, ap length (escaped_ascii c k), length-escaped c))
    (λ (k : 0x80 ≤ c). omega (arith, ap length (escaped_high c k), length-encode c, (len_utf8_bounds c).1))
    (cases_lt c 0x80)

pub length-stripped : (call : Call) → length (escaped_text (stripped_call call)) ≤ 6
length-stripped (print c) = length-encoded c
length-stripped (execute b) =
    choose (λ l. length (escaped_text l) ≤ 6) (is_layout b) (b ∷ []) [] (omega (arith, ap length (escaped_one b), length-escaped b)) (omega arith)
length-stripped (hook gs is ig f) = omega arith
length-stripped (put b) = omega arith
length-stripped unhook = omega arith
length-stripped (osc_dispatch parts bell) = omega arith
length-stripped (csi_dispatch gs is ig f) = omega arith
length-stripped (esc_dispatch is ig f) = omega arith

-- 6521 for a change of elements, 4 for a line break and 6 for the text
pub length-text_html : (styling : Styling) (at : Standing) (is_line_feed : Bool) (bytes : List ℕ) → AreSound at → length (escaped_text bytes) ≤ 6 → length (text_html styling at is_line_feed bytes) ≤ 6531
unfolding text_html AtMost
length-text_html styling at is_line_feed [] sound few = omega arith
length-text_html styling at is_line_feed (b ∷ bytes) sound few =
    let changed = change styling at.shown at.selected in
    let broken = line_break at.returned is_line_feed in
    omega (arith, few, length-append (changed ++ broken) (escaped_text (b ∷ bytes)), length-append changed broken, length-change styling at.shown at.selected sound.selected, AtMost-line_break at.returned is_line_feed)
