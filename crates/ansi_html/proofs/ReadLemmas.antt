-- What a reader reads of the HTML.
use Rattle.std.proofs.Common.{◌≡◌, ℕ, Bool, true, false, ◌&&◌, eqb, List, [], ◌∷◌, ◌++◌, codes, length, map, refl, sym, ap, ap₂, ◌∙◌, subst, append_assoc, append-nil, ⊎_elim}
use Rattle.std.specs.Prelude.{not, if◌then◌else◌}
use Rattle.std.specs.List.{list_all, flat_map}
use Rattle.std.specs.Str.{bytes_eq}
use Rattle.std.proofs.lemmas.Slice.Eq.{bytes_eq-Decides}
use Rattle.std.proofs.lemmas.Bool.{and_parts, or_cases, or_parts, eqb-true}
use Rattle.std.proofs.lemmas.List.{nil_from_length}
use Rattle.std.proofs.lemmas.Grind.{flat_map-append}
use Rattle.anstyle_parse.specs.Stream.Call.{Call}
use Rattle.ansi_strip.specs.Strip.{stripped_call, stripped}
use Rattle.ansi_style.specs.declared.style.Style.{Style}
use Rattle.ansi_style.specs.Style.{plain}
use Rattle.ansi_style.proofs.EqualityLemmas.{are_equal-refl, are_equal-same}
use Rattle.ansi_html.specs.declared.scheme.Styling.{Styling}
use Rattle.ansi_html.specs.declared.scheme.Styling.TheVariants.{Inline, Classes}
use Rattle.ansi_html.specs.Css.{colors_css}
use Rattle.ansi_html.specs.declared.class.Class.{Class}
use Rattle.ansi_html.specs.declared.class.Class.TheVariants.{Link}
use Rattle.ansi_html.specs.Classes.{class_name, class_names, classes_of}
use Rattle.ansi_html.specs.Links.{is_none}
use Rattle.ansi_html.specs.Grammar.{is_special}
use Rattle.ansi_html.specs.Html.{escaped, escaped_text, is_plain, span_begin, span_end, Element, no_element, are_same, value_of, attribute_text, link_begin, link_end, element_begin, element_end, element_after, change, Standing, at_start, line_break, after_text, is_executed, text_html, call_html, standing_after, html_from, standing_at_end, html}
use Rattle.ansi_html.specs.Reader.{Attributes, no_attributes, both_names, within, in_force, Shown, under, byte_of, in_text, in_tag, in_value, in_value_reference, with_attribute, attributes_by, attributes_of, Seen, text, break, seen_from, seen, read_of, read, shown_from}
use Rattle.ansi_html.proofs.HtmlLemmas.{escaped-clear, are_same-same}
use Rattle.ansi_html.proofs.DeclarationLemmas.{is_safe, AreSafe, not_quote-safe, not_ampersand-safe}
use Rattle.ansi_html.proofs.ClassLemmas.{AreSafe-value}
use Rattle.ansi_html.proofs.NewlineLemmas.{normalized-escaped, normalized-html}

-- a text byte, escaped, is seen as that byte
SeenAs : List Attributes → List ℕ → ℕ → Type 0
SeenAs opened rest b = seen_from (in_text opened) (escaped b ++ rest) ≡ text (in_force opened) b ∷ seen_from (in_text opened) rest

seen_special : (opened : List Attributes) (rest : List ℕ) (b : ℕ) → is_special b ≡ true → SeenAs opened rest b
unfolding is_special SeenAs
seen_special opened rest b is =
    let at : (k : ℕ) → SeenAs opened rest k → eqb b k ≡ true → SeenAs opened rest b = λ k h e. subst (SeenAs opened rest) (sym (eqb-true b k e)) h in
    ⊎_elim (at 0x26 refl) (λ h. ⊎_elim (at 0x3C refl) (λ h. ⊎_elim (at 0x3E refl) (λ h. ⊎_elim (at 0x22 refl) (λ h. ⊎_elim (at 0x27 refl) (at 0x0D refl)
    (or_cases (eqb b 0x27) (eqb b 0x0D) h)) (or_cases (eqb b 0x22) _ h)) (or_cases (eqb b 0x3E) _ h)) (or_cases (eqb b 0x3C) _ h)) (or_cases (eqb b 0x26) _ is)

seen_clear : (opened : List Attributes) (rest : List ℕ) (b : ℕ) → is_special b ≡ false → SeenAs opened rest b
unfolding is_special SeenAs
seen_clear opened rest b clear =
    let h0 = or_parts (eqb b 0x26) _ clear in
    let h1 = or_parts (eqb b 0x3C) _ h0.1 in
    ap (λ l. seen_from (in_text opened) (l ++ rest)) (escaped-clear b clear) ∙ rw (h1.0, h0.0) refl

seen_byte : (opened : List Attributes) (rest : List ℕ) (b : ℕ) → SeenAs opened rest b
seen_byte opened rest b = by_case (is_special b) refl
  where
    by_case : (special : Bool) → is_special b ≡ special → SeenAs opened rest b
    by_case true is = seen_special opened rest b is
    by_case false is = seen_clear opened rest b is

seen-escaped_text : (opened : List Attributes) (bytes rest : List ℕ)
    → seen_from (in_text opened) (escaped_text bytes ++ rest) ≡ map (text (in_force opened)) bytes ++ seen_from (in_text opened) rest
unfolding SeenAs
seen-escaped_text opened [] rest = refl
seen-escaped_text opened (b ∷ bytes) rest =
    ap (seen_from (in_text opened)) (append_assoc (escaped b) (escaped_text bytes) rest)
    ∙ seen_byte opened (escaped_text bytes ++ rest) b
    ∙ ap (λ l. text (in_force opened) b ∷ l) (seen-escaped_text opened bytes rest)

pub read-text : (attribute : Attributes) (bytes : List ℕ) → flat_map read_of (map (text attribute) bytes) ≡ map (under attribute) bytes
read-text attribute [] = refl
read-text attribute (b ∷ bytes) = ap (λ l. under attribute b ∷ l) (read-text attribute bytes)

-- Reading an escaped text gives the text, in no span.
pub read-escaped : (bytes : List ℕ) → read (escaped_text bytes) ≡ map (under no_attributes) bytes
read-escaped bytes =
    ap (λ l. flat_map read_of (seen_from (in_text []) l)) (normalized-escaped bytes ∙ sym (append-nil (escaped_text bytes)))
    ∙ ap (flat_map read_of) (seen-escaped_text [] bytes [] ∙ append-nil (map (text no_attributes) bytes))
    ∙ read-text no_attributes bytes

-- a value without a quote or a reference
pub seen-value : (opened : List Attributes) (so_far : Attributes) (name value bytes rest : List ℕ) → AreSafe bytes
    → seen_from (in_value opened so_far name value) (bytes ++ rest) ≡ seen_from (in_value opened so_far name (value ++ bytes)) rest
seen-value opened so_far name value [] rest safe = ap (λ v. seen_from (in_value opened so_far name v) rest) (sym (append-nil value))
seen-value opened so_far name value (b ∷ bytes) rest safe =
    let parts = and_parts (is_safe b) (list_all is_safe bytes) safe in
    let more = value ++ b ∷ [] in
    ap₂ (λ (quote reference : Bool). seen_from (if quote then in_tag opened (with_attribute name value so_far) [] else if reference then in_value_reference opened so_far name value [] else in_value opened so_far name more) (bytes ++ rest))
    (not_quote-safe b parts.0) (not_ampersand-safe b parts.0)
    ∙ seen-value opened so_far name more bytes rest parts.1
    ∙ ap (λ v. seen_from (in_value opened so_far name v) rest) (append_assoc value (b ∷ []) bytes)

-- a byte, escaped, in a value
module _ (opened : List Attributes) (so_far : Attributes) (name value rest : List ℕ) where
  ValuedAs : ℕ → Type 0
  ValuedAs b = seen_from (in_value opened so_far name value) (escaped b ++ rest) ≡ seen_from (in_value opened so_far name (value ++ b ∷ [])) rest

  valued_special : (b : ℕ) → is_special b ≡ true → ValuedAs b
  unfolding is_special ValuedAs
  valued_special b is =
      let at : (k : ℕ) → ValuedAs k → eqb b k ≡ true → ValuedAs b = λ k h e. subst ValuedAs (sym (eqb-true b k e)) h in
      ⊎_elim (at 0x26 refl) (λ h. ⊎_elim (at 0x3C refl) (λ h. ⊎_elim (at 0x3E refl) (λ h. ⊎_elim (at 0x22 refl) (λ h. ⊎_elim (at 0x27 refl) (at 0x0D refl)
      (or_cases (eqb b 0x27) (eqb b 0x0D) h)) (or_cases (eqb b 0x22) _ h)) (or_cases (eqb b 0x3E) _ h)) (or_cases (eqb b 0x3C) _ h)) (or_cases (eqb b 0x26) _ is)

  valued_clear : (b : ℕ) → is_special b ≡ false → ValuedAs b
  unfolding is_special ValuedAs
  valued_clear b clear =
      let h0 = or_parts (eqb b 0x26) _ clear in
      let h3 = or_parts (eqb b 0x22) _ (or_parts (eqb b 0x3E) _ (or_parts (eqb b 0x3C) _ h0.1).1).1 in
      ap (λ l. seen_from (in_value opened so_far name value) (l ++ rest)) (escaped-clear b clear)
      ∙ ap₂ (λ (quote reference : Bool). seen_from (if quote then in_tag opened (with_attribute name value so_far) [] else if reference then in_value_reference opened so_far name value [] else in_value opened so_far name (value ++ b ∷ [])) rest)
      h3.0 h0.0

  valued_byte : (b : ℕ) → ValuedAs b
  valued_byte b = by_case (is_special b) refl
    where
      by_case : (special : Bool) → is_special b ≡ special → ValuedAs b
      by_case true is = valued_special b is
      by_case false is = valued_clear b is

-- a value that was escaped
pub seen-escaped_value : (opened : List Attributes) (so_far : Attributes) (name value bytes rest : List ℕ)
    → seen_from (in_value opened so_far name value) (escaped_text bytes ++ rest) ≡ seen_from (in_value opened so_far name (value ++ bytes)) rest
unfolding ValuedAs
seen-escaped_value opened so_far name value [] rest = ap (λ v. seen_from (in_value opened so_far name v) rest) (sym (append-nil value))
seen-escaped_value opened so_far name value (b ∷ bytes) rest =
    ap (seen_from (in_value opened so_far name value)) (append_assoc (escaped b) (escaped_text bytes) rest)
    ∙ valued_byte opened so_far name value (escaped_text bytes ++ rest) b
    ∙ seen-escaped_value opened so_far name (value ++ b ∷ []) bytes rest
    ∙ ap (λ v. seen_from (in_value opened so_far name v) rest) (append_assoc value (b ∷ []) bytes)

-- The attribute of a tag that has a link, or none so far: the element is opened in those that are open.
seen-attribute : (opened : List Attributes) (styling : Styling) (link value rest : List ℕ) → AreSafe value
    → seen_from (in_tag opened (record { style = []; classes = []; href = link }) []) (attribute_text styling value ++ rest)
    ≡ seen_from (in_text (within (in_force opened) (attributes_by styling value link) ∷ opened)) rest
seen-attribute opened (Inline scheme) link value rest safe =
    let before : Attributes = record { style = []; classes = []; href = link } in
    ap (λ l. seen_from (in_value opened before (codes "style") []) l) (append_assoc value (codes "\">") rest)
    ∙ seen-value opened before (codes "style") [] value (codes "\">" ++ rest) safe
seen-attribute opened Classes link value rest safe =
    let before : Attributes = record { style = []; classes = []; href = link } in
    ap (λ l. seen_from (in_value opened before (codes "class") []) l) (append_assoc value (codes "\">") rest)
    ∙ seen-value opened before (codes "class") [] value (codes "\">" ++ rest) safe

seen-span : (opened : List Attributes) (styling : Styling) (value rest : List ℕ) → AreSafe value
    → seen_from (in_text opened) ((codes "<span" ++ attribute_text styling value) ++ rest)
    ≡ seen_from (in_text (within (in_force opened) (attributes_by styling value []) ∷ opened)) rest
seen-span opened styling value rest safe = seen-attribute opened styling [] value rest safe

seen-link : (opened : List Attributes) (styling : Styling) (link value rest : List ℕ) → AreSafe value
    → seen_from (in_text opened) ((codes "<a rel=\"nofollow noreferrer\" href=\"" ++ (escaped_text link ++ (codes "\"" ++ attribute_text styling value))) ++ rest)
    ≡ seen_from (in_text (within (in_force opened) (attributes_by styling value link) ∷ opened)) rest
seen-link opened styling link value rest safe =
    let tag = attribute_text styling value in
    ap (λ l. seen_from (in_value opened no_attributes (codes "href") []) l) (append_assoc (escaped_text link) (codes "\"" ++ tag) rest)
    ∙ seen-escaped_value opened no_attributes (codes "href") [] link (codes "\"" ++ (tag ++ rest))
    ∙ seen-attribute opened styling link value rest safe

-- what a link's own tag says, and what a span's does
abbrev linked : Styling → (link : List ℕ) → Attributes
linked styling link = attributes_by styling (value_of styling true plain) link

abbrev spanned : Styling → Style → Attributes
spanned styling style = attributes_by styling (value_of styling false style) []

-- the elements that are open where a link's text stands in some, and that of a span in those
abbrev link_open : (below : List Attributes) → Styling → (link : List ℕ) → List Attributes
link_open below styling link = if is_none link then below else within (in_force below) (linked styling link) ∷ below

abbrev span_open : Styling → Style → List Attributes → List Attributes
span_open styling style opened = if is_plain style then opened else within (in_force opened) (spanned styling style) ∷ opened

abbrev pub open_in : (below : List Attributes) → Styling → Element → List Attributes
open_in below styling element = span_open styling element.style (link_open below styling element.link)

seen-span_begin : (opened : List Attributes) (styling : Styling) (style : Style) (rest : List ℕ)
    → seen_from (in_text opened) (span_begin styling style ++ rest) ≡ seen_from (in_text (span_open styling style opened)) rest
seen-span_begin opened styling style rest = by_case (is_plain style)
  where
    by_case : (plain_is : Bool)
        → seen_from (in_text opened) ((if plain_is then [] else codes "<span" ++ attribute_text styling (value_of styling false style)) ++ rest)
        ≡ seen_from (in_text (if plain_is then opened else within (in_force opened) (spanned styling style) ∷ opened)) rest
    by_case true = refl
    by_case false = seen-span opened styling (value_of styling false style) rest (AreSafe-value styling false style)

-- an end tag ends the innermost element
seen-span_end : (opened : List Attributes) (styling : Styling) (shown : Style) (rest : List ℕ)
    → seen_from (in_text (span_open styling shown opened)) (span_end shown ++ rest) ≡ seen_from (in_text opened) rest
seen-span_end opened styling shown rest = by_case (is_plain shown)
  where
    by_case : (plain_is : Bool)
        → seen_from (in_text (if plain_is then opened else within (in_force opened) (spanned styling shown) ∷ opened)) ((if plain_is then [] else codes "</span>") ++ rest)
        ≡ seen_from (in_text opened) rest
    by_case true = refl
    by_case false = refl

seen-link_begin : (below : List Attributes) (styling : Styling) (link rest : List ℕ)
    → seen_from (in_text below) (link_begin styling link ++ rest) ≡ seen_from (in_text (link_open below styling link)) rest
seen-link_begin below styling link rest = by_case (is_none link)
  where
    by_case : (none : Bool)
        → seen_from (in_text below)
        ((if none then [] else codes "<a rel=\"nofollow noreferrer\" href=\"" ++ (escaped_text link ++ (codes "\"" ++ attribute_text styling (value_of styling true plain)))) ++ rest)
        ≡ seen_from (in_text (if none then below else within (in_force below) (linked styling link) ∷ below)) rest
    by_case true = refl
    by_case false = seen-link below styling link (value_of styling true plain) rest (AreSafe-value styling true plain)

seen-link_end : (below : List Attributes) (styling : Styling) (link rest : List ℕ)
    → seen_from (in_text (link_open below styling link)) (link_end link ++ rest) ≡ seen_from (in_text below) rest
seen-link_end below styling link rest = by_case (is_none link)
  where
    by_case : (none : Bool)
        → seen_from (in_text (if none then below else within (in_force below) (linked styling link) ∷ below)) ((if none then [] else codes "</a>") ++ rest) ≡ seen_from (in_text below) rest
    by_case true = refl
    by_case false = refl

seen-element_begin : (below : List Attributes) (styling : Styling) (element : Element) (rest : List ℕ)
    → seen_from (in_text below) (element_begin styling element ++ rest) ≡ seen_from (in_text (open_in below styling element)) rest
seen-element_begin below styling element rest =
    ap (seen_from (in_text below)) (append_assoc (link_begin styling element.link) (span_begin styling element.style) rest)
    ∙ seen-link_begin below styling element.link (span_begin styling element.style ++ rest)
    ∙ seen-span_begin (link_open below styling element.link) styling element.style rest

pub seen-element_end : (below : List Attributes) (rest : List ℕ) (styling : Styling) (shown : Element)
    → seen_from (in_text (open_in below styling shown)) (element_end shown ++ rest) ≡ seen_from (in_text below) rest
seen-element_end below rest styling shown =
    ap (seen_from (in_text (open_in below styling shown))) (append_assoc (span_end shown.style) (link_end shown.link) rest)
    ∙ seen-span_end (link_open below styling shown.link) styling shown.style (link_end shown.link ++ rest)
    ∙ seen-link_end below styling shown.link rest

seen-change : (below : List Attributes) (styling : Styling) (shown next : Element) (rest : List ℕ)
    → seen_from (in_text (open_in below styling shown)) (change styling shown next ++ rest) ≡ seen_from (in_text (open_in below styling next)) rest
seen-change below styling shown next rest = by_case (are_same shown next) (bytes_eq shown.link next.link) refl refl
  where
    by_case : (same linked_so : Bool) → are_same shown next ≡ same → bytes_eq shown.link next.link ≡ linked_so
        → seen_from (in_text (open_in below styling shown))
        ((if same then [] else if linked_so then span_end shown.style ++ span_begin styling next.style else element_end shown ++ element_begin styling next) ++ rest)
        ≡ seen_from (in_text (open_in below styling next)) rest
    by_case true linked_so is links = ap (λ s. seen_from (in_text (open_in below styling s)) rest) (are_same-same shown next is)
    by_case false true is links =
        ap (seen_from (in_text (open_in below styling shown))) (append_assoc (span_end shown.style) (span_begin styling next.style) rest)
        ∙ seen-span_end (link_open below styling shown.link) styling shown.style (span_begin styling next.style ++ rest)
        ∙ seen-span_begin (link_open below styling shown.link) styling next.style rest
        ∙ ap (λ link. seen_from (in_text (span_open styling next.style (link_open below styling link))) rest) ((bytes_eq-Decides shown.link next.link).0 links)
    by_case false false is links =
        ap (seen_from (in_text (open_in below styling shown))) (append_assoc (element_end shown) (element_begin styling next) rest)
        ∙ seen-element_end below (element_begin styling next ++ rest) styling shown
        ∙ seen-element_begin below styling next rest

-- Names of a link's text: that of the link, and those of the span.
joined_names : (names : List Class) → both_names (class_name Link) (class_names names) ≡ class_names (Link ∷ names)
joined_names [] = refl
joined_names (name ∷ []) = refl
joined_names (name ∷ other ∷ names) = refl

-- plain text stands under nothing
pub attributes-plain : (styling : Styling) → attributes_by styling (value_of styling false plain) [] ≡ no_attributes
unfolding colors_css classes_of
attributes-plain (Inline scheme) = refl
attributes-plain Classes = refl

-- What holds in the elements that are open, in some in which nothing holds, is what is said of the style and the link.
held-none : (styling : Styling) (style : Style) → within no_attributes (spanned styling style) ≡ spanned styling style
held-none (Inline scheme) style = refl
held-none Classes style = refl

held-link : (styling : Styling) (link : List ℕ) → is_none link ≡ false → within no_attributes (linked styling link) ≡ linked styling link
held-link (Inline scheme) link some = ap (λ (none : Bool). attributes_by (Inline scheme) (value_of (Inline scheme) true plain) (if none then [] else link)) some
held-link Classes link some = ap (λ (none : Bool). attributes_by Classes (value_of Classes true plain) (if none then [] else link)) some

held-both : (styling : Styling) (style : Style) (link : List ℕ) → within (linked styling link) (spanned styling style) ≡ attributes_by styling (value_of styling true style) link
unfolding colors_css classes_of
held-both (Inline scheme) style link = refl
held-both Classes style link = ap (λ (names : List ℕ). attributes_by Classes names link) (joined_names (classes_of false style))

pub held : (below : List Attributes) → in_force below ≡ no_attributes → (styling : Styling) (element : Element)
    → in_force (open_in below styling element) ≡ attributes_of styling element
held below outermost styling element = by_case (is_plain element.style) (is_none element.link) refl refl
  where
    no_link : is_none element.link ≡ true → element.link ≡ []
    no_link none = nil_from_length element.link (eqb-true (length element.link) 0 none)

    by_case : (plain_is none : Bool) → is_plain element.style ≡ plain_is → is_none element.link ≡ none
        → in_force (if plain_is then (if none then below else within (in_force below) (linked styling element.link) ∷ below)
        else within (in_force (if none then below else within (in_force below) (linked styling element.link) ∷ below)) (spanned styling element.style)
        ∷ (if none then below else within (in_force below) (linked styling element.link) ∷ below))
        ≡ attributes_by styling (if none then value_of styling false element.style else value_of styling true element.style) element.link
    by_case true true is none =
        outermost ∙ sym (attributes-plain styling)
        ∙ ap₂ (λ style link. attributes_by styling (value_of styling false style) link) (sym (are_equal-same element.style plain is)) (sym (no_link none))
    by_case true false is none =
        ap (λ (outer : Attributes). within outer (linked styling element.link)) outermost
        ∙ held-link styling element.link none
        ∙ ap (λ style. attributes_by styling (value_of styling true style) element.link) (sym (are_equal-same element.style plain is))
    by_case false true is none =
        ap (λ (outer : Attributes). within outer (spanned styling element.style)) outermost
        ∙ held-none styling element.style ∙ ap (λ link. attributes_by styling (value_of styling false element.style) link) (sym (no_link none))
    by_case false false is none =
        ap (λ (outer : Attributes). within (within outer (linked styling element.link)) (spanned styling element.style)) outermost
        ∙ ap (λ (outer : Attributes). within outer (spanned styling element.style)) (held-link styling element.link none)
        ∙ held-both styling element.style element.link

-- the line break after 0D, and a text
abbrev pub breaks : (returned is_line_feed : Bool) → List Seen
breaks returned is_line_feed = if returned && not is_line_feed then break ∷ [] else []

abbrev pub seen_text : Styling → Standing → Bool → List ℕ → List Seen
seen_text styling at is_line_feed [] = []
seen_text styling at is_line_feed (b ∷ bytes) = breaks at.returned is_line_feed ++ map (text (attributes_of styling at.selected)) (b ∷ bytes)

abbrev pub seen_calls : Styling → Standing → List Call → List Seen
seen_calls styling at [] = []
seen_calls styling at (call ∷ calls) =
    seen_text styling at (is_executed 0x0A call) (stripped_call call) ++ seen_calls styling (standing_after call at) calls

seen-line_break : (opened : List Attributes) (rest : List ℕ) (returned is_line_feed : Bool)
    → seen_from (in_text opened) (line_break returned is_line_feed ++ rest) ≡ breaks returned is_line_feed ++ seen_from (in_text opened) rest
seen-line_break opened rest returned is_line_feed = by_case (returned && not is_line_feed)
  where
    by_case : (wanted : Bool) → seen_from (in_text opened) ((if wanted then codes "<br>" else []) ++ rest) ≡ (if wanted then break ∷ [] else []) ++ seen_from (in_text opened) rest
    by_case true = refl
    by_case false = refl

module _ (styling : Styling) where
  -- text of a style is seen with its declarations
  pub seen-text : (below : List Attributes) → in_force below ≡ no_attributes → (at : Standing) (is_line_feed : Bool) (bytes rest : List ℕ)
      → seen_from (in_text (open_in below styling at.shown)) (text_html styling at is_line_feed bytes ++ rest)
      ≡ seen_text styling at is_line_feed bytes ++ seen_from (in_text (open_in below styling (after_text at.shown at.selected bytes))) rest
  unfolding text_html
  seen-text below outermost at is_line_feed [] rest = refl
  seen-text below outermost at is_line_feed (b ∷ bytes) rest =
      let changed = change styling at.shown at.selected in
      let broken = line_break at.returned is_line_feed in
      let escaped_bytes = escaped_text (b ∷ bytes) in
      let opened = open_in below styling at.selected in
      ap (seen_from (in_text (open_in below styling at.shown))) (append_assoc (changed ++ broken) escaped_bytes rest ∙ append_assoc changed broken (escaped_bytes ++ rest))
      ∙ seen-change below styling at.shown at.selected (broken ++ (escaped_bytes ++ rest))
      ∙ seen-line_break opened (escaped_bytes ++ rest) at.returned is_line_feed
      ∙ ap (λ l. breaks at.returned is_line_feed ++ l) (seen-escaped_text opened (b ∷ bytes) rest)
      ∙ ap (λ (attributes : Attributes). breaks at.returned is_line_feed ++ (map (text attributes) (b ∷ bytes) ++ seen_from (in_text opened) rest)) (held below outermost styling at.selected)
      ∙ sym (append_assoc (breaks at.returned is_line_feed) (map (text (attributes_of styling at.selected)) (b ∷ bytes)) (seen_from (in_text opened) rest))

  seen-html_from : (at : Standing) (calls : List Call)
      → seen_from (in_text (open_in [] styling at.shown)) (html_from styling at calls ++ element_end (standing_at_end at calls).shown) ≡ seen_calls styling at calls
  seen-html_from at [] = ap (seen_from (in_text (open_in [] styling at.shown))) (sym (append-nil (element_end at.shown))) ∙ seen-element_end [] [] styling at.shown
  seen-html_from at (call ∷ calls) =
      let bytes = stripped_call call in
      let after = standing_after call at in
      let rest = html_from styling after calls ++ element_end (standing_at_end after calls).shown in
      ap (seen_from (in_text (open_in [] styling at.shown))) (append_assoc (call_html styling at call) (html_from styling after calls) (element_end (standing_at_end after calls).shown))
      ∙ seen-text [] refl at (is_executed 0x0A call) bytes rest
      ∙ ap (λ l. seen_text styling at (is_executed 0x0A call) bytes ++ l) (seen-html_from after calls)

  -- in no element none is opened
  pub open-none : (below : List Attributes) → open_in below styling no_element ≡ below
  open-none below = ap (λ (plain_is : Bool). if plain_is then below else within (in_force below) (spanned styling plain) ∷ below) (are_equal-refl plain)

  pub seen-html : (calls : List Call) → seen (html styling calls) ≡ seen_calls styling at_start calls
  seen-html calls =
      ap (seen_from (in_text [])) (normalized-html styling calls)
      ∙ ap (λ opened. seen_from (in_text opened) (html styling calls)) (sym (open-none [])) ∙ seen-html_from at_start calls

  -- line breaks are not read
  pub read-seen_text : (at : Standing) (is_line_feed : Bool) (bytes : List ℕ) → flat_map read_of (seen_text styling at is_line_feed bytes) ≡ map (under (attributes_of styling at.selected)) bytes
  read-seen_text at is_line_feed [] = refl
  read-seen_text at is_line_feed (b ∷ bytes) = by_case (at.returned && not is_line_feed)
    where
      by_case : (wanted : Bool) → flat_map read_of ((if wanted then break ∷ [] else []) ++ map (text (attributes_of styling at.selected)) (b ∷ bytes)) ≡ map (under (attributes_of styling at.selected)) (b ∷ bytes)
      by_case true = read-text (attributes_of styling at.selected) (b ∷ bytes)
      by_case false = read-text (attributes_of styling at.selected) (b ∷ bytes)

  read-seen_calls : (at : Standing) (calls : List Call) → flat_map read_of (seen_calls styling at calls) ≡ shown_from styling at.selected calls
  read-seen_calls at [] = refl
  read-seen_calls at (call ∷ calls) =
      flat_map-append read_of (seen_text styling at (is_executed 0x0A call) (stripped_call call)) (seen_calls styling (standing_after call at) calls)
      ∙ ap₂ (λ a b. a ++ b) (read-seen_text at (is_executed 0x0A call) (stripped_call call)) (read-seen_calls (standing_after call at) calls)

  -- Reading the HTML of calls gives what they show.
  pub read-html : (calls : List Call) → read (html styling calls) ≡ shown_from styling no_element calls
  read-html calls = ap (flat_map read_of) (seen-html calls) ∙ read-seen_calls at_start calls

pub bytes-under : (attribute : Attributes) (bytes : List ℕ) → map byte_of (map (under attribute) bytes) ≡ bytes
bytes-under attribute [] = refl
bytes-under attribute (b ∷ bytes) = ap (λ l. b ∷ l) (bytes-under attribute bytes)

pub map-append_bytes : (first second : List Shown) → map byte_of (first ++ second) ≡ map byte_of first ++ map byte_of second
map-append_bytes [] second = refl
map-append_bytes (s ∷ first) second = ap (λ l. byte_of s ∷ l) (map-append_bytes first second)

bytes-shown_from : (styling : Styling) (element : Element) (calls : List Call) → map byte_of (shown_from styling element calls) ≡ stripped calls
bytes-shown_from styling element [] = refl
bytes-shown_from styling element (call ∷ calls) =
    map-append_bytes (map (under (attributes_of styling element)) (stripped_call call)) (shown_from styling (element_after call element) calls)
    ∙ ap₂ (λ a b. a ++ b) (bytes-under (attributes_of styling element) (stripped_call call)) (bytes-shown_from styling (element_after call element) calls)

-- and so its text is the stripped text
pub text-html : (styling : Styling) → (calls : List Call) → map byte_of (read (html styling calls)) ≡ stripped calls
text-html styling calls = ap (map byte_of) (read-html styling calls) ∙ bytes-shown_from styling no_element calls
