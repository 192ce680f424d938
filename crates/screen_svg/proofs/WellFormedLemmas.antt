-- All of a picture has characters that XML may have, in UTF-8.
use Rattle.std.proofs.Common.{◌≡◌, ℕ, ◌*◌, Bool, true, false, List, [], ◌∷◌, ◌++◌, codes, decimal, map, refl, sym, subst, arith}
use Rattle.std.specs.Prelude.{nat_le}
use Rattle.std.specs.List.{flat_map, list_all, AllByRecursion}
use Rattle.std.proofs.lemmas.Bool.{and_parts, leb-true}
use Rattle.std.proofs.lemmas.Grind.{flat_map-append}
use Rattle.ansi_html.specs.declared.scheme.Scheme.{Scheme}
use Rattle.ansi_html.specs.declared.scheme.Scheme.TheVariants.{Light, Dark, Both}
use Rattle.ansi_html.specs.Html.{escaped_text}
use Rattle.ansi_html.specs.Links.{is_visible, has_scheme, is_linkable}
use Rattle.ansi_html.proofs.DeclarationLemmas.{is_safe, AreSafe, AreSafe-append, AreSafe-selected, AreSafe-style}
use Rattle.ansi_html.proofs.LineTagLemmas.{AreSafe-decimal}
use Rattle.screen_svg.specs.Characters.{IsXmlText, text_of}
use Rattle.screen_svg.specs.Xml.{Attribute, attribute, Event, start, byte, end, attribute_xml, event_xml, xml}
use Rattle.screen_svg.specs.Shapes.{shape_of}
use Rattle.screen_svg.specs.Picture.{element, pair, box, class, rectangle, rules, circle, dots, bar_attributes, bar, name_place, name, window_events, page_rules, shape_rules}
use Rattle.screen_svg.specs.Grammar.{IsGround, selected, inherited, IsTextStyle, plain, styled, text_at, shape_at, IsText, seen, shaped, AreShapes, no_more, filled, text, link, IsTitle, untitled, titled, IsCursor, unseen, frame, IsPicture}
use Rattle.screen_svg.proofs.AddsLemmas.{xml-bytes}
use Rattle.screen_svg.proofs.SafeLemmas.{AreSafe-pair}
use Rattle.screen_svg.proofs.ShapeLemmas.{AreSafe-shape}
use Rattle.screen_svg.proofs.CharacterLemmas.{is_printed, IsXmlText-nil, IsXmlText-append, IsXmlText-byte, IsXmlText-ascii, IsXmlText-safe, IsXmlText-escaped, IsXmlText-text}

abbrev IsXml : List Event → Type 0
IsXml events = IsXmlText (xml events)

IsXml-append : (one more : List Event) → IsXml one → IsXml more → IsXml (one ++ more)
IsXml-append one more first second = subst IsXmlText (sym (flat_map-append event_xml one more)) (IsXmlText-append (xml one) (xml more) first second)

-- attributes
abbrev AreXml : List Attribute → Type 0
AreXml attributes = AllByRecursion (λ (it : Attribute). AreSafe it.name × IsXmlText it.value) attributes

AreXml-append : (one more : List Attribute) → AreXml one → AreXml more → AreXml (one ++ more)
AreXml-append [] more first second = second
AreXml-append (it ∷ one) more first second = (first.0, AreXml-append one more first.1 second)

IsXmlText-attribute : (it : Attribute) → AreSafe it.name → IsXmlText it.value → IsXmlText (attribute_xml it)
IsXmlText-attribute it safe is =
    let quoted = escaped_text it.value ++ codes "\"" in
    IsXmlText-append (codes " ") (it.name ++ (codes "=\"" ++ quoted)) (IsXmlText-ascii (codes " ") refl)
    (IsXmlText-append it.name (codes "=\"" ++ quoted) (IsXmlText-safe it.name safe)
    (IsXmlText-append (codes "=\"") quoted (IsXmlText-ascii (codes "=\"") refl)
    (IsXmlText-append (escaped_text it.value) (codes "\"") (IsXmlText-escaped it.value is) (IsXmlText-ascii (codes "\"") refl))))

IsXmlText-attributes : (attributes : List Attribute) → AreXml attributes → IsXmlText (flat_map attribute_xml attributes)
IsXmlText-attributes [] are = IsXmlText-nil
IsXmlText-attributes (it ∷ attributes) are =
    IsXmlText-append (attribute_xml it) (flat_map attribute_xml attributes) (IsXmlText-attribute it are.0.0 are.0.1) (IsXmlText-attributes attributes are.1)

IsXml-start : (name : List ℕ) (attributes : List Attribute) → AreSafe name → AreXml attributes → IsXml (start name attributes ∷ [])
IsXml-start name attributes safe are =
    let values = flat_map attribute_xml attributes in
    IsXmlText-append (event_xml (start name attributes)) []
    (IsXmlText-append (codes "<") (name ++ (values ++ codes ">")) (IsXmlText-ascii (codes "<") refl)
    (IsXmlText-append name (values ++ codes ">") (IsXmlText-safe name safe)
    (IsXmlText-append values (codes ">") (IsXmlText-attributes attributes are) (IsXmlText-ascii (codes ">") refl)))) IsXmlText-nil

IsXml-end : (name : List ℕ) → AreSafe name → IsXml (end name ∷ [])
IsXml-end name safe =
    IsXmlText-append (event_xml (end name)) []
    (IsXmlText-append (codes "</") (name ++ codes ">") (IsXmlText-ascii (codes "</") refl)
    (IsXmlText-append name (codes ">") (IsXmlText-safe name safe) (IsXmlText-ascii (codes ">") refl))) IsXmlText-nil

IsXml-element : (name : List ℕ) (attributes : List Attribute) (bytes : List ℕ) → AreSafe name → AreXml attributes → IsXmlText bytes → IsXml (element name attributes bytes)
IsXml-element name attributes bytes safe are is =
    IsXml-append (start name attributes ∷ []) (map byte bytes ++ (end name ∷ [])) (IsXml-start name attributes safe are)
    (IsXml-append (map byte bytes) (end name ∷ []) (subst IsXmlText (sym (xml-bytes bytes)) (IsXmlText-escaped bytes is)) (IsXml-end name safe))

number : (n : ℕ) → IsXmlText (decimal n)
number n = IsXmlText-safe (decimal n) (AreSafe-decimal n)

word : (bytes : List ℕ) → AreSafe bytes → IsXmlText bytes
word = IsXmlText-safe

ground-safe : {color : List ℕ} → IsGround color → AreSafe color
unfolding is_safe
ground-safe (selected color) = AreSafe-selected color
ground-safe inherited = refl

AreXml-box : (column row columns rows : ℕ) → AreXml (box column row columns rows)
unfolding is_safe
AreXml-box column row columns rows = ((refl, number (10 * column)), ((refl, number (20 * row)), ((refl, number (10 * columns)), ((refl, number (20 * rows)), tt))))

IsXml-rectangle : (column row columns rows : ℕ) (last : Attribute) → AreSafe last.name → IsXmlText last.value
    → IsXml (rectangle (box column row columns rows ++ (last ∷ [])))
unfolding is_safe
IsXml-rectangle column row columns rows last safe is =
    IsXml-element (codes "rect") (box column row columns rows ++ (last ∷ [])) []
    refl (AreXml-append (box column row columns rows) (last ∷ []) (AreXml-box column row columns rows) ((safe, is), tt)) IsXmlText-nil

-- a URI
linkable-xml : (uri : List ℕ) → is_linkable uri ≡ true → IsXmlText uri
unfolding is_linkable
linkable-xml uri is = visible uri (and_parts (has_scheme uri) (list_all is_visible uri) is).1
  where
    visible : (bytes : List ℕ) → list_all is_visible bytes ≡ true → IsXmlText bytes
    visible [] are = IsXmlText-nil
    visible (b ∷ bytes) are =
        let parts = and_parts (is_visible b) (list_all is_visible bytes) are in
        let range = and_parts (nat_le 0x21 b) (nat_le b 0x7E) parts.0 in
        let low = leb-true 0x21 b range.0 in
        let high = leb-true b 0x7E range.1 in
        IsXmlText-append (b ∷ []) bytes (IsXmlText-byte b (omega (arith, low)) (omega (arith, high))) (visible bytes parts.1)

module _ (scheme : Scheme) where
  AreXml-style : {style : List Attribute} → IsTextStyle scheme style → AreXml style
  unfolding is_safe
  AreXml-style plain = tt
  AreXml-style (styled colors others are more) = ((refl, word (colors ++ others) (AreSafe-style scheme are more)), tt)

  IsXml-text : (x y long : ℕ) (style : List Attribute) (bytes : List ℕ) → AreXml style → IsXmlText bytes → IsXml (text_at x y long style bytes)
  unfolding is_safe
  IsXml-text x y long style bytes are has =
      IsXml-element (codes "text")
      ((attribute (codes "x") (decimal x) ∷ attribute (codes "y") (decimal y) ∷ attribute (codes "textLength") (decimal long) ∷ []) ++ style) bytes
      refl ((refl, number x), ((refl, number y), ((refl, number long), are))) has

  AreSafe-characters : (characters : List ℕ) → AreSafe (flat_map shape_of characters)
  AreSafe-characters [] = refl
  AreSafe-characters (c ∷ characters) = AreSafe-append (shape_of c) (flat_map shape_of characters) (AreSafe-shape c) (AreSafe-characters characters)

  IsXml-shape : (x y : ℕ) (characters : List ℕ) (style : List Attribute) → AreXml style → IsXml (shape_at x y characters style)
  unfolding is_safe
  IsXml-shape x y characters style are =
      let shapes = flat_map shape_of characters in
      let place = codes "M" ++ (pair x y ++ shapes) in
      let safe : AreSafe place =
      AreSafe-append (codes "M") (pair x y ++ shapes) refl (AreSafe-append (pair x y) shapes (AreSafe-pair x y) (AreSafe-characters characters)) in
      IsXml-element (codes "path") (attribute (codes "d") place ∷ style) [] refl ((refl, word place safe), are) IsXmlText-nil

  IsXml-run : {events : List Event} → IsText scheme events → IsXml events
  unfolding is_safe
  IsXml-run (seen x y long style bytes is has) = IsXml-text x y long style bytes (AreXml-style is) has
  IsXml-run (shaped x top y long characters style bytes is has) =
      let named = style ++ (class (codes "shape") ∷ []) in
      IsXml-append (shape_at x top characters style) (text_at x y long named bytes) (IsXml-shape x top characters style (AreXml-style is))
      (IsXml-text x y long named bytes
      (AreXml-append style (class (codes "shape") ∷ []) (AreXml-style is) ((refl, word (codes "shape") refl), tt)) has)

  IsXml-shapes : {events : List Event} → AreShapes scheme events → IsXml events
  unfolding is_safe
  IsXml-shapes no_more = IsXmlText-nil
  IsXml-shapes (filled column row columns color rest is are) =
      IsXml-append (rectangle (box column row columns 1 ++ (attribute (codes "style") color ∷ []))) rest
      (IsXml-rectangle column row columns 1 (attribute (codes "style") color) refl (word color (ground-safe is))) (IsXml-shapes are)
  IsXml-shapes (text it rest is are) = IsXml-append it rest (IsXml-run is) (IsXml-shapes are)
  IsXml-shapes (link uri it rest may is are) =
      let href = attribute (codes "href") uri ∷ [] in
      IsXml-append (start (codes "a") href ∷ []) (it ++ (end (codes "a") ∷ rest))
      (IsXml-start (codes "a") href refl ((refl, linkable-xml uri may), tt))
      (IsXml-append it (end (codes "a") ∷ rest) (IsXml-run is)
      (IsXml-append (end (codes "a") ∷ []) rest (IsXml-end (codes "a") refl) (IsXml-shapes are)))

rules-xml : (scheme : Scheme) → list_all is_printed (page_rules scheme ++ shape_rules) ≡ true
rules-xml Light = refl
rules-xml Dark = refl
rules-xml Both = refl

IsXml-rules : (scheme : Scheme) → IsXml (rules scheme)
unfolding is_safe
IsXml-rules scheme = IsXml-element (codes "style") [] (page_rules scheme ++ shape_rules) refl tt (IsXmlText-ascii (page_rules scheme ++ shape_rules) (rules-xml scheme))

IsXml-title : {events : List Event} → IsTitle events → IsXml events
unfolding is_safe
IsXml-title untitled = IsXmlText-nil
IsXml-title (titled title has) = IsXml-element (codes "title") [] title refl tt has

IsXml-cursor : {events : List Event} → IsCursor events → IsXml events
unfolding is_safe
IsXml-cursor unseen = IsXmlText-nil
IsXml-cursor (frame column row) = IsXml-rectangle column row 1 1 (class (codes "cursor")) refl (word (codes "cursor") refl)

IsXml-circle : (x : List ℕ) → AreSafe x → IsXml (circle x)
unfolding is_safe
IsXml-circle x safe =
    IsXml-element (codes "circle") (attribute (codes "cx") x ∷ attribute (codes "cy") (codes "-15") ∷ attribute (codes "r") (codes "6") ∷ []) []
    refl ((refl, word x safe), ((refl, word (codes "-15") refl), ((refl, word (codes "6") refl), tt))) IsXmlText-nil

IsXml-bar : (width : ℕ) → IsXml (bar width)
unfolding is_safe
IsXml-bar width =
    IsXml-element (codes "rect") (bar_attributes width) []
    refl ((refl, word (codes "0") refl), ((refl, word (codes "-30") refl), ((refl, number (10 * width)), ((refl, word (codes "30") refl), ((refl, word (codes "bar") refl), tt))))) IsXmlText-nil

IsXml-window : (wanted : Bool) (title : List ℕ) (width : ℕ) → IsXml (window_events wanted title width)
unfolding is_safe
IsXml-window false title width = IsXmlText-nil
IsXml-window true title width =
    IsXml-append (bar width) (dots ++ name title width) (IsXml-bar width)
    (IsXml-append dots (name title width)
    (IsXml-append (circle (codes "20")) (circle (codes "40") ++ circle (codes "60")) (IsXml-circle (codes "20") refl)
    (IsXml-append (circle (codes "40")) (circle (codes "60")) (IsXml-circle (codes "40") refl) (IsXml-circle (codes "60") refl)))
    (IsXml-element (codes "text") (name_place width) (text_of title)
    refl ((refl, number (5 * width)), ((refl, word (codes "-10") refl), ((refl, word (codes "name") refl), tt))) (IsXmlText-text title)))

pub IsXml-picture : (scheme : Scheme) (events : List Event) → IsPicture scheme events → IsXmlText (xml events)
unfolding is_safe
IsXml-picture scheme events is =
    let last = end (codes "svg") ∷ [] in
    let shown = is.shapes ++ (is.cursor ++ last) in
    let window = window_events is.window is.name is.columns in
    let page_box = rectangle (box 0 0 is.columns is.rows ++ (class (codes "page") ∷ [])) in
    let attributes =
    attribute (codes "xmlns") (codes "http://www.w3.org/2000/svg") ∷ attribute (codes "viewBox") is.view
    ∷ attribute (codes "width") (decimal is.width) ∷ attribute (codes "height") (decimal is.height) ∷ attribute (codes "font-family") is.font
    ∷ attribute (codes "font-size") (codes "16.61") ∷ attribute (codes "xml:space") (codes "preserve") ∷ [] in
    subst IsXml (sym is.whole)
    (IsXml-append (start (codes "svg") attributes ∷ []) (is.title ++ (rules scheme ++ (page_box ++ (window ++ shown))))
    (IsXml-start (codes "svg") attributes
    refl ((refl, IsXmlText-ascii (codes "http://www.w3.org/2000/svg") refl), ((refl, is.is_view), ((refl, number is.width), ((refl, number is.height), ((refl, is.is_font), ((refl, word (codes "16.61") refl), ((refl, word (codes "preserve") refl), tt))))))))
    (IsXml-append is.title (rules scheme ++ (page_box ++ (window ++ shown))) (IsXml-title is.is_title)
    (IsXml-append (rules scheme) (page_box ++ (window ++ shown)) (IsXml-rules scheme)
    (IsXml-append page_box (window ++ shown) (IsXml-rectangle 0 0 is.columns is.rows (class (codes "page")) refl (word (codes "page") refl))
    (IsXml-append window shown (IsXml-window is.window is.name is.columns)
    (IsXml-append is.shapes (is.cursor ++ last) (IsXml-shapes scheme is.are_shapes)
    (IsXml-append is.cursor last (IsXml-cursor is.is_cursor) (IsXml-end (codes "svg") refl))))))))
