-- The names in a picture are names, so that a reader reads it back.
use Rattle.std.proofs.Common.{◌≡◌, ℕ, Bool, true, false, List, [], ◌∷◌, ◌++◌, codes, decimal, map, refl, sym, subst}
use Rattle.std.specs.List.{AllByRecursion, flat_map}
use Rattle.ansi_html.specs.declared.scheme.Scheme.{Scheme}
use Rattle.ansi_html.specs.Links.{IsLink}
use Rattle.ansi_screen.specs.State.{State}
use Rattle.screen_html.specs.Links.{Table, link_at}
use Rattle.screen_svg.specs.declared.drawing.Drawing.{Drawing}
use Rattle.screen_svg.specs.declared.drawing.Extent.{Extent}
use Rattle.screen_svg.specs.Xml.{Attribute, attribute, Event, byte, end, read}
use Rattle.screen_svg.specs.Shapes.{shape_of}
use Rattle.screen_svg.specs.Picture.{element, pair, box, class, rectangle, rules, circle, dots, bar_attributes, bar, name_place, name, window_events, picture, svg, page_rules, shape_rules}
use Rattle.screen_svg.specs.Characters.{text_of}
use Rattle.screen_svg.specs.Grammar.{IsTextStyle, plain, styled, text_at, shape_at, IsText, seen, shaped, AreShapes, no_more, filled, text, link, IsTitle, untitled, titled, IsCursor, unseen, frame, IsPicture}
use Rattle.screen_svg.proofs.XmlLemmas.{is_name_byte, IsName, HaveNames, IsNamed, read-xml}
use Rattle.screen_svg.proofs.GrammarLemmas.{IsPicture-of}

abbrev pub AreNamed : List Event → Type 0
AreNamed events = AllByRecursion IsNamed events

AreNamed-append : (one more : List Event) → AreNamed one → AreNamed more → AreNamed (one ++ more)
AreNamed-append [] more first second = second
AreNamed-append (it ∷ one) more first second = (first.0, AreNamed-append one more first.1 second)

HaveNames-append : (one more : List Attribute) → HaveNames one → HaveNames more → HaveNames (one ++ more)
HaveNames-append [] more first second = second
HaveNames-append (it ∷ one) more first second = (first.0, HaveNames-append one more first.1 second)

AreNamed-bytes : (bytes : List ℕ) → AreNamed (map byte bytes)
AreNamed-bytes [] = tt
AreNamed-bytes (b ∷ bytes) = (tt, AreNamed-bytes bytes)

AreNamed-element : (name : List ℕ) (attributes : List Attribute) (bytes : List ℕ) → IsName name → HaveNames attributes → AreNamed (element name attributes bytes)
AreNamed-element name attributes bytes is have = ((is, have), AreNamed-append (map byte bytes) (end name ∷ []) (AreNamed-bytes bytes) (is, tt))

-- the names of a rectangle's attributes, with one more
HaveNames-box : (column row columns rows : ℕ) (last : Attribute) → IsName last.name → HaveNames (box column row columns rows ++ (last ∷ []))
unfolding is_name_byte
HaveNames-box column row columns rows last is = (refl, (refl, (refl, (refl, (is, tt)))))

AreNamed-rectangle : (column row columns rows : ℕ) (last : Attribute) → IsName last.name → AreNamed (rectangle (box column row columns rows ++ (last ∷ [])))
unfolding is_name_byte
AreNamed-rectangle column row columns rows last is =
    AreNamed-element (codes "rect") (box column row columns rows ++ (last ∷ [])) [] refl (HaveNames-box column row columns rows last is)

HaveNames-style : (scheme : Scheme) {style : List Attribute} → IsTextStyle scheme style → HaveNames style
unfolding is_name_byte
HaveNames-style scheme plain = tt
HaveNames-style scheme (styled colors others are more) = (refl, tt)

module _ (scheme : Scheme) where
  AreNamed-text : (x y long : ℕ) (style : List Attribute) (bytes : List ℕ) → HaveNames style → AreNamed (text_at x y long style bytes)
  unfolding is_name_byte
  AreNamed-text x y long style bytes have =
      AreNamed-element (codes "text")
      ((attribute (codes "x") (decimal x) ∷ attribute (codes "y") (decimal y) ∷ attribute (codes "textLength") (decimal long) ∷ []) ++ style) bytes
      refl (refl, (refl, (refl, have)))

  AreNamed-run : {events : List Event} → IsText scheme events → AreNamed events
  unfolding is_name_byte
  AreNamed-run (seen x y long style bytes is has) = AreNamed-text x y long style bytes (HaveNames-style scheme is)
  AreNamed-run (shaped x top y long characters style bytes is has) =
      AreNamed-append (shape_at x top characters style) (text_at x y long (style ++ (class (codes "shape") ∷ [])) bytes)
      (AreNamed-element (codes "path") (attribute (codes "d") (codes "M" ++ (pair x top ++ flat_map shape_of characters)) ∷ style) []
      refl (refl, HaveNames-style scheme is))
      (AreNamed-text x y long (style ++ (class (codes "shape") ∷ [])) bytes
      (HaveNames-append style (class (codes "shape") ∷ []) (HaveNames-style scheme is) (refl, tt)))

  AreNamed-shapes : {events : List Event} → AreShapes scheme events → AreNamed events
  unfolding is_name_byte
  AreNamed-shapes no_more = tt
  AreNamed-shapes (filled column row columns color rest is are) =
      AreNamed-append (rectangle (box column row columns 1 ++ (attribute (codes "style") color ∷ []))) rest
      (AreNamed-rectangle column row columns 1 (attribute (codes "style") color) refl) (AreNamed-shapes are)
  AreNamed-shapes (text it rest is are) = AreNamed-append it rest (AreNamed-run is) (AreNamed-shapes are)
  AreNamed-shapes (link uri it rest may is are) = (
    (refl, (refl, tt)),
    AreNamed-append it (end (codes "a") ∷ rest) (AreNamed-run is) (refl, AreNamed-shapes are),
  )

  AreNamed-rules : AreNamed (rules scheme)
  unfolding is_name_byte
  AreNamed-rules = AreNamed-element (codes "style") [] (page_rules scheme ++ shape_rules) refl tt

AreNamed-title : {events : List Event} → IsTitle events → AreNamed events
unfolding is_name_byte
AreNamed-title untitled = tt
AreNamed-title (titled title has) = AreNamed-element (codes "title") [] title refl tt

AreNamed-cursor : {events : List Event} → IsCursor events → AreNamed events
unfolding is_name_byte
AreNamed-cursor unseen = tt
AreNamed-cursor (frame column row) = AreNamed-rectangle column row 1 1 (class (codes "cursor")) refl

AreNamed-circle : (x : List ℕ) → AreNamed (circle x)
unfolding is_name_byte
AreNamed-circle x =
    AreNamed-element (codes "circle") (attribute (codes "cx") x ∷ attribute (codes "cy") (codes "-15") ∷ attribute (codes "r") (codes "6") ∷ []) []
    refl (refl, (refl, (refl, tt)))

AreNamed-bar : (width : ℕ) → AreNamed (bar width)
unfolding is_name_byte
AreNamed-bar width =
    AreNamed-element (codes "rect") (bar_attributes width) [] refl (refl, (refl, (refl, (refl, (refl, tt)))))

AreNamed-window : (wanted : Bool) (title : List ℕ) (width : ℕ) → AreNamed (window_events wanted title width)
unfolding is_name_byte
AreNamed-window false title width = tt
AreNamed-window true title width =
    AreNamed-append (bar width) (dots ++ name title width) (AreNamed-bar width)
    (AreNamed-append dots (name title width)
    (AreNamed-append (circle (codes "20")) (circle (codes "40") ++ circle (codes "60")) (AreNamed-circle (codes "20"))
    (AreNamed-append (circle (codes "40")) (circle (codes "60")) (AreNamed-circle (codes "40")) (AreNamed-circle (codes "60"))))
    (AreNamed-element (codes "text") (name_place width) (text_of title) refl (refl, (refl, (refl, tt)))))

AreNamed-picture : (scheme : Scheme) (events : List Event) → IsPicture scheme events → AreNamed events
unfolding is_name_byte
AreNamed-picture scheme events is =
    let last = end (codes "svg") ∷ [] in
    let shown = is.shapes ++ (is.cursor ++ last) in
    let window = window_events is.window is.name is.columns in
    let page_box = rectangle (box 0 0 is.columns is.rows ++ (class (codes "page") ∷ [])) in
    subst AreNamed (sym is.whole) (
      (refl, (refl, (refl, (refl, (refl, (refl, (refl, (refl, tt)))))))),
      AreNamed-append is.title (rules scheme ++ (page_box ++ (window ++ shown))) (AreNamed-title is.is_title)
          (AreNamed-append (rules scheme) (page_box ++ (window ++ shown)) (AreNamed-rules scheme)
          (AreNamed-append page_box (window ++ shown) (AreNamed-rectangle 0 0 is.columns is.rows (class (codes "page")) refl)
          (AreNamed-append window shown (AreNamed-window is.window is.name is.columns)
          (AreNamed-append is.shapes (is.cursor ++ last) (AreNamed-shapes scheme is.are_shapes)
          (AreNamed-append is.cursor last (AreNamed-cursor is.is_cursor) (refl, tt)))))),
    )

pub read-svg : (drawing : Drawing) (title font : List ℕ) (links : Table) (extent : Extent) (s : State) → ((number : ℕ) → IsLink (link_at number links.places))
    → read (svg drawing title font links extent s) ≡ picture drawing title font links extent s
read-svg drawing title font links extent s are_links =
    read-xml (picture drawing title font links extent s)
    (AreNamed-picture drawing.scheme (picture drawing title font links extent s) (IsPicture-of drawing title font links extent s are_links))
