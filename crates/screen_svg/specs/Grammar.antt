-- The grammar of a picture, as a reader of XML meets it: which elements there are, which attributes they have, and what
-- stands in them. Nothing else is in it, so no script, no style but those, and no reference but a link.
use Rattle.std.specs.Prelude.{◌≡◌, ℕ, Bool, List, [], ◌∷◌, ◌++◌, codes, decimal, IsTrue}
use Rattle.std.specs.List.{flat_map}
use Rattle.ansi_html.specs.declared.contrast.Rgb.{Rgb}
use Rattle.ansi_html.specs.declared.scheme.Scheme.{Scheme}
use Rattle.ansi_html.specs.Css.{declared}
use Rattle.ansi_html.specs.Grammar.{AreColors, AreDeclarations}
use Rattle.ansi_html.specs.Links.{is_linkable}
use Rattle.screen_svg.specs.Characters.{IsXmlText}
use Rattle.screen_svg.specs.Xml.{Attribute, attribute, Event, start, end}
use Rattle.screen_svg.specs.Shapes.{shape_of}
use Rattle.screen_svg.specs.Picture.{element, class, pair, box, rectangle, rules, window_events}

-- the colour of a ground: one of red, green and blue, or that of the page's text
pub data IsGround : List ℕ → Type 0 where
  selected : (color : Rgb) → IsGround (declared (codes "color:") color)
  inherited : IsGround (codes "color:inherit;")

-- the style of a text: none, or colours and declarations, as in the HTML
pub data IsTextStyle (scheme : Scheme) : List Attribute → Type 0 where
  plain : IsTextStyle scheme []
  styled : (colors others : List ℕ) → AreColors scheme colors → AreDeclarations others
      → IsTextStyle scheme (attribute (codes "style") (colors ++ others) ∷ [])

-- a text: its place and its length are numbers, and it has characters that XML may have
abbrev pub text_at : (x y long : ℕ) → (style : List Attribute) → (text : List ℕ) → List Event
text_at x y long style text =
    element (codes "text")
    ((attribute (codes "x") (decimal x) ∷ attribute (codes "y") (decimal y)
    ∷ attribute (codes "textLength") (decimal long) ∷ []) ++ style) text

-- shapes of characters from a place on: numbers and commands alone
abbrev pub shape_at : (x y : ℕ) → (characters : List ℕ) → (style : List Attribute) → List Event
shape_at x y characters style =
    element (codes "path")
    (attribute (codes "d") (codes "M" ++ (pair x y ++ flat_map shape_of characters)) ∷ style) []

-- a text that is seen; or shapes, and the text that they stand for
pub data IsText (scheme : Scheme) : List Event → Type 0 where
  seen : (x y long : ℕ) (style : List Attribute) (bytes : List ℕ) → IsTextStyle scheme style → IsXmlText bytes
      → IsText scheme (text_at x y long style bytes)
  shaped : (x top y long : ℕ) (characters : List ℕ) (style : List Attribute) (bytes : List ℕ)
      → IsTextStyle scheme style → IsXmlText bytes
      → IsText scheme
      (shape_at x top characters style ++ text_at x y long (style ++ (class (codes "shape") ∷ [])) bytes)

-- grounds, texts, and links of a text each
pub data AreShapes (scheme : Scheme) : List Event → Type 0 where
  no_more : AreShapes scheme []
  filled : (column row columns : ℕ) (color : List ℕ) (rest : List Event) → IsGround color → AreShapes scheme rest
      → AreShapes scheme (rectangle (box column row columns 1 ++ (attribute (codes "style") color ∷ [])) ++ rest)
  text : (it rest : List Event) → IsText scheme it → AreShapes scheme rest → AreShapes scheme (it ++ rest)
  link : (uri : List ℕ) (it rest : List Event) → IsTrue (is_linkable uri) → IsText scheme it → AreShapes scheme rest
      → AreShapes scheme
      (start (codes "a") (attribute (codes "href") uri ∷ []) ∷ (it ++ (end (codes "a") ∷ rest)))

-- a title, or none; and the frame of a cursor, or none
pub data IsTitle : List Event → Type 0 where
  untitled : IsTitle []
  titled : (title : List ℕ) → IsXmlText title → IsTitle (element (codes "title") [] title)

pub data IsCursor : List Event → Type 0 where
  unseen : IsCursor []
  frame : (column row : ℕ) → IsCursor (rectangle (box column row 1 1 ++ (class (codes "cursor") ∷ [])))

-- A picture: one element, in which stand a title, the rules of the scheme, the page, the bar of a window, if there is
-- one, the shapes, and the cursor.
pub record IsPicture (scheme : Scheme) (events : List Event) : Type 0 where
  pub view : List ℕ
  pub font : List ℕ
  pub title : List Event
  pub columns : ℕ
  pub rows : ℕ
  pub width : ℕ
  pub height : ℕ
  pub window : Bool
  pub name : List ℕ
  pub shapes : List Event
  pub cursor : List Event
  pub is_view : IsXmlText view
  pub is_font : IsXmlText font
  pub is_title : IsTitle title
  pub are_shapes : AreShapes scheme shapes
  pub is_cursor : IsCursor cursor
  pub whole : events
      ≡ (start (codes "svg")
      (attribute (codes "xmlns") (codes "http://www.w3.org/2000/svg") ∷ attribute (codes "viewBox") view
      ∷ attribute (codes "width") (decimal width) ∷ attribute (codes "height") (decimal height)
      ∷ attribute (codes "font-family") font ∷ attribute (codes "font-size") (codes "16.61")
      ∷ attribute (codes "xml:space") (codes "preserve") ∷ []) ∷ [])
      ++ (title ++ (rules scheme ++ (rectangle (box 0 0 columns rows ++ (class (codes "page") ∷ []))
      ++ (window_events window name columns ++ (shapes ++ (cursor ++ (end (codes "svg") ∷ [])))))))
