-- The grammar of the HTML. A fragment is text, spans, and links of text and spans; no span stands in a span, and no
-- link in a link. A span has one attribute, either of colours and declarations or of class names, both from a fixed
-- vocabulary, and a link has a URI and says that its colour is its text's; in a text there are line breaks. Nothing
-- else is in it.
use Rattle.std.specs.Prelude.{◌≡◌, ℕ, Bool, false, ◌||◌, ◌&&◌, nat_le, ◌==◌, not, List, [], ◌∷◌, ◌++◌, codes, IsTrue}
use Rattle.std.specs.List.{AllByRecursion, Contains, list_all}
use Rattle.ansi_html.specs.declared.contrast.Rgb.{Rgb}
use Rattle.ansi_html.specs.declared.scheme.Scheme.{Scheme}
use Rattle.ansi_html.specs.declared.scheme.Styling.{Styling}
use Rattle.ansi_html.specs.declared.scheme.Styling.TheVariants.{Inline, Classes}
use Rattle.ansi_html.specs.declared.class.Class.{Class}
use Rattle.ansi_html.specs.declared.class.Class.TheVariants.{Link}
use Rattle.ansi_html.specs.Contrast.{IsReadOnLight, IsReadOnDark, are_readable, black, white}
use Rattle.ansi_html.specs.Css.{declared, themed}
use Rattle.ansi_html.specs.Classes.{class_name, class_names}
use Rattle.ansi_html.specs.Stylesheet.{vocabulary}
use Rattle.ansi_html.specs.Html.{attribute_text}
use Rattle.ansi_html.specs.Links.{has_scheme, is_visible}

-- A byte with a meaning in HTML, as 0D has one too.
unfoldable pub is_special : ℕ → Bool
is_special b = b == 0x26 || (b == 0x3C || (b == 0x3E || (b == 0x22 || (b == 0x27 || b == 0x0D))))

-- bytes with no meaning in HTML; such bytes stand first, and these are left
abbrev pub AreClear : List ℕ → Type 0
AreClear bytes = AllByRecursion (λ b. is_special b ≡ false) bytes

abbrev pub BeginWithClear : List ℕ → (left : List ℕ) → Type 0
BeginWithClear bytes left = (clear : List ℕ) × AreClear clear × (bytes ≡ clear ++ left)

-- A byte of text: 20 and above, 09 or 0A; and none with a meaning in HTML.
unfoldable pub is_text_byte : ℕ → Bool
is_text_byte b = (nat_le 0x20 b || (b == 0x09 || b == 0x0A)) && not (is_special b)

-- one of the six references
pub data IsReference : List ℕ → Type 0 where
  ampersand : IsReference (codes "&amp;")
  less_than : IsReference (codes "&lt;")
  greater_than : IsReference (codes "&gt;")
  quotation_mark : IsReference (codes "&quot;")
  apostrophe : IsReference (codes "&#39;")
  carriage_return : IsReference (codes "&#13;")

-- bytes of text, references and line breaks
pub data IsText : List ℕ → Type 0 where
  nothing : IsText []
  byte : {b : ℕ} {rest : List ℕ} → IsTrue (is_text_byte b) → IsText rest → IsText (b ∷ rest)
  reference : (name rest : List ℕ) → IsReference name → IsText rest → IsText (name ++ rest)
  line_break : (rest : List ℕ) → IsText rest → IsText (codes "<br>" ++ rest)

-- The colours of a span, as a text that is read: nothing; a text on the page; one on a ground of the
-- page's own text, black on light pages and white on dark ones; a text on a ground.
pub data AreReadable (scheme : Scheme) : List ℕ → Type 0 where
  of_page : AreReadable scheme []
  on_page : (light dark : Rgb) → IsReadOnLight light → IsReadOnDark dark
      → AreReadable scheme (themed scheme (codes "color:") light dark)
  on_reversed : (light dark : Rgb) → IsReadOnLight light → IsReadOnDark dark
      → AreReadable scheme
      (themed scheme (codes "color:") dark light ++ themed scheme (codes "background-color:") black white)
  on_color : (text behind : Rgb) → IsTrue (are_readable text behind)
      → AreReadable scheme (declared (codes "color:") text ++ declared (codes "background-color:") behind)

-- the same, or the two colours that a stream has selected
pub data AreColors (scheme : Scheme) : List ℕ → Type 0 where
  readable : (colors : List ℕ) → AreReadable scheme colors → AreColors scheme colors
  chosen : (text behind : Rgb)
      → AreColors scheme (declared (codes "color:") text ++ declared (codes "background-color:") behind)

-- lines, by their names
pub data AreLines : List ℕ → Type 0 where
  no_line : AreLines []
  underline : (rest : List ℕ) → AreLines rest → AreLines (codes " underline" ++ rest)
  overline : (rest : List ℕ) → AreLines rest → AreLines (codes " overline" ++ rest)
  line_through : (rest : List ℕ) → AreLines rest → AreLines (codes " line-through" ++ rest)
  blink : (rest : List ℕ) → AreLines rest → AreLines (codes " blink" ++ rest)

pub data IsDeclaration : List ℕ → Type 0 where
  bold : IsDeclaration (codes "font-weight:bold;")
  italic : IsDeclaration (codes "font-style:italic;")
  hidden : IsDeclaration (codes "visibility:hidden;")
  lines : (names : List ℕ) → AreLines names → IsDeclaration (codes "text-decoration-line:" ++ (names ++ codes ";"))
  double : IsDeclaration (codes "text-decoration-style:double;")
  wavy : IsDeclaration (codes "text-decoration-style:wavy;")
  dotted : IsDeclaration (codes "text-decoration-style:dotted;")
  dashed : IsDeclaration (codes "text-decoration-style:dashed;")

pub data AreDeclarations : List ℕ → Type 0 where
  no_declaration : AreDeclarations []
  declaration : (first rest : List ℕ) → IsDeclaration first → AreDeclarations rest → AreDeclarations (first ++ rest)

-- What a link's href is: it begins with one of the schemes, and is visible ASCII without quotes and
-- brackets.
unfoldable pub is_href_byte : ℕ → Bool
is_href_byte b = is_visible b && not (b == 0x22 || (b == 0x27 || (b == 0x3C || b == 0x3E)))

pub record IsHref (href : List ℕ) : Type 0 where
  pub scheme : IsTrue (has_scheme href)
  pub bytes : IsTrue (list_all is_href_byte href)

-- What the attribute of a span says: colours and declarations, or names of classes that have a rule in the
-- stylesheet.
pub data IsSpanValue : Styling → List ℕ → Type 0 where
  declarations : (scheme : Scheme) (colors others : List ℕ) → AreColors scheme colors → AreDeclarations others
      → IsSpanValue (Inline scheme) (colors ++ others)
  classes : (names : List Class) → AllByRecursion (Contains vocabulary) names → IsSpanValue Classes (class_names names)

-- That of a link: its text has the colour of what is around it, or of its span.
abbrev pub link_value : Styling → List ℕ
link_value (Inline scheme) = codes "color:inherit;"
link_value Classes = class_name Link

-- text, and spans of text with an attribute
pub data IsStyled (styling : Styling) : List ℕ → Type 0 where
  nothing_more : IsStyled styling []
  plain : (text rest : List ℕ) → IsText text → IsStyled styling rest → IsStyled styling (text ++ rest)
  span : (value text rest : List ℕ) → IsSpanValue styling value → IsText text → IsStyled styling rest
      → IsStyled styling (codes "<span" ++ (attribute_text styling value ++ (text ++ (codes "</span>" ++ rest))))

-- these, and links of these
pub data IsFragment (styling : Styling) : List ℕ → Type 0 where
  end : IsFragment styling []
  styled : (styled rest : List ℕ) → IsStyled styling styled → IsFragment styling rest
      → IsFragment styling (styled ++ rest)
  link : (href linked rest : List ℕ) → IsHref href → IsStyled styling linked → IsFragment styling rest
      → IsFragment styling (codes "<a rel=\"nofollow noreferrer\" href=\"" ++ (href ++ (codes "\""
      ++ (attribute_text styling (link_value styling) ++ (linked ++ (codes "</a>" ++ rest))))))
