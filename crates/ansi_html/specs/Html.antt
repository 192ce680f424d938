-- The HTML of a list of calls: their text, escaped, in spans that give it its style, and these in links.
use Rattle.std.specs.Prelude.{ℕ, Bool, true, false, ◌&&◌, not, ◌==◌, List, [], ◌∷◌, ◌++◌, codes, if◌then◌else◌}
use Rattle.std.specs.List.{flat_map}
use Rattle.std.specs.Str.{bytes_eq}
use Rattle.anstyle_parse.specs.Stream.Call.{Call, execute}
use Rattle.ansi_strip.specs.Strip.{stripped_call}
use Rattle.ansi_style.specs.declared.style.Style.{Style}
use Rattle.ansi_style.specs.Style.{plain, are_equal}
use Rattle.ansi_style.specs.Rendition.{style_after}
use Rattle.ansi_html.specs.declared.scheme.Styling.{Styling}
use Rattle.ansi_html.specs.declared.scheme.Styling.TheVariants.{Inline, Classes}
use Rattle.ansi_html.specs.Css.{text_if, css}
use Rattle.ansi_html.specs.Classes.{class_names, classes_of}
use Rattle.ansi_html.specs.Links.{is_none, link_after}

-- The bytes that have a meaning in HTML (13.1.2.3 and 13.1.4 of the HTML standard), as
-- character references; and 0D, which a reader would make 0A of (13.2.3.5).
abbrev pub escaped : ℕ → List ℕ
escaped b =
    if b == 0x26 then codes "&amp;"
    else if b == 0x3C then codes "&lt;"
    else if b == 0x3E then codes "&gt;"
    else if b == 0x22 then codes "&quot;"
    else if b == 0x27 then codes "&#39;"
    else if b == 0x0D then codes "&#13;"
    else b ∷ []

abbrev pub escaped_text : List ℕ → List ℕ
escaped_text bytes = flat_map escaped bytes

abbrev pub is_plain : Style → Bool
is_plain style = are_equal style plain

-- How a style is said: by its declarations in the attribute `style`, or by its classes in `class`.
abbrev pub attribute_name : Styling → List ℕ
attribute_name (Inline scheme) = codes "style"
attribute_name Classes = codes "class"

-- What that says of a style and a link. A link whose style has no colour has that of the text around it,
-- since a browser's own for links is not read on each page (CSS Cascade, 7.2; where the style has a colour,
-- that one counts, which stands later).
abbrev pub value_of : Styling → (linked : Bool) → Style → List ℕ
value_of (Inline scheme) linked style = text_if linked (codes "color:inherit;") ++ css scheme style
value_of Classes linked style = class_names (classes_of linked style)

-- an attribute of this value, and the end of its tag
abbrev pub attribute_text : Styling → (value : List ℕ) → List ℕ
attribute_text styling value = codes " " ++ (attribute_name styling ++ (codes "=\"" ++ (value ++ codes "\">")))

-- what begins a span of a style, and what ends it; plain text stands in none
abbrev pub span_begin : Styling → Style → List ℕ
span_begin styling style =
    if is_plain style then [] else codes "<span" ++ attribute_text styling (value_of styling false style)

abbrev pub span_end : Style → List ℕ
span_end style = if is_plain style then [] else codes "</span>"

-- What text stands in: a span of its style in an element of its link, each where it has one.
pub record Element : Type 0 where
  pub style : Style
  pub link : List ℕ

abbrev pub element : Style → (link : List ℕ) → Element
element style link = record { style = style; link = link }

abbrev pub no_element : Element
no_element = element plain []

abbrev pub are_same : Element → Element → Bool
are_same one other = are_equal one.style other.style && bytes_eq one.link other.link

-- What is said of it: by its link, and then by its span.
abbrev pub element_value : Styling → Element → List ℕ
element_value styling element =
    if is_none element.link then value_of styling false element.style else value_of styling true element.style

-- The beginning of a link, which asks that no page be told where it is (HTML standard, 4.6.7), and its end. It says
-- what a link does of plain text: spans of other styles stand in it.
abbrev pub link_begin : Styling → (link : List ℕ) → List ℕ
link_begin styling link =
    if is_none link then []
    else codes "<a rel=\"nofollow noreferrer\" href=\""
    ++ (escaped_text link ++ (codes "\"" ++ attribute_text styling (value_of styling true plain)))

abbrev pub link_end : (link : List ℕ) → List ℕ
link_end link = if is_none link then [] else codes "</a>"

abbrev pub element_begin : Styling → Element → List ℕ
element_begin styling element = link_begin styling element.link ++ span_begin styling element.style

abbrev pub element_end : Element → List ℕ
element_end element = span_end element.style ++ link_end element.link

-- From the element of the text so far to that of the text to come. A link that goes on stays open.
abbrev pub change : Styling → Element → Element → List ℕ
change styling shown next =
    if are_same shown next then []
    else if bytes_eq shown.link next.link then span_end shown.style ++ span_begin styling next.style
    else element_end shown ++ element_begin styling next

-- Where the HTML of a stream stands: the element of the last text, and the one that is selected for
-- what comes; and whether the last text was 0D.
pub record Standing : Type 0 where
  pub shown : Element
  pub selected : Element
  pub returned : Bool

abbrev pub at_start : Standing
at_start = record { shown = no_element; selected = no_element; returned = false }

-- A 0D that comes by a reference ends no line. So where the last text was 0D, a line break stands
-- before the next, unless that is 0A.
abbrev pub line_break : (returned is_line_feed : Bool) → List ℕ
line_break returned is_line_feed = if returned && not is_line_feed then codes "<br>" else []

-- what begins a text in the element that is selected, and the text; where there is none, nothing
abbrev pub beginning : Styling → Standing → (is_line_feed : Bool) → List ℕ
beginning styling at is_line_feed = change styling at.shown at.selected ++ line_break at.returned is_line_feed

unfoldable pub text_html : Styling → Standing → (is_line_feed : Bool) → (text : List ℕ) → List ℕ
text_html styling at is_line_feed [] = []
text_html styling at is_line_feed (b ∷ bytes) = beginning styling at is_line_feed ++ escaped_text (b ∷ bytes)

-- what holds after a text, where this held before
abbrev pub after_text : {A : Type 0} → (before after : A) → (text : List ℕ) → A
after_text before after [] = before
after_text before after (b ∷ bytes) = after

abbrev pub is_executed : ℕ → Call → Bool
is_executed byte (execute b) = b == byte
is_executed byte _ = false

-- what a call writes, and where it leads
abbrev pub call_html : Styling → Standing → Call → List ℕ
call_html styling at call = text_html styling at (is_executed 0x0A call) (stripped_call call)

abbrev pub element_after : Call → Element → Element
element_after call it = element (style_after call it.style) (link_after call it.link)

abbrev pub standing_after : Call → Standing → Standing
standing_after call at = record {
  shown = after_text at.shown at.selected (stripped_call call);
  selected = element_after call at.selected;
  returned = after_text at.returned (is_executed 0x0D call) (stripped_call call);
}

-- the calls, one after another
abbrev pub html_from : Styling → Standing → List Call → List ℕ
html_from styling at [] = []
html_from styling at (call ∷ calls) = call_html styling at call ++ html_from styling (standing_after call at) calls

abbrev pub standing_at_end : Standing → List Call → Standing
standing_at_end at [] = at
standing_at_end at (call ∷ calls) = standing_at_end (standing_after call at) calls

-- the HTML of the calls of a stream, as far as it has come; and what ends it
abbrev pub html_text : Styling → List Call → List ℕ
html_text styling calls = html_from styling at_start calls

abbrev pub html_ending : List Call → List ℕ
html_ending calls = element_end (standing_at_end at_start calls).shown

-- The HTML of a stream's calls, in a styling.
abbrev pub html : Styling → List Call → List ℕ
html styling calls = html_text styling calls ++ html_ending calls

-- The bytes of HTML at most for each byte of a stream, and those that close what is open at its end. Four bytes, as
-- `ESC [ m` and a character, may change a style: by declarations that is the end of a span (7), the longest beginning
-- of another (275), or by classes (119), the end of a link (4), a line break (4) and the longest text (6).
abbrev pub html_of_a_byte : Styling → ℕ
html_of_a_byte (Inline scheme) = 74
html_of_a_byte Classes = 35

abbrev pub html_of_an_end : ℕ
html_of_an_end = 11
