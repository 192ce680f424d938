-- A reader of HTML, as far as it is used here: text, line breaks, tags with quoted attributes, and
-- the six character references. First it makes one 0A of each 0D, with the 0A after it where there is
-- one (HTML standard, 13.2.3.5). The states are those of the standard's tokenizer that such text meets:
-- data (13.2.5.1), character reference (13.2.5.72 to 80), tag and its name (13.2.5.6 to 8), attributes
-- (13.2.5.32 to 40), attribute value, double-quoted (13.2.5.36), and a reference in it. A start tag opens an
-- element in those that are open, and an end tag ends the innermost one (13.2.6.4.7). A `br` has no end and no text.
--
-- What a fragment needs of its page, so that a browser reads it as this reader does: it stands in a
-- `<pre>`, right after a newline of the page's own, since a browser drops the 0A that begins a `<pre>`
-- (13.2.6.4.7); and the page is UTF-8. Colours for both kinds of pages want a page that has a
-- `color-scheme`, or that is light.
use Rattle.std.specs.Prelude.{ℕ, Bool, true, false, ◌&&◌, ◌==◌, bytes_eq, List, [], ◌∷◌, ◌++◌, codes, map, if◌then◌else◌}
use Rattle.std.specs.List.{flat_map}
use Rattle.anstyle_parse.specs.Stream.Call.{Call}
use Rattle.ansi_strip.specs.Strip.{stripped_call}
use Rattle.ansi_html.specs.declared.scheme.Styling.{Styling}
use Rattle.ansi_html.specs.declared.scheme.Styling.TheVariants.{Inline, Classes}
use Rattle.ansi_html.specs.Links.{is_none}
use Rattle.ansi_html.specs.Html.{Element, element_value, element_after}

-- What a tag has: the declarations of its style, the names of its classes, and the URI of its link. What
-- it lacks is empty.
pub record Attributes : Type 0 where
  pub style : List ℕ
  pub classes : List ℕ
  pub href : List ℕ

abbrev pub no_attributes : Attributes
no_attributes = record { style = []; classes = []; href = [] }

-- these with one more; another one than the three changes nothing
abbrev pub with_attribute : (name value : List ℕ) → Attributes → Attributes
with_attribute name value attributes =
    if bytes_eq name (codes "style")
    then record { style = value; classes = attributes.classes; href = attributes.href }
    else if bytes_eq name (codes "class")
    then record { style = attributes.style; classes = value; href = attributes.href }
    else if bytes_eq name (codes "href")
    then record { style = attributes.style; classes = attributes.classes; href = value }
    else attributes

-- names, with a space between those of the one and of the other
abbrev pub spaced_before : (names : List ℕ) → List ℕ
spaced_before [] = []
spaced_before (b ∷ names) = 0x20 ∷ b ∷ names

abbrev pub both_names : (first second : List ℕ) → List ℕ
both_names [] second = second
both_names (b ∷ first) second = (b ∷ first) ++ spaced_before second

-- What holds in an element that stands in another: the declarations and classes of both, those of the outer one first
-- (colours and fonts are inherited, and lines go on: CSS Cascade 4, 7; CSS Text Decoration 3, 2), and its own link or
-- else that of the outer one.
abbrev pub within : (outer own : Attributes) → Attributes
within outer own = record {
  style = outer.style ++ own.style;
  classes = both_names outer.classes own.classes;
  href = if is_none own.href then outer.href else own.href;
}

-- Of elements that are open, the innermost first, each by what holds in it: what holds in that one, and those around
-- it.
abbrev pub in_force : List Attributes → Attributes
in_force [] = no_attributes
in_force (attributes ∷ outer) = attributes

abbrev pub around : List Attributes → List Attributes
around [] = []
around (attributes ∷ outer) = outer

-- A byte of text, and the attributes under which it stands.
pub record Shown : Type 0 where
  pub byte : ℕ
  pub attributes : Attributes

abbrev pub under : Attributes → ℕ → Shown
under attributes b = record { byte = b; attributes = attributes }

abbrev pub byte_of : Shown → ℕ
byte_of shown = shown.byte

abbrev pub href_of : Shown → List ℕ
href_of shown = shown.attributes.href

-- Newlines, normalized: each 0D is 0A, and a 0A after it is dropped.
abbrev pub normalized_from : (returned : Bool) → List ℕ → List ℕ
normalized_from returned [] = []
normalized_from returned (b ∷ bytes) =
    if b == 0x0D then 0x0A ∷ normalized_from true bytes
    else if returned && b == 0x0A then normalized_from false bytes
    else b ∷ normalized_from false bytes

abbrev pub normalized : List ℕ → List ℕ
normalized bytes = normalized_from false bytes

-- where a reader is: in text or in a reference in the elements that are open; in the name of a tag that stands in
-- such text; in a tag, with its attributes so far, in the name of one, in a quoted value, or in a
-- reference there
pub data Place : Type 0 where
  in_text : List Attributes → Place
  in_reference : List Attributes → (name : List ℕ) → Place
  in_name : List Attributes → (name : List ℕ) → Place
  in_tag : List Attributes → (own : Attributes) → (attribute : List ℕ) → Place
  in_value : List Attributes → (own : Attributes) → (attribute value : List ℕ) → Place
  in_value_reference : List Attributes → (own : Attributes) → (attribute value name : List ℕ) → Place

-- the character of a reference
abbrev pub referred : List ℕ → List ℕ
referred name =
    if bytes_eq name (codes "amp") then codes "&"
    else if bytes_eq name (codes "lt") then codes "<"
    else if bytes_eq name (codes "gt") then codes ">"
    else if bytes_eq name (codes "quot") then codes "\""
    else if bytes_eq name (codes "#39") then codes "'"
    else if bytes_eq name (codes "#13") then 0x0D ∷ []
    else []

-- What one byte leads to. A tag with attributes opens an element, and one without is an end tag, which ends the
-- innermost one; or it is a `br`, which changes nothing.
abbrev pub place_after : Place → ℕ → Place
place_after (in_text opened) b =
    if b == 0x3C then in_name opened [] else if b == 0x26 then in_reference opened [] else in_text opened
place_after (in_reference opened name) b =
    if b == 0x3B then in_text opened else in_reference opened (name ++ b ∷ [])
place_after (in_name opened name) b =
    if b == 0x3E then in_text (if bytes_eq name (codes "br") then opened else around opened)
    else if b == 0x20 then in_tag opened no_attributes []
    else in_name opened (name ++ b ∷ [])
place_after (in_tag opened own attribute) b =
    if b == 0x3E then in_text (within (in_force opened) own ∷ opened)
    else if b == 0x22 then in_value opened own attribute []
    else if b == 0x20 then in_tag opened own []
    else if b == 0x3D then in_tag opened own attribute
    else in_tag opened own (attribute ++ b ∷ [])
place_after (in_value opened own attribute value) b =
    if b == 0x22 then in_tag opened (with_attribute attribute value own) []
    else if b == 0x26 then in_value_reference opened own attribute value []
    else in_value opened own attribute (value ++ b ∷ [])
place_after (in_value_reference opened own attribute value name) b =
    if b == 0x3B then in_value opened own attribute (value ++ referred name)
    else in_value_reference opened own attribute value (name ++ b ∷ [])

-- What is seen with it: bytes of text, or a line break.
pub data Seen : Type 0 where
  text : Attributes → (byte : ℕ) → Seen
  break : Seen

abbrev pub seen_of : Place → ℕ → List Seen
seen_of (in_text opened) b = if b == 0x3C then [] else if b == 0x26 then [] else text (in_force opened) b ∷ []
seen_of (in_reference opened name) b = if b == 0x3B then map (text (in_force opened)) (referred name) else []
seen_of (in_name opened name) b = if b == 0x3E then (if bytes_eq name (codes "br") then break ∷ [] else []) else []
seen_of (in_tag opened own attribute) b = []
seen_of (in_value opened own attribute value) b = []
seen_of (in_value_reference opened own attribute value name) b = []

-- what is seen of these bytes
abbrev pub seen_from : Place → List ℕ → List Seen
seen_from place [] = []
seen_from place (b ∷ bytes) = seen_of place b ++ seen_from (place_after place b) bytes

abbrev pub seen : List ℕ → List Seen
seen bytes = seen_from (in_text []) (normalized bytes)

-- What a reader reads: each byte of text with its attributes.
abbrev pub read_of : Seen → List Shown
read_of (text attributes b) = under attributes b ∷ []
read_of break = []

abbrev pub read : List ℕ → List Shown
read bytes = flat_map read_of (seen bytes)

-- What is drawn in a `<pre>`, line after line: a line ends at 0A and at a line break. A 0D that came
-- by a reference ends none, and is left out (CSS Text, 4, has a space for it; some draw nothing).
abbrev pub drawn_of : Seen → List ℕ
drawn_of (text attributes b) = if b == 0x0D then [] else b ∷ []
drawn_of break = 0x0A ∷ []

abbrev pub drawn : List ℕ → List ℕ
drawn bytes = flat_map drawn_of (seen bytes)

-- What the calls show: each byte that is left of them, with the declarations of the style or its classes,
-- and the link that are selected there.
abbrev pub attributes_by : Styling → (value link : List ℕ) → Attributes
attributes_by (Inline scheme) value link = record { style = value; classes = []; href = link }
attributes_by Classes value link = record { style = []; classes = value; href = link }

abbrev pub attributes_of : Styling → Element → Attributes
attributes_of styling element = attributes_by styling (element_value styling element) element.link

abbrev pub shown_from : Styling → Element → List Call → List Shown
shown_from styling element [] = []
shown_from styling element (call ∷ calls) =
    map (under (attributes_of styling element)) (stripped_call call)
    ++ shown_from styling (element_after call element) calls

-- whether a text ends in 0D, where what stands before it does or not
abbrev pub ends_returned : (returned : Bool) → List ℕ → Bool
ends_returned returned [] = returned
ends_returned returned (b ∷ bytes) = ends_returned (b == 0x0D) bytes

abbrev pub ends_in_return : List ℕ → Bool
ends_in_return bytes = ends_returned false bytes
