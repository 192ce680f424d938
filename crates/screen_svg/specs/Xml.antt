-- XML, as far as a picture has it: elements with attributes in double quotes, text, and character references; and a
-- reader of it. No element is written as an empty one.
--
-- Source: Extensible Markup Language (XML) 1.0, fifth edition: 2.4 (text and markup), 3.1 (tags), 2.3 (values of
-- attributes), 4.1 and 4.6 (references).
use Rattle.std.specs.Prelude.{ℕ, ◌==◌, List, [], ◌∷◌, ◌++◌, codes, map, if◌then◌else◌}
use Rattle.std.specs.List.{flat_map}
use Rattle.ansi_html.specs.Html.{escaped, escaped_text}
use Rattle.ansi_html.specs.Reader.{referred}

pub record Attribute : Type 0 where
  pub name : List ℕ
  pub value : List ℕ

abbrev pub attribute : (name value : List ℕ) → Attribute
attribute name value = record { name = name; value = value }

-- what a reader meets, one after another: a start tag, a byte of text, an end tag
pub data Event : Type 0 where
  start : (name : List ℕ) → (attributes : List Attribute) → Event
  byte : ℕ → Event
  end : (name : List ℕ) → Event

-- how they are written: in text and in values each byte that has a meaning is a reference
abbrev pub attribute_xml : Attribute → List ℕ
attribute_xml it = codes " " ++ (it.name ++ (codes "=\"" ++ (escaped_text it.value ++ codes "\"")))

abbrev pub event_xml : Event → List ℕ
event_xml (start name attributes) = codes "<" ++ (name ++ (flat_map attribute_xml attributes ++ codes ">"))
event_xml (byte b) = escaped b
event_xml (end name) = codes "</" ++ (name ++ codes ">")

abbrev pub xml : List Event → List ℕ
xml events = flat_map event_xml events

-- where a reader is: in text, in a reference there, in the name of a start tag or of an end tag; in a start tag of this
-- name, with its attributes so far, in the name of one; in a quoted value, or in a reference there
pub data Place : Type 0 where
  in_text : Place
  in_reference : (name : List ℕ) → Place
  in_start : (name : List ℕ) → Place
  in_end : (name : List ℕ) → Place
  in_tag : (name : List ℕ) → (attributes : List Attribute) → (attribute : List ℕ) → Place
  in_value : (name : List ℕ) → (attributes : List Attribute) → (attribute value : List ℕ) → Place
  in_value_reference : (name : List ℕ) → (attributes : List Attribute) → (attribute value reference : List ℕ) → Place

-- what one byte leads to
abbrev pub place_after : Place → ℕ → Place
place_after in_text b = if b == 0x3C then in_start [] else if b == 0x26 then in_reference [] else in_text
place_after (in_reference name) b = if b == 0x3B then in_text else in_reference (name ++ b ∷ [])
place_after (in_start name) b =
    if b == 0x3E then in_text
    else if b == 0x2F then in_end []
    else if b == 0x20 then in_tag name [] []
    else in_start (name ++ b ∷ [])
place_after (in_end name) b = if b == 0x3E then in_text else in_end (name ++ b ∷ [])
place_after (in_tag name attributes it) b =
    if b == 0x3E then in_text
    else if b == 0x22 then in_value name attributes it []
    else if b == 0x20 then in_tag name attributes []
    else if b == 0x3D then in_tag name attributes it
    else in_tag name attributes (it ++ b ∷ [])
place_after (in_value name attributes it value) b =
    if b == 0x22 then in_tag name (attributes ++ attribute it value ∷ []) []
    else if b == 0x26 then in_value_reference name attributes it value []
    else in_value name attributes it (value ++ b ∷ [])
place_after (in_value_reference name attributes it value reference) b =
    if b == 0x3B then in_value name attributes it (value ++ referred reference)
    else in_value_reference name attributes it value (reference ++ b ∷ [])

-- and what is met with it
abbrev pub met : Place → ℕ → List Event
met in_text b = if b == 0x3C then [] else if b == 0x26 then [] else byte b ∷ []
met (in_reference name) b = if b == 0x3B then map byte (referred name) else []
met (in_start name) b = if b == 0x3E then start name [] ∷ [] else []
met (in_end name) b = if b == 0x3E then end name ∷ [] else []
met (in_tag name attributes it) b = if b == 0x3E then start name attributes ∷ [] else []
met (in_value name attributes it value) b = []
met (in_value_reference name attributes it value reference) b = []

abbrev pub read_from : Place → List ℕ → List Event
read_from place [] = []
read_from place (b ∷ bytes) = met place b ++ read_from (place_after place b) bytes

-- What a reader reads.
abbrev pub read : List ℕ → List Event
read bytes = read_from in_text bytes
