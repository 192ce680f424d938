-- A style as a list of classes.
--
-- Sources: the HTML standard, 3.2.6 (the attribute `class`: names with spaces between them); Content
-- Security Policy Level 3, `style-src`, which forbids attributes `style` unless 'unsafe-inline' is said.
use Rattle.std.specs.Prelude.{ℕ, Bool, false, ◌+◌, ◌%◌, ◌||◌, List, [], ◌∷◌, ◌++◌, Option, None, Some, is_some, option_to_list, codes, map, decimal, if◌then◌else◌}
use Rattle.std.specs.List.{flat_map, join_with_byte}
use Rattle.ansi_style.specs.declared.style.Style.{Style}
use Rattle.ansi_style.specs.declared.style.Color.{Color}
use Rattle.ansi_style.specs.declared.style.Color.TheVariants.{Default, Named, Bright, Indexed, Direct}
use Rattle.ansi_style.specs.declared.style.Underline.{Underline}
use Rattle.ansi_style.specs.declared.style.Underline.TheVariants.{Off, Single, Double, Curly, Dotted, Dashed}
use Rattle.ansi_style.specs.Style.{hue_number}
use Rattle.ansi_html.specs.declared.class.Class.{Class}
use Rattle.ansi_html.specs.declared.class.Class.TheVariants.{Link, OnPage, OnReversed, OnGround, Ink, Reversed, Ground, Bold, Italic, Lines, Drawn, Hidden}
use Rattle.ansi_html.specs.Contrast.{rgb}
use Rattle.ansi_html.specs.Css.{text_of, behind_of, text_if, is_underlined}
use Rattle.ansi_html.specs.Nearest.{nearest}

-- The number of a colour among the 256; the default has none. Red, green and blue have that of the nearest.
abbrev pub number_of : Color → Option ℕ
number_of Default = None
number_of (Named hue) = Some (hue_number hue)
number_of (Bright hue) = Some (8 + hue_number hue)
number_of (Indexed n) = Some (n % 256)
number_of (Direct red green blue) = Some (nearest (rgb red green blue) % 256)

abbrev pub class_if : Bool → Class → Option Class
class_if wanted class = if wanted then Some class else None

-- The classes of a style's colours, one for its text and one for its ground, in the cases of `colors_css`.
abbrev pub text_class_by : (dim reverse : Bool) → (text behind : Option ℕ) → Option Class
text_class_by dim reverse (Some text) (Some behind) = Some (OnGround text)
text_class_by dim reverse None (Some behind) = Some (Ink dim behind)
text_class_by dim reverse text None =
    if reverse then Some (OnReversed dim text) else class_if (is_some text || dim) (OnPage dim text)

abbrev pub ground_class_by : (reverse : Bool) → (behind : Option ℕ) → Option Class
ground_class_by reverse (Some behind) = Some (Ground behind)
ground_class_by reverse None = class_if reverse Reversed

abbrev pub text_class : Style → Option Class
text_class style = text_class_by style.dim style.reverse (number_of (text_of style)) (number_of (behind_of style))

abbrev pub ground_class : Style → Option Class
ground_class style = ground_class_by style.reverse (number_of (behind_of style))

abbrev pub lines_class : Style → Option Class
lines_class style =
    class_if (is_underlined style.underline || (style.overlined || (style.struck_out || style.blink)))
    (Lines (is_underlined style.underline) style.overlined style.struck_out style.blink)

abbrev pub underline_class : Underline → Option Class
underline_class Off = None
underline_class Single = None
underline_class Double = Some (Drawn Double)
underline_class Curly = Some (Drawn Curly)
underline_class Dotted = Some (Drawn Dotted)
underline_class Dashed = Some (Drawn Dashed)

-- The classes of a style, and of a link in it.
unfoldable pub classes_of : (linked : Bool) → Style → List Class
classes_of linked style =
    flat_map option_to_list
    (class_if linked Link ∷ text_class style ∷ ground_class style
    ∷ class_if style.bold Bold ∷ class_if style.italic Italic
    ∷ lines_class style ∷ underline_class style.underline ∷ class_if style.hidden Hidden ∷ [])

-- The names: a letter for each kind of colour, with d before it where the text is dim, and the number; and
-- letters for lines.
abbrev pub number_word : Option ℕ → List ℕ
number_word None = []
number_word (Some n) = decimal n

abbrev pub colored_word : (dim : Bool) → (letter : ℕ) → Option ℕ → List ℕ
colored_word dim letter number = text_if dim (codes "d") ++ (letter ∷ number_word number)

abbrev pub letters : Bool → Bool → Bool → Bool → List ℕ
letters underlined overlined struck_out blink =
    text_if underlined (codes "u") ++ (text_if overlined (codes "o")
    ++ (text_if struck_out (codes "s") ++ text_if blink (codes "k")))

abbrev pub underline_word : Underline → List ℕ
underline_word Off = []
underline_word Single = []
underline_word Double = codes "double"
underline_word Curly = codes "wavy"
underline_word Dotted = codes "dotted"
underline_word Dashed = codes "dashed"

abbrev pub class_word : Class → List ℕ
class_word Link = codes "link"
class_word (OnPage dim number) = colored_word dim 0x66 number
class_word (OnReversed dim number) = colored_word dim 0x72 number
class_word (OnGround number) = colored_word false 0x74 (Some number)
class_word (Ink dim number) = colored_word dim 0x69 (Some number)
class_word Reversed = codes "reverse"
class_word (Ground number) = colored_word false 0x62 (Some number)
class_word Bold = codes "bold"
class_word Italic = codes "italic"
class_word (Lines underlined overlined struck_out blink) = letters underlined overlined struck_out blink
class_word (Drawn underline) = underline_word underline
class_word Hidden = codes "hidden"

abbrev pub class_name : Class → List ℕ
class_name class = codes "ansi-" ++ class_word class

-- names, with spaces between them
abbrev pub class_names : List Class → List ℕ
class_names classes = join_with_byte 0x20 (map class_name classes)
