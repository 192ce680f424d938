-- No two classes of the stylesheet have one name: each is read from its own.
use Rattle.std.proofs.Common.{◌≡◌, ℕ, ◌+◌, ◌*◌, ◌-◌, Bool, true, false, eqb, List, [], ◌∷◌, codes, map, drop, get_or, refl, sym, ap, ◌∙◌}
use Rattle.std.specs.Prelude.{Option, None, Some, if◌then◌else◌}
use Rattle.std.specs.List.{Contains}
use Rattle.std.specs.Fmt.{digits}
use Rattle.std.specs.Str.{bytes_eq}
use Rattle.std.proofs.lemmas.List.{get_or-map}
use Rattle.ansi_style.specs.declared.style.Underline.TheVariants.{Double, Curly, Dotted, Dashed}
use Rattle.ansi_html.specs.declared.class.Class.{Class}
use Rattle.ansi_html.specs.declared.class.Class.TheVariants.{Link, OnPage, OnReversed, OnGround, Ink, Reversed, Ground, Bold, Italic, Lines, Drawn, Hidden}
use Rattle.ansi_html.specs.Classes.{class_name}
use Rattle.ansi_html.specs.Stylesheet.{vocabulary}

-- a number from its digits, and none from no digits
number_from : ℕ → List ℕ → ℕ
number_from value [] = value
number_from value (digit ∷ rest) = number_from (10 * value + (digit - 0x30)) rest

number_in : List ℕ → Option ℕ
number_in [] = None
number_in (digit ∷ rest) = Some (number_from 0 (digit ∷ rest))

-- a class from the letter and the digits of its name
colored_class : (dim : Bool) → List ℕ → Class
colored_class dim [] = Hidden
colored_class dim (letter ∷ digits_of) =
    if eqb letter 0x66 then OnPage dim (number_in digits_of)
    else if eqb letter 0x72 then OnReversed dim (number_in digits_of)
    else if eqb letter 0x69 then Ink dim (number_from 0 digits_of)
    else if eqb letter 0x74 then OnGround (number_from 0 digits_of)
    else Ground (number_from 0 digits_of)

-- whether a letter is there
has : ℕ → List ℕ → Bool
has letter [] = false
has letter (b ∷ rest) = if eqb b letter then true else has letter rest

-- letters of lines have no digit and no other letter
is_line_letter : ℕ → Bool
is_line_letter b = if eqb b 0x75 then true else if eqb b 0x6F then true else if eqb b 0x73 then true else eqb b 0x6B

word_class : List ℕ → Class
word_class [] = Hidden
word_class (first ∷ rest) =
    let word = first ∷ rest in
    if bytes_eq word (codes "link") then Link
    else if bytes_eq word (codes "reverse") then Reversed
    else if bytes_eq word (codes "bold") then Bold
    else if bytes_eq word (codes "italic") then Italic
    else if bytes_eq word (codes "double") then Drawn Double
    else if bytes_eq word (codes "wavy") then Drawn Curly
    else if bytes_eq word (codes "dotted") then Drawn Dotted
    else if bytes_eq word (codes "dashed") then Drawn Dashed
    else if bytes_eq word (codes "hidden") then Hidden
    else if is_line_letter first then Lines (has 0x75 word) (has 0x6F word) (has 0x73 word) (has 0x6B word)
    else if eqb first 0x64 then colored_class true rest
    else colored_class false word

class_from : List ℕ → Class
class_from name = word_class (drop 5 name)

all_from_names : map (λ class. class_from (class_name class)) vocabulary ≡ vocabulary
unfolding vocabulary digits class_from word_class is_line_letter has colored_class number_in number_from
all_from_names = refl

from_name : (classes : List Class) (class : Class) → map (λ it. class_from (class_name it)) classes ≡ classes → Contains classes class → class_from (class_name class) ≡ class
from_name classes class same is =
    let read : Class → Class = λ it. class_from (class_name it) in
    let here : get_or classes is.0 class ≡ class = is.2 in
    ap read (sym here) ∙ sym (get_or-map read classes is.0 class class is.1) ∙ ap (λ cs. get_or cs is.0 class) same ∙ here

pub name-own : (one other : Class) → Contains vocabulary one → Contains vocabulary other → class_name one ≡ class_name other → one ≡ other
name-own one other first second same =
    sym (from_name vocabulary one all_from_names first) ∙ ap class_from same ∙ from_name vocabulary other all_from_names second
