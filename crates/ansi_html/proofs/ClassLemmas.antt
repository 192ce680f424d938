-- The classes of a style stand in the stylesheet, and what an attribute says of a style holds no quote and no
-- reference.
use Rattle.std.proofs.Common.{◌≡◌, ◌<◌, ◌≤◌, ℕ, zero, suc, ◌+◌, ◌*◌, Bool, true, false, ◌&&◌, ◌||◌, List, [], ◌∷◌, ◌++◌, codes, length, refl, subst, ⊎_elim, arith, length-append}
use Rattle.std.specs.Prelude.{nat_le, ⊤, Option, None, Some, option_to_list}
use Rattle.std.specs.List.{AllByRecursion, Contains, list_all, flat_map, range_with_len}
use Rattle.std.specs.Fmt.{digits}
use Rattle.std.proofs.lemmas.Bool.{cases_lt, and_parts, leb-true}
use Rattle.std.proofs.lemmas.List.Elements.{All-contains, Contains-append_left, Contains-append_right}
use Rattle.std.proofs.lemmas.List.Sums.{AllPass-from_list_all}
use Rattle.ansi_style.specs.declared.style.Style.{Style}
use Rattle.ansi_style.specs.declared.style.Color.{Color}
use Rattle.ansi_style.specs.declared.style.Color.TheVariants.{Default, Named, Bright, Indexed, Direct}
use Rattle.ansi_style.specs.declared.style.Hue.{Hue}
use Rattle.ansi_style.specs.declared.style.Hue.TheVariants.{Black, Red, Green, Yellow, Blue, Magenta, Cyan, White}
use Rattle.ansi_style.specs.declared.style.Underline.{Underline}
use Rattle.ansi_style.specs.declared.style.Underline.TheVariants.{Off, Single, Double, Curly, Dotted, Dashed}
use Rattle.ansi_style.specs.Style.{hue_number}
use Rattle.ansi_html.specs.declared.scheme.Styling.{Styling}
use Rattle.ansi_html.specs.declared.scheme.Styling.TheVariants.{Inline, Classes}
use Rattle.ansi_html.specs.declared.class.Class.{Class}
use Rattle.ansi_html.specs.declared.class.Class.TheVariants.{Link, Lines, Bold, Italic, Reversed, Hidden}
use Rattle.ansi_html.specs.Css.{text_if, text_of, behind_of, is_underlined, css}
use Rattle.ansi_html.specs.Classes.{number_of, text_class_by, ground_class_by, text_class, ground_class, class_if, lines_class, underline_class, classes_of, class_name, class_names}
use Rattle.ansi_html.specs.Stylesheet.{texts_at, ground_at, lines_at, first_classes, last_classes, vocabulary}
use Rattle.ansi_html.specs.Links.{is_none}
use Rattle.ansi_html.specs.Html.{Element, value_of, element_value}
use Rattle.ansi_html.proofs.ColorLemmas.{choose}
use Rattle.ansi_html.proofs.DeclarationLemmas.{is_safe, AreSafe, AreSafe-append, AreSafe-css}

-- what is made of a number from a on
Contains-flat : {X : Type 0} (f : ℕ → List X) (x : X) (a n k : ℕ) → a ≤ k → k < a + n → Contains (f k) x → Contains (flat_map f (range_with_len a n)) x
Contains-flat f x a zero k low high is = absurd (omega (arith, low, high))
Contains-flat f x a (suc n) k low high is =
    let rest = flat_map f (range_with_len (a + 1) n) in
    ⊎_elim
    (λ (here : k < a + 1). let same : k ≡ a = omega (arith, low, here) in Contains-append_left (f a) rest x (subst (λ j. Contains (f j) x) same is))
    (λ (behind : a + 1 ≤ k). Contains-append_right (f a) rest x (Contains-flat f x (a + 1) n k behind (omega (arith, high)) is))
    (cases_lt k (a + 1))

-- the parts of the vocabulary
abbrev texts : List Class
texts = flat_map texts_at (range_with_len 0 256)

abbrev grounds : List Class
grounds = flat_map ground_at (range_with_len 0 256)

abbrev choices : List Class
choices = flat_map lines_at (range_with_len 1 15)

abbrev behind_choices : List Class
behind_choices = choices ++ last_classes

abbrev behind_grounds : List Class
behind_grounds = Bold ∷ Italic ∷ [] ++ behind_choices

abbrev behind_reversed : List Class
behind_reversed = grounds ++ behind_grounds

abbrev behind_texts : List Class
behind_texts = Reversed ∷ [] ++ behind_reversed

module _ (class : Class) where
  of_first : Contains first_classes class → Contains vocabulary class
  unfolding vocabulary
  of_first is = Contains-append_left first_classes (texts ++ behind_texts) class is

  of_texts : (n : ℕ) → n < 256 → Contains (texts_at n) class → Contains vocabulary class
  unfolding vocabulary
  of_texts n low is =
      Contains-append_right first_classes (texts ++ behind_texts) class
      (Contains-append_left texts behind_texts class (Contains-flat texts_at class 0 256 n (omega arith) (omega (arith, low)) is))

  behind : Contains behind_texts class → Contains vocabulary class
  unfolding vocabulary
  behind is = Contains-append_right first_classes (texts ++ behind_texts) class (Contains-append_right texts behind_texts class is)

  of_grounds : (n : ℕ) → n < 256 → Contains (ground_at n) class → Contains vocabulary class
  of_grounds n low is =
      behind (Contains-append_right (Reversed ∷ []) behind_reversed class
      (Contains-append_left grounds behind_grounds class (Contains-flat ground_at class 0 256 n (omega arith) (omega (arith, low)) is)))

  of_bold : Contains (Bold ∷ Italic ∷ []) class → Contains vocabulary class
  of_bold is =
      behind (Contains-append_right (Reversed ∷ []) behind_reversed class (Contains-append_right grounds behind_grounds class
      (Contains-append_left (Bold ∷ Italic ∷ []) behind_choices class is)))

  of_lines : (n : ℕ) → 1 ≤ n → n < 16 → Contains (lines_at n) class → Contains vocabulary class
  of_lines n low high is =
      behind (Contains-append_right (Reversed ∷ []) behind_reversed class (Contains-append_right grounds behind_grounds class
      (Contains-append_right (Bold ∷ Italic ∷ []) behind_choices class
      (Contains-append_left choices last_classes class (Contains-flat lines_at class 1 15 n low (omega (arith, high)) is)))))

  of_last : Contains last_classes class → Contains vocabulary class
  of_last is =
      behind (Contains-append_right (Reversed ∷ []) behind_reversed class (Contains-append_right grounds behind_grounds class
      (Contains-append_right (Bold ∷ Italic ∷ []) behind_choices class (Contains-append_right choices last_classes class is))))

-- a class, where there is one, stands in it; and a number, where there is one, is that of a colour
IsKnown : Option Class → Type 0
IsKnown None = ⊤
IsKnown (Some class) = Contains vocabulary class

unfoldable pub IsNumber : Option ℕ → Type 0
IsNumber None = ⊤
IsNumber (Some n) = n < 256

below_eight : (hue : Hue) → hue_number hue < 8
below_eight Black = omega arith
below_eight Red = omega arith
below_eight Green = omega arith
below_eight Yellow = omega arith
below_eight Blue = omega arith
below_eight Magenta = omega arith
below_eight Cyan = omega arith
below_eight White = omega arith

pub IsNumber-of : (color : Color) → IsNumber (number_of color)
unfolding IsNumber
IsNumber-of Default = tt
IsNumber-of (Named hue) = omega (arith, below_eight hue)
IsNumber-of (Bright hue) = omega (arith, below_eight hue)
IsNumber-of (Indexed n) = omega arith
IsNumber-of (Direct red green blue) = omega arith

IsKnown-text : (dim reverse : Bool) (text behind : Option ℕ) → IsNumber text → IsNumber behind → IsKnown (text_class_by dim reverse text behind)
unfolding IsNumber IsKnown
IsKnown-text dim reverse (Some text) (Some behind) low _ = of_texts _ text low (4, omega arith, refl)
IsKnown-text false reverse None (Some behind) _ low = of_texts _ behind low (5, omega arith, refl)
IsKnown-text true reverse None (Some behind) _ low = of_texts _ behind low (6, omega arith, refl)
IsKnown-text false true (Some text) None low _ = of_texts _ text low (2, omega arith, refl)
IsKnown-text true true (Some text) None low _ = of_texts _ text low (3, omega arith, refl)
IsKnown-text false false (Some text) None low _ = of_texts _ text low (0, omega arith, refl)
IsKnown-text true false (Some text) None low _ = of_texts _ text low (1, omega arith, refl)
IsKnown-text false true None None _ _ = of_first _ (2, omega arith, refl)
IsKnown-text true true None None _ _ = of_first _ (3, omega arith, refl)
IsKnown-text false false None None _ _ = tt
IsKnown-text true false None None _ _ = of_first _ (1, omega arith, refl)

IsKnown-ground : (reverse : Bool) (behind : Option ℕ) → IsNumber behind → IsKnown (ground_class_by reverse behind)
unfolding IsNumber IsKnown
IsKnown-ground reverse (Some behind) low = of_grounds _ behind low (0, omega arith, refl)
IsKnown-ground true None _ = behind _ (0, omega arith, refl)
IsKnown-ground false None _ = tt

IsKnown-if : (wanted : Bool) (class : Class) → Contains vocabulary class → IsKnown (class_if wanted class)
unfolding IsKnown
IsKnown-if true class is = is
IsKnown-if false class is = tt

IsKnown-lines : (underlined overlined struck_out blink : Bool)
    → IsKnown (class_if (underlined || (overlined || (struck_out || blink))) (Lines underlined overlined struck_out blink))
unfolding IsKnown
IsKnown-lines false false false false = tt
IsKnown-lines true false false false = of_lines _ 1 (omega arith) (omega arith) (0, omega arith, refl)
IsKnown-lines false true false false = of_lines _ 2 (omega arith) (omega arith) (0, omega arith, refl)
IsKnown-lines true true false false = of_lines _ 3 (omega arith) (omega arith) (0, omega arith, refl)
IsKnown-lines false false true false = of_lines _ 4 (omega arith) (omega arith) (0, omega arith, refl)
IsKnown-lines true false true false = of_lines _ 5 (omega arith) (omega arith) (0, omega arith, refl)
IsKnown-lines false true true false = of_lines _ 6 (omega arith) (omega arith) (0, omega arith, refl)
IsKnown-lines true true true false = of_lines _ 7 (omega arith) (omega arith) (0, omega arith, refl)
IsKnown-lines false false false true = of_lines _ 8 (omega arith) (omega arith) (0, omega arith, refl)
IsKnown-lines true false false true = of_lines _ 9 (omega arith) (omega arith) (0, omega arith, refl)
IsKnown-lines false true false true = of_lines _ 10 (omega arith) (omega arith) (0, omega arith, refl)
IsKnown-lines true true false true = of_lines _ 11 (omega arith) (omega arith) (0, omega arith, refl)
IsKnown-lines false false true true = of_lines _ 12 (omega arith) (omega arith) (0, omega arith, refl)
IsKnown-lines true false true true = of_lines _ 13 (omega arith) (omega arith) (0, omega arith, refl)
IsKnown-lines false true true true = of_lines _ 14 (omega arith) (omega arith) (0, omega arith, refl)
IsKnown-lines true true true true = of_lines _ 15 (omega arith) (omega arith) (0, omega arith, refl)

IsKnown-underline : (underline : Underline) → IsKnown (underline_class underline)
unfolding IsKnown
IsKnown-underline Off = tt
IsKnown-underline Single = tt
IsKnown-underline Double = of_last _ (0, omega arith, refl)
IsKnown-underline Curly = of_last _ (1, omega arith, refl)
IsKnown-underline Dotted = of_last _ (2, omega arith, refl)
IsKnown-underline Dashed = of_last _ (3, omega arith, refl)

abbrev pub AreKnown : List Class → Type 0
AreKnown classes = AllByRecursion (Contains vocabulary) classes

AreKnown-there : (classes : List (Option Class)) → AllByRecursion IsKnown classes → AreKnown (flat_map option_to_list classes)
unfolding IsKnown
AreKnown-there [] are = tt
AreKnown-there (None ∷ classes) are = AreKnown-there classes are.1
AreKnown-there (Some class ∷ classes) are = (are.0, AreKnown-there classes are.1)

-- The classes of a style stand in the vocabulary.
pub AreKnown-style : (linked : Bool) (style : Style) → AreKnown (classes_of linked style)
unfolding classes_of
AreKnown-style linked style =
    let text = number_of (text_of style) in
    let behind = number_of (behind_of style) in
    AreKnown-there
    (class_if linked Link ∷ text_class style ∷ ground_class style ∷ class_if style.bold Bold ∷ class_if style.italic Italic
    ∷ lines_class style ∷ underline_class style.underline ∷ class_if style.hidden Hidden ∷ []) (
      IsKnown-if linked Link (of_first Link (0, omega arith, refl)),
      (
        IsKnown-text style.dim style.reverse text behind (IsNumber-of (text_of style)) (IsNumber-of (behind_of style)),
        (
          IsKnown-ground style.reverse behind (IsNumber-of (behind_of style)),
          (
            IsKnown-if style.bold Bold (of_bold Bold (0, omega arith, refl)),
            (
              IsKnown-if style.italic Italic (of_bold Italic (1, omega arith, refl)),
              (
                IsKnown-lines (is_underlined style.underline) style.overlined style.struck_out style.blink,
                (
                  IsKnown-underline style.underline,
                  (IsKnown-if style.hidden Hidden (of_last Hidden (4, omega arith, refl)), tt),
                ),
              ),
            ),
          ),
        ),
      ),
    )

-- A name of the vocabulary may stand in an attribute, and is of at most twelve bytes.
is_name : Class → Bool
is_name class = list_all is_safe (class_name class) && nat_le (length (class_name class)) 12

are_names : list_all is_name vocabulary ≡ true
unfolding vocabulary is_name is_safe digits
are_names = refl

is_name-known : (class : Class) → Contains vocabulary class → is_name class ≡ true
is_name-known class is = All-contains (λ it. is_name it ≡ true) vocabulary class (AllPass-from_list_all is_name vocabulary are_names) is

AreSafe-name : (class : Class) → Contains vocabulary class → AreSafe (class_name class)
unfolding is_name
AreSafe-name class is = (and_parts (list_all is_safe (class_name class)) (nat_le (length (class_name class)) 12) (is_name-known class is)).0

length-name : (class : Class) → Contains vocabulary class → length (class_name class) ≤ 12
unfolding is_name
length-name class is =
    leb-true (length (class_name class)) 12 (and_parts (list_all is_safe (class_name class)) (nat_le (length (class_name class)) 12) (is_name-known class is)).1

AreSafe-names : (classes : List Class) → AreKnown classes → AreSafe (class_names classes)
unfolding is_safe
AreSafe-names [] are = refl
AreSafe-names (class ∷ []) are = AreSafe-name class are.0
AreSafe-names (class ∷ next ∷ classes) are =
    AreSafe-append (class_name class) (codes " " ++ class_names (next ∷ classes)) (AreSafe-name class are.0)
    (AreSafe-append (codes " ") (class_names (next ∷ classes)) refl (AreSafe-names (next ∷ classes) are.1))

length-names : (classes : List Class) → AreKnown classes → length (class_names classes) ≤ 13 * length classes
length-names [] are = omega arith
length-names (class ∷ []) are = omega (arith, length-name class are.0)
length-names (class ∷ next ∷ classes) are =
    omega (arith, length-name class are.0, length-append (class_name class) (0x20 ∷ class_names (next ∷ classes)), length-names (next ∷ classes) are.1)

length-there : (classes : List (Option Class)) → length (flat_map option_to_list classes) ≤ length classes
length-there [] = omega arith
length-there (None ∷ classes) = omega (arith, length-there classes)
length-there (Some class ∷ classes) = omega (arith, length-there classes)

length-classes : (linked : Bool) (style : Style) → length (classes_of linked style) ≤ 8
unfolding classes_of
length-classes linked style =
    length-there
    (class_if linked Link ∷ text_class style ∷ ground_class style ∷ class_if style.bold Bold ∷ class_if style.italic Italic
    ∷ lines_class style ∷ underline_class style.underline ∷ class_if style.hidden Hidden ∷ [])

-- Eight names, and what is between them.
pub length-class_names : (linked : Bool) (style : Style) → length (class_names (classes_of linked style)) ≤ 104
length-class_names linked style = omega (arith, length-names (classes_of linked style) (AreKnown-style linked style), length-classes linked style)

-- what an attribute says
pub AreSafe-value : (styling : Styling) (linked : Bool) (style : Style) → AreSafe (value_of styling linked style)
unfolding is_safe
AreSafe-value (Inline scheme) linked style =
    AreSafe-append (text_if linked (codes "color:inherit;")) (css scheme style) (choose AreSafe linked (codes "color:inherit;") [] refl refl) (AreSafe-css scheme style)
AreSafe-value Classes linked style = AreSafe-names (classes_of linked style) (AreKnown-style linked style)

pub AreSafe-element_value : (styling : Styling) (element : Element) → AreSafe (element_value styling element)
AreSafe-element_value styling element =
    choose AreSafe (is_none element.link) (value_of styling false element.style) (value_of styling true element.style)
    (AreSafe-value styling false element.style) (AreSafe-value styling true element.style)
