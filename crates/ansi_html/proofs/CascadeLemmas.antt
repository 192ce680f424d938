-- The rules that count for the names of a style's classes are those of the classes, in their order.
use Rattle.std.proofs.Common.{◌≡◌, ◌≢◌, ◌<◌, ◌≤◌, ℕ, ◌+◌, ◌*◌, Bool, true, false, ◌&&◌, ◌||◌, eqb, List, [], ◌∷◌, ◌++◌, map, refl, sym, ap, ap₂, ◌∙◌, subst, ⊎_elim, arith}
use Rattle.std.specs.Prelude.{⊤, Option, None, Some, option_to_list}
use Rattle.std.specs.List.{AllByRecursion, Contains, flat_map, list_any, slice_index_or}
use Rattle.std.specs.Str.{bytes_eq}
use Rattle.std.proofs.lemmas.Bool.{and_parts, eqb-true}
use Rattle.std.proofs.lemmas.List.Elements.{Contains-append_right, Contains-append_cases}
use Rattle.std.proofs.lemmas.Slice.Eq.{bytes_eq-Decides}
use Rattle.ansi_style.specs.declared.style.Style.{Style}
use Rattle.ansi_style.specs.declared.style.Underline.{Underline}
use Rattle.ansi_style.specs.declared.style.Underline.TheVariants.{Off, Single, Double, Curly, Dotted, Dashed}
use Rattle.ansi_html.specs.declared.scheme.Scheme.{Scheme}
use Rattle.ansi_html.specs.declared.scheme.Styling.TheVariants.{Inline}
use Rattle.ansi_html.specs.declared.class.Class.{Class}
use Rattle.ansi_html.specs.declared.class.Class.TheVariants.{Link, OnPage, OnReversed, OnGround, Ink, Reversed, Ground, Bold, Italic, Lines, Drawn, Hidden}
use Rattle.ansi_html.specs.Css.{text_if, text_of, behind_of, is_underlined}
use Rattle.ansi_html.specs.Classes.{number_of, text_class_by, ground_class_by, text_class, ground_class, class_if, lines_class, underline_class, classes_of, class_name}
use Rattle.ansi_html.specs.Stylesheet.{declarations_of, vocabulary, applied, snapped}
use Rattle.ansi_html.specs.Html.{value_of}
use Rattle.ansi_html.proofs.HtmlLemmas.{bytes_eq-refl}
use Rattle.ansi_html.proofs.ClassLemmas.{AreKnown, AreKnown-style, IsNumber, IsNumber-of}
use Rattle.ansi_html.proofs.NameLemmas.{name-own}
use Rattle.ansi_html.proofs.SnappedLemmas.{declarations-snapped}

-- where the rule of a class stands in the stylesheet
bit : Bool → ℕ
bit true = 1
bit false = 0

place : Class → ℕ
place Link = 0
place (OnPage dim None) = 1
place (OnReversed dim None) = 2 + bit dim
place (OnPage dim (Some n)) = 4 + bit dim + 7 * n
place (OnReversed dim (Some n)) = 6 + bit dim + 7 * n
place (OnGround n) = 8 + 7 * n
place (Ink dim n) = 9 + bit dim + 7 * n
place Reversed = 1796
place (Ground n) = 1797 + n
place Bold = 2053
place Italic = 2054
place (Lines underlined overlined struck_out blink) = 2054 + bit underlined + 2 * bit overlined + 4 * bit struck_out + 8 * bit blink
place (Drawn Off) = 2070
place (Drawn Single) = 2070
place (Drawn Double) = 2070
place (Drawn Curly) = 2071
place (Drawn Dotted) = 2072
place (Drawn Dashed) = 2073
place Hidden = 2074

are_placed : ℕ → List Class → Bool
are_placed a [] = true
are_placed a (class ∷ classes) = eqb (place class) a && are_placed (a + 1) classes

vocabulary-placed : are_placed 0 vocabulary ≡ true
unfolding vocabulary are_placed place bit
vocabulary-placed = refl

-- an element of one, and of one and others
one_of : (x c : Class) → Contains (x ∷ []) c → x ≡ c
one_of x c is = let first : is.0 ≡ 0 = omega (arith, is.1) in subst (λ k. slice_index_or (x ∷ []) k c ≡ c) first is.2

-- Each element of placed classes has a place from the first on.
low : (a : ℕ) (classes : List Class) (c : Class) → are_placed a classes ≡ true → Contains classes c → a ≤ place c
unfolding are_placed
low a [] c placed is = absurd (omega (arith, is.1))
low a (x ∷ classes) c placed is =
    let parts = and_parts (eqb (place x) a) (are_placed (a + 1) classes) placed in
    ⊎_elim
    (λ (here : Contains (x ∷ []) c). omega (arith, eqb-true (place x) a parts.0, ap place (one_of x c here)))
    (λ (there : Contains classes c). omega (arith, low (a + 1) classes c parts.1 there))
    (Contains-append_cases (x ∷ []) classes c is)

-- classes of the vocabulary in its order, from a place on
Sorted : ℕ → List Class → Type 0
Sorted a [] = ⊤
Sorted a (class ∷ classes) = (a ≤ place class) × Sorted (place class + 1) classes

Sorted-weaker : (a b : ℕ) (classes : List Class) → a ≤ b → Sorted b classes → Sorted a classes
unfolding Sorted
Sorted-weaker a b [] less sorted = tt
Sorted-weaker a b (class ∷ classes) less sorted = (omega (arith, less, sorted.0), sorted.1)

-- whether a class is one of these, by its name
selected : List Class → Class → Bool
selected classes class = list_any (λ name. bytes_eq name (class_name class)) (map class_name classes)

abbrev Known : Class → Type 0
Known class = Contains vocabulary class

other_name : (one other : Class) → Known one → Known other → place one ≢ place other → bytes_eq (class_name one) (class_name other) ≡ false
other_name one other first second apart = by_case (bytes_eq (class_name one) (class_name other)) refl
  where
    by_case : (same : Bool) → bytes_eq (class_name one) (class_name other) ≡ same → bytes_eq (class_name one) (class_name other) ≡ false
    by_case false e = e
    by_case true e = absurd (apart (ap place (name-own one other first second ((bytes_eq-Decides (class_name one) (class_name other)).0 e))))

not_selected : (a : ℕ) (classes : List Class) (c : Class) → Known c → place c < a → AreKnown classes → Sorted a classes → selected classes c ≡ false
unfolding selected Sorted
not_selected a [] c known before are sorted = refl
not_selected a (class ∷ classes) c known before are sorted =
    ap₂ (λ (x y : Bool). x || y) (other_name class c are.0 known (λ e. omega (arith, before, sorted.0, e)))
    (not_selected (place class + 1) classes c known (omega (arith, before, sorted.0)) are.1 sorted.1)

module _ (scheme : Scheme) where
  pick : List Class → Class → List ℕ
  pick classes class = text_if (selected classes class) (declarations_of scheme class)

  -- behind its place a class is not selected any more
  past : (b : ℕ) (first : Class) (classes all : List Class) → Known first → place first < b → are_placed b all ≡ true → ((c : Class) → Contains all c → Known c)
      → flat_map (pick (first ∷ classes)) all ≡ flat_map (pick classes) all
  unfolding pick selected are_placed
  past b first classes [] known before placed within = refl
  past b first classes (x ∷ all) known before placed within =
      let parts = and_parts (eqb (place x) b) (are_placed (b + 1) all) placed in
      ap₂ (λ (found : Bool) l. text_if (found || list_any (λ name. bytes_eq name (class_name x)) (map class_name classes)) (declarations_of scheme x) ++ l)
      (other_name first x known (within x (0, omega arith, refl)) (λ e. omega (arith, before, e, eqb-true (place x) b parts.0)))
      (past (b + 1) first classes all known (omega (arith, before)) parts.1 (λ c is. within c (Contains-append_right (x ∷ []) all c is)))

  AreAmong : List Class → List Class → Type 0
  AreAmong all classes = AllByRecursion (Contains all) classes

  -- what stands behind the first
  behind : (a : ℕ) (x : Class) (all classes : List Class) → place x < a → Sorted a classes → AreAmong (x ∷ all) classes → AreAmong all classes
  unfolding Sorted AreAmong
  behind a x all [] before sorted are = tt
  behind a x all (class ∷ classes) before sorted are = (
    ⊎_elim
        (λ (here : Contains (x ∷ []) class). absurd (omega (arith, before, sorted.0, ap place (one_of x class here))))
        (λ (there : Contains all class). there)
        (Contains-append_cases (x ∷ []) all class are.0),
    behind (place class + 1) x all classes (omega (arith, before, sorted.0)) sorted.1 are.1,
  )

  merged : (a : ℕ) (all classes : List Class) → are_placed a all ≡ true → ((c : Class) → Contains all c → Known c)
      → AreKnown classes → Sorted a classes → AreAmong all classes → flat_map (pick classes) all ≡ flat_map (declarations_of scheme) classes
  unfolding pick selected are_placed Sorted AreAmong
  merged a [] [] placed within known sorted are = refl
  merged a [] (class ∷ classes) placed within known sorted are = absurd (omega (arith, are.0.1))
  merged a (x ∷ all) [] placed within known sorted are =
      merged (a + 1) all [] (and_parts (eqb (place x) a) (are_placed (a + 1) all) placed).1 (λ c is. within c (Contains-append_right (x ∷ []) all c is)) tt tt tt
  merged a (x ∷ all) (class ∷ classes) placed within known sorted are =
      ⊎_elim
      (λ (there : Contains (x ∷ []) class).
      (let same = one_of x class there in
      let at = eqb-true (place x) a parts.0 in
      let behind_it = behind (place class + 1) x all classes (omega (arith, ap place same)) sorted.1 are.1 in
      ap₂ (λ (found : Bool) l. text_if (found || list_any (λ name. bytes_eq name (class_name x)) (map class_name classes)) (declarations_of scheme x) ++ l)
      (ap (λ (it : Class). bytes_eq (class_name it) (class_name x)) (sym same) ∙ bytes_eq-refl (class_name x))
      (past (a + 1) class classes all known.0 (omega (arith, at, ap place same)) parts.1 inside
      ∙ merged (a + 1) all classes parts.1 inside known.1 (Sorted-weaker (a + 1) (place class + 1) classes (omega (arith, at, ap place same)) sorted.1) behind_it)
      ∙ ap (λ (it : Class). declarations_of scheme it ++ flat_map (declarations_of scheme) classes) same))
      (λ (later : Contains all class).
      (let at = eqb-true (place x) a parts.0 in
      let above : a + 1 ≤ place class = low (a + 1) all class parts.1 later in
      let over : Sorted (a + 1) (class ∷ classes) = (above, sorted.1) in
      ap (λ (found : Bool). text_if found (declarations_of scheme x) ++ flat_map (pick (class ∷ classes)) all)
      (not_selected (a + 1) (class ∷ classes) x (within x (0, omega arith, refl)) (omega (arith, at)) known over)
      ∙ merged (a + 1) all (class ∷ classes) parts.1 inside known over (behind (a + 1) x all (class ∷ classes) (omega (arith, at)) over are)))
      (Contains-append_cases (x ∷ []) all class are.0)
    where
      parts : (eqb (place x) a ≡ true) × (are_placed (a + 1) all ≡ true)
      parts = and_parts (eqb (place x) a) (are_placed (a + 1) all) placed

      inside : (c : Class) → Contains all c → Known c
      inside c is = within c (Contains-append_right (x ∷ []) all c is)

-- a class, where there is one, has a place between two
Between : (first end : ℕ) → Option Class → Type 0
Between first end None = ⊤
Between first end (Some class) = (first ≤ place class) × (place class < end)

Sorted-there : (first end : ℕ) (class : Option Class) (rest : List Class) → first ≤ end → Between first end class → Sorted end rest → Sorted first (option_to_list class ++ rest)
unfolding Between Sorted
Sorted-there first end None rest less between sorted = Sorted-weaker first end rest less sorted
Sorted-there first end (Some class) rest less between sorted = (between.0, Sorted-weaker (place class + 1) end rest (omega (arith, between.1)) sorted)

Between-if : (first end : ℕ) (wanted : Bool) (class : Class) → first ≤ place class → place class < end → Between first end (class_if wanted class)
unfolding Between
Between-if first end true class low high = (low, high)
Between-if first end false class low high = tt

bit-most : (b : Bool) → bit b ≤ 1
unfolding bit
bit-most true = omega arith
bit-most false = omega arith

Between-text : (dim reverse : Bool) (text behind : Option ℕ) → IsNumber text → IsNumber behind → Between 1 1796 (text_class_by dim reverse text behind)
unfolding IsNumber Between place
Between-text dim reverse (Some text) (Some behind) low _ = (omega arith, omega (arith, low))
Between-text dim reverse None (Some behind) _ low = (omega arith, omega (arith, low, bit-most dim))
Between-text dim true (Some text) None low _ = (omega arith, omega (arith, low, bit-most dim))
Between-text dim false (Some text) None low _ = (omega arith, omega (arith, low, bit-most dim))
Between-text dim true None None _ _ = (omega arith, omega (arith, bit-most dim))
Between-text true false None None _ _ = (omega arith, omega arith)
Between-text false false None None _ _ = tt

Between-ground : (reverse : Bool) (behind : Option ℕ) → IsNumber behind → Between 1796 2053 (ground_class_by reverse behind)
unfolding IsNumber Between place
Between-ground reverse (Some behind) low = (omega arith, omega (arith, low))
Between-ground true None _ = (omega arith, omega arith)
Between-ground false None _ = tt

Between-lines : (underlined overlined struck_out blink : Bool)
    → Between 2055 2070 (class_if (underlined || (overlined || (struck_out || blink))) (Lines underlined overlined struck_out blink))
unfolding Between place bit
Between-lines true overlined struck_out blink = (omega arith, omega (arith, bit-most overlined, bit-most struck_out, bit-most blink))
Between-lines false true struck_out blink = (omega arith, omega (arith, bit-most struck_out, bit-most blink))
Between-lines false false true blink = (omega arith, omega (arith, bit-most blink))
Between-lines false false false true = (omega arith, omega arith)
Between-lines false false false false = tt

Between-underline : (underline : Underline) → Between 2070 2074 (underline_class underline)
unfolding Between place
Between-underline Off = tt
Between-underline Single = tt
Between-underline Double = (omega arith, omega arith)
Between-underline Curly = (omega arith, omega arith)
Between-underline Dotted = (omega arith, omega arith)
Between-underline Dashed = (omega arith, omega arith)

Sorted-style : (linked : Bool) (style : Style) → Sorted 0 (classes_of linked style)
unfolding classes_of Sorted place
Sorted-style linked style =
    let there = Sorted-there in
    let text = number_of (text_of style) in
    let ground = number_of (behind_of style) in
    let hidden = option_to_list (class_if style.hidden Hidden) ++ [] in
    let drawn = option_to_list (underline_class style.underline) ++ hidden in
    let lines = option_to_list (lines_class style) ++ drawn in
    let italic = option_to_list (class_if style.italic Italic) ++ lines in
    let bold = option_to_list (class_if style.bold Bold) ++ italic in
    let grounds = option_to_list (ground_class style) ++ bold in
    there 0 1 (class_if linked Link) (option_to_list (text_class style) ++ grounds) (omega arith) (Between-if 0 1 linked Link (omega arith) (omega arith))
    (there 1 1796 (text_class style) grounds (omega arith) (Between-text style.dim style.reverse text ground (IsNumber-of (text_of style)) (IsNumber-of (behind_of style)))
    (there 1796 2053 (ground_class style) bold (omega arith) (Between-ground style.reverse ground (IsNumber-of (behind_of style)))
    (there 2053 2054 (class_if style.bold Bold) italic (omega arith) (Between-if 2053 2054 style.bold Bold (omega arith) (omega arith))
    (there 2054 2055 (class_if style.italic Italic) lines (omega arith) (Between-if 2054 2055 style.italic Italic (omega arith) (omega arith))
    (there 2055 2070 (lines_class style) drawn (omega arith) (Between-lines (is_underlined style.underline) style.overlined style.struck_out style.blink)
    (there 2070 2074 (underline_class style.underline) hidden (omega arith) (Between-underline style.underline)
    (there 2074 2075 (class_if style.hidden Hidden) [] (omega arith) (Between-if 2074 2075 style.hidden Hidden (omega arith) (omega arith)) tt)))))))

-- What counts for the names of a style's classes is what its attribute `style` would say.
pub applied-snapped : (scheme : Scheme) (linked : Bool) (style : Style) → applied scheme (map class_name (classes_of linked style)) ≡ value_of (Inline scheme) linked (snapped style)
unfolding selected pick AreAmong
applied-snapped scheme linked style =
    let classes = classes_of linked style in
    let known = AreKnown-style linked style in
    merged scheme 0 vocabulary classes vocabulary-placed (λ c is. is) known (Sorted-style linked style) known ∙ declarations-snapped scheme linked style
