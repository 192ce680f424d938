-- What is compared is the same.
use Rattle.std.proofs.Common.{◌≡◌, ℕ, zero, suc, ◌+◌, ◌*◌, ◌<◌, ◌≤◌, Bool, true, false, List, [], ◌∷◌, ◌++◌, length, take, drop, get_or, refl, ap, ap₂, sym, ◌∙◌, arith}
use Rattle.std.specs.Prelude.{◌&&◌, not, ◌==◌, map}
use Rattle.std.specs.Bool.{beq}
use Rattle.std.proofs.lemmas.Bool.{and_parts, eqb-true}
use Rattle.std.proofs.lemmas.List.{take_more, take_all, length-take-le, take-append-drop}
use Rattle.std.proofs.Math.Bool.{and_assoc}
use Rattle.ansi_style.specs.declared.style.Style.{Style}
use Rattle.ansi_style.specs.Style.{are_equal}
use Rattle.ansi_style.proofs.EqualityLemmas.{are_equal-same}
use Rattle.ansi_screen.specs.declared.cell.Cell.{Cell}
use Rattle.ansi_screen.specs.declared.cell.Marks.{Marks}
use Rattle.ansi_screen.specs.declared.cell.Marks.TheVariants.{Unmarked, One, Two}
use Rattle.ansi_screen.specs.declared.cell.Part.{Part}
use Rattle.ansi_screen.specs.declared.cell.Part.TheVariants.{Empty, Whole, Left, Right}
use Rattle.ansi_screen.specs.declared.place.Charsets.{Charsets}
use Rattle.ansi_screen.specs.declared.place.Place.{Place}
use Rattle.screen_draw.specs.Draw.{is_erased}
use Rattle.screen_draw.specs.Redrawn.{as_printed, as_drawn}
use Rattle.screen_draw.specs.Alike.{are_same_marks, are_same_parts, are_alike, all_two, are_same_sets, are_same_places}
use Rattle.screen_draw.proofs.BufferLemmas.{row-behind, take-row}

pub flag-same : (x y : Bool) → beq x y ≡ true → x ≡ y
flag-same true true h = refl
flag-same false false h = refl
flag-same x y h = cc

pub not-false : (t : Bool) → not t ≡ false → t ≡ true
not-false true is = refl
not-false false is = cc is

pub flag-refl : (x : Bool) → beq x x ≡ true
flag-refl true = refl
flag-refl false = refl

marks-same : (a b : Marks) → are_same_marks a b ≡ true → a ≡ b
marks-same Unmarked Unmarked h = refl
marks-same (One a) (One b) h = ap One (eqb-true a b h)
marks-same (Two a b) (Two c d) h =
    let parts = and_parts (a == c) (b == d) h in
    let first : a ≡ c = eqb-true a c parts.0 in
    let second : b ≡ d = eqb-true b d parts.1 in
    cc
marks-same a b h = cc

parts-same : (a b : Part) → are_same_parts a b ≡ true → a ≡ b
parts-same Empty Empty h = refl
parts-same Whole Whole h = refl
parts-same Left Left h = refl
parts-same Right Right h = refl
parts-same a b h = cc

-- alike cells
pub record Same (a b : Cell) : Type 0 where
  pub character : a.character ≡ b.character
  pub part : a.part ≡ b.part
  pub marks : a.marks ≡ b.marks
  pub style : a.style ≡ b.style

pub alike-same : (a b : Cell) → are_alike a b ≡ true → Same a b
unfolding are_alike
alike-same a b h =
    let h0 = and_parts (a.character == b.character) (are_same_parts a.part b.part && (are_same_marks a.marks b.marks && are_equal a.style b.style)) h in
    let h1 = and_parts (are_same_parts a.part b.part) (are_same_marks a.marks b.marks && are_equal a.style b.style) h0.1 in
    let h2 = and_parts (are_same_marks a.marks b.marks) (are_equal a.style b.style) h1.1 in
    record {
      character = eqb-true a.character b.character h0.0;
      part = parts-same a.part b.part h1.0;
      marks = marks-same a.marks b.marks h2.0;
      style = are_equal-same a.style b.style h2.1;
    }

-- a cell without link, on which no row goes on
abbrev bare : ℕ → Part → Marks → Style → Cell
bare c part marks style = record {
  character = c;
  link = 0;
  marks = marks;
  style = style;
  part = part;
  goes_on = false;
}

bare-same : (a b : Cell) → Same a b → bare a.character a.part a.marks a.style ≡ bare b.character b.part b.marks b.style
bare-same a b same =
    ap (λ c. bare c a.part a.marks a.style) same.character
    ∙ (ap (λ p. bare b.character p a.marks a.style) same.part
    ∙ (ap (λ m. bare b.character b.part m a.style) same.marks ∙ ap (λ t. bare b.character b.part b.marks t) same.style))

bare-drawn : (a : Cell) → as_drawn a ≡ as_drawn (bare a.character a.part a.marks a.style)
unfolding as_drawn is_erased
bare-drawn a = refl

pub alike-drawn : (a b : Cell) → are_alike a b ≡ true → as_drawn a ≡ as_drawn b
alike-drawn a b h =
    let same : Same a b = alike-same a b h in
    bare-drawn a ∙ (ap as_drawn (bare-same a b same) ∙ sym (bare-drawn b))

pub alike-printed : (a b : Cell) → are_alike a b ≡ true → as_printed a ≡ as_printed b
alike-printed a b h = ap as_printed (bare-same a b (alike-same a b h))

bare-erased : (a : Cell) → is_erased a ≡ is_erased (bare a.character a.part a.marks a.style)
unfolding is_erased
bare-erased a = refl

pub alike-erased : (a b : Cell) → are_alike a b ≡ true → is_erased a ≡ is_erased b
alike-erased a b h = bare-erased a ∙ (ap is_erased (bare-same a b (alike-same a b h)) ∙ sym (bare-erased b))

-- lists, element by element
pub all-drawn : (xs ys : List Cell) → all_two are_alike xs ys ≡ true → map as_drawn xs ≡ map as_drawn ys
all-drawn [] [] h = refl
all-drawn (x ∷ xs) (y ∷ ys) h =
    let parts = and_parts (are_alike x y) (all_two are_alike xs ys) h in
    let first : as_drawn x ≡ as_drawn y = alike-drawn x y parts.0 in
    let others : map as_drawn xs ≡ map as_drawn ys = all-drawn xs ys parts.1 in
    cc
all-drawn [] (y ∷ ys) h = cc h
all-drawn (x ∷ xs) [] h = cc h

pub all-stops : (xs ys : List Bool) → all_two beq xs ys ≡ true → xs ≡ ys
all-stops [] [] h = refl
all-stops (x ∷ xs) (y ∷ ys) h =
    let parts = and_parts (beq x y) (all_two beq xs ys) h in
    let first : x ≡ y = flag-same x y parts.0 in
    let others : xs ≡ ys = all-stops xs ys parts.1 in
    cc
all-stops [] (y ∷ ys) h = cc h
all-stops (x ∷ xs) [] h = cc h

pub sets-same : (a b : Charsets) → are_same_sets a b ≡ true → a ≡ b
sets-same a b h =
    let h0 = and_parts (beq a.g0_draws b.g0_draws) (beq a.g1_draws b.g1_draws && beq a.uses_g1 b.uses_g1) h in
    let h1 = and_parts (beq a.g1_draws b.g1_draws) (beq a.uses_g1 b.uses_g1) h0.1 in
    ap (λ g. record a { g0_draws = g }) (flag-same a.g0_draws b.g0_draws h0.0)
    ∙ (ap (λ g. record a { g0_draws = b.g0_draws; g1_draws = g }) (flag-same a.g1_draws b.g1_draws h1.0)
    ∙ ap (λ g. record b { uses_g1 = g }) (flag-same a.uses_g1 b.uses_g1 h1.1))

pub places-same : (a b : Place) → are_same_places a b ≡ true → a ≡ b
unfolding are_same_places
places-same a b h =
    let h0 = and_parts _ _ h in
    let h1 = and_parts _ _ h0.1 in
    let h2 = and_parts _ _ h1.1 in
    let h3 = and_parts _ _ h2.1 in
    ap (λ r. record a { row = r }) (eqb-true a.row b.row h0.0)
    ∙ (ap (λ c. record a { row = b.row; column = c }) (eqb-true a.column b.column h1.0)
    ∙ (ap (λ t. record a { row = b.row; column = b.column; style = t }) (are_equal-same a.style b.style h2.0)
    ∙ (ap (λ o. record b { is_relative = o; charsets = a.charsets }) (flag-same a.is_relative b.is_relative h3.0)
    ∙ ap (λ k. record b { charsets = k }) (sets-same a.charsets b.charsets h3.1))))

-- a test of each element
fails-behind : (s t : Bool) → t ≡ false → (s && t) ≡ false
fails-behind true t is = is
fails-behind false t is = refl

module _ {A : Type 0} (test : A → A → Bool) (d e : A) where
  pub all_two-fails : (i : ℕ) (xs ys : List A) → i < length xs → i < length ys → test (get_or xs i d) (get_or ys i e) ≡ false → all_two test xs ys ≡ false
  all_two-fails i [] ys inside within h = absurd (omega arith)
  all_two-fails i (x ∷ xs) [] inside within h = absurd (omega arith)
  all_two-fails zero (x ∷ xs) (y ∷ ys) inside within h = rw h refl
  all_two-fails (suc i) (x ∷ xs) (y ∷ ys) inside within h =
      fails-behind (test x y) (all_two test xs ys) (all_two-fails i xs ys (omega arith) (omega arith) h)

  pub all_two-push : (xs ys : List A) (x y : A) → all_two test xs ys ≡ true → test x y ≡ true → all_two test (xs ++ x ∷ []) (ys ++ y ∷ []) ≡ true
  all_two-push [] [] x y all one = rw one refl
  all_two-push [] (z ∷ ys) x y all one = cc all
  all_two-push (z ∷ xs) [] x y all one = cc all
  all_two-push (z ∷ xs) (v ∷ ys) x y all one =
      let parts = and_parts (test z v) (all_two test xs ys) all in
      rw parts.0 (all_two-push xs ys x y parts.1 one)

  pub all_two-more : (i : ℕ) (xs ys : List A) → i < length xs → i < length ys → all_two test (take i xs) (take i ys) ≡ true → test (get_or xs i d) (get_or ys i e) ≡ true
      → all_two test (take (i + 1) xs) (take (i + 1) ys) ≡ true
  all_two-more i xs ys inside within all one =
      rw (take_more xs i d inside, take_more ys i e within) (all_two-push (take i xs) (take i ys) (get_or xs i d) (get_or ys i e) all one)

  pub all_two-end : (i : ℕ) (xs ys : List A) → length xs ≤ i → length ys ≤ i → all_two test (take i xs) (take i ys) ≡ true → all_two test xs ys ≡ true
  all_two-end i xs ys long same all = rw (take_all i xs long, take_all i ys same) at all

  pub all_two-long : (xs ys : List A) (t : Bool) → all_two test xs ys ≡ t → (length xs ≡ length ys → ⊥) → t ≡ false
  all_two-long [] [] t is other = absurd (other refl)
  all_two-long [] (y ∷ ys) t is other = sym is
  all_two-long (x ∷ xs) [] t is other = sym is
  all_two-long (x ∷ xs) (y ∷ ys) false is other = refl
  all_two-long (x ∷ xs) (y ∷ ys) true is other =
      let parts = and_parts (test x y) (all_two test xs ys) is in
      all_two-long xs ys true parts.1 (λ e. other (ap suc e))

-- lists, one after another
all_two-append : (test : Cell → Cell → Bool) (xs ys us vs : List Cell) → length xs ≡ length ys
    → all_two test (xs ++ us) (ys ++ vs) ≡ (all_two test xs ys && all_two test us vs)
all_two-append test [] [] us vs same = refl
all_two-append test (x ∷ xs) (y ∷ ys) us vs same =
    ap (λ t. test x y && t) (all_two-append test xs ys us vs (omega (arith, same)))
    ∙ sym (and_assoc (test x y) (all_two test xs ys) (all_two test us vs))
all_two-append test [] (y ∷ ys) us vs same = absurd (omega (arith, same))
all_two-append test (x ∷ xs) [] us vs same = absurd (omega (arith, same))

-- a row of two lists of cells
module _ (width row : ℕ) (xs ys first second : List Cell)
    (within : row * width + width ≤ length xs) (same : length xs ≡ length ys)
    (first_is : first ≡ take width (drop (row * width) xs)) (second_is : second ≡ take width (drop (row * width) ys)) where
  so_far : all_two are_alike (take ((row + 1) * width) xs) (take ((row + 1) * width) ys)
      ≡ (all_two are_alike (take (row * width) xs) (take (row * width) ys) && all_two are_alike first second)
  so_far =
      let front = take (row * width) xs in
      let other = take (row * width) ys in
      let long : length front ≡ length other = length-take-le (row * width) xs (omega arith) ∙ sym (length-take-le (row * width) ys (omega arith)) in
      ap₂ (all_two are_alike) (take-row width row xs) (take-row width row ys)
      ∙ (all_two-append are_alike front other (take width (drop (row * width) xs)) (take width (drop (row * width) ys)) long
      ∙ ap₂ (λ k l. all_two are_alike front other && all_two are_alike k l) (sym first_is) (sym second_is))

  pub rows-more : all_two are_alike (take (row * width) xs) (take (row * width) ys) ≡ true → all_two are_alike first second ≡ true
      → all_two are_alike (take ((row + 1) * width) xs) (take ((row + 1) * width) ys) ≡ true
  rows-more before alike = so_far ∙ ap₂ (λ s t. s && t) before alike

  pub rows-differ : all_two are_alike first second ≡ false → all_two are_alike xs ys ≡ false
  rows-differ differ =
      let past : ℕ = (row + 1) * width in
      let here : past ≡ row * width + width = row-behind width row in
      let front : all_two are_alike (take past xs) (take past ys) ≡ false =
      so_far ∙ fails-behind (all_two are_alike (take (row * width) xs) (take (row * width) ys)) (all_two are_alike first second) differ in
      let long : length (take past xs) ≡ length (take past ys) = length-take-le past xs (omega arith) ∙ sym (length-take-le past ys (omega arith)) in
      ap₂ (all_two are_alike) (sym (take-append-drop past xs)) (sym (take-append-drop past ys))
      ∙ (all_two-append are_alike (take past xs) (take past ys) (drop past xs) (drop past ys) long
      ∙ ap (λ t. t && all_two are_alike (drop past xs) (drop past ys)) front)
