-- A change leaves no half of a wide character behind it: a right half becomes a blank.
use Rattle.std.proofs.Common.{◌≡◌, ℕ, suc, ◌+◌, ◌-◌, Bool, true, false, List, [], ◌∷◌, ◌++◌, length, set, refl, ap, sym, ◌∙◌, arith, append_assoc, length-append}
use Rattle.std.specs.Prelude.{nat_lt, if◌then◌else◌}
use Rattle.std.proofs.lemmas.Bool.{lt-ltb}
use Rattle.ansi_style.specs.declared.style.Style.{Style}
use Rattle.ansi_screen.specs.declared.cell.Cell.{Cell}
use Rattle.ansi_screen.specs.declared.cell.Part.TheVariants.{Empty}
use Rattle.ansi_screen.specs.Cells.{plain_cell, emptied, is_right, cell_at, cut, within, change}
use Rattle.screen_draw.proofs.CanvasLemmas.{at-front, set-front, within-front, cut-free}

-- A right half without its left one is a space, in a style that is told;
abbrev pub mended : (Cell → Style) → Cell → Cell
mended styled x = if is_right x.part then plain_cell 0x20 (styled x) Empty else x

abbrev pub first_mended : (Cell → Style) → List Cell → List Cell
first_mended styled [] = []
first_mended styled (x ∷ xs) = mended styled x ∷ xs

-- in its own, where a change has taken the left one.
abbrev pub own_style : Cell → Style
own_style x = x.style

abbrev pub broken : List Cell → List Cell
broken xs = first_mended own_style xs

module _ (styled : Cell → Style) where
  mended_at : (x : Cell) (t : Bool) → is_right x.part ≡ t → is_right (mended styled x).part ≡ false
  mended_at x true is = rw is refl
  mended_at x false is = ap (λ (u : Bool). is_right (if u then plain_cell 0x20 (styled x) Empty else x).part) is ∙ is

  pub mended-free : (x : Cell) → is_right (mended styled x).part ≡ false
  mended-free x = mended_at x _ refl

  mended-none_at : (x : Cell) (t : Bool) → is_right x.part ≡ t → x.goes_on ≡ false → (mended styled x).goes_on ≡ false
  mended-none_at x true is none = rw is refl
  mended-none_at x false is none = rw is none

  pub mended-none : (x : Cell) → x.goes_on ≡ false → (mended styled x).goes_on ≡ false
  mended-none x none = mended-none_at x _ refl none

  pub mended-same : (x : Cell) → is_right x.part ≡ false → mended styled x ≡ x
  mended-same x free = rw free refl

  pub mended-first : (xs : List Cell) → is_right (cell_at 0 xs).part ≡ false → first_mended styled xs ≡ xs
  mended-first [] free = refl
  mended-first (x ∷ xs) free = ap (λ y. y ∷ xs) (mended-same x free)

  pub mended-append : (xs back : List Cell) → is_right (cell_at 0 back).part ≡ false → first_mended styled (xs ++ back) ≡ first_mended styled xs ++ back
  mended-append [] back free = mended-first back free
  mended-append (x ∷ xs) back free = refl

-- the cut behind one cell
abbrev Cut : List Cell → Cell → List Cell → Type 0
Cut front z back =
    (y : Cell) × (cut (length front + 1) (front ++ (z ∷ back)) ≡ front ++ (y ∷ broken back)) × (is_right z.part ≡ false → is_right y.part ≡ false)

cut-half : (front : List Cell) (z b : Cell) (bs : List Cell) (t : Bool) → is_right b.part ≡ t → Cut front z (b ∷ bs)
unfolding cut
cut-half front z b bs true is =
    let place : ℕ = length front + 1 in
    let cells : List Cell = front ++ (z ∷ (b ∷ bs)) in
    let there : cell_at place cells ≡ b = at-front front (z ∷ (b ∷ bs)) 1 place (omega arith) in
    let positive : nat_lt 0 place ≡ true = lt-ltb 0 place (omega arith) in
    let last : place - 1 ≡ length front = omega arith in
    let before : cell_at (length front) cells ≡ z = at-front front (z ∷ (b ∷ bs)) 0 (length front) (omega arith) in
    let first : List Cell = front ++ emptied z ∷ [] in
    let long : length first ≡ place = omega (arith, length-append front (emptied z ∷ [])) in
    let one : set cells (length front) (emptied z) ≡ front ++ (emptied z ∷ (b ∷ bs)) = set-front front (b ∷ bs) z (emptied z) in
    let two : set (front ++ (emptied z ∷ (b ∷ bs))) place (emptied b) ≡ front ++ (emptied z ∷ (emptied b ∷ bs)) =
    ap (λ l. set l place (emptied b)) (sym (append_assoc front (emptied z ∷ []) (b ∷ bs)))
    ∙ (ap (λ k. set (first ++ (b ∷ bs)) k (emptied b)) (sym long)
    ∙ (set-front first bs b (emptied b) ∙ append_assoc front (emptied z ∷ []) (emptied b ∷ bs))) in
    (emptied z, rw (there, positive, is, last, before, one) two, λ free. refl)
cut-half front z b bs false is =
    let there : cell_at (length front + 1) (front ++ (z ∷ (b ∷ bs))) ≡ b = at-front front (z ∷ (b ∷ bs)) 1 (length front + 1) (omega arith) in (
      z,
      cut-free (length front + 1) (front ++ (z ∷ (b ∷ bs))) (ap (λ (x : Cell). is_right x.part) there ∙ is)
          ∙ ap (λ y. front ++ (z ∷ (y ∷ bs))) (sym (mended-same own_style b is)),
      λ free. free,
    )

cut-last : (front : List Cell) (z : Cell) (back : List Cell) → Cut front z back
cut-last front z [] =
    let there : cell_at (length front + 1) (front ++ (z ∷ [])) ≡ cell_at 1 (z ∷ []) = at-front front (z ∷ []) 1 (length front + 1) (omega arith) in
    (z, cut-free (length front + 1) (front ++ (z ∷ [])) (ap (λ (x : Cell). is_right x.part) there), λ free. free)
cut-last front z (b ∷ bs) = cut-half front z b bs _ refl

-- behind several
cut-any : (front : List Cell) (x : Cell) (xs back : List Cell)
    → (mid : List Cell) × (length mid ≡ suc (length xs)) × (cut (length front + suc (length xs)) (front ++ ((x ∷ xs) ++ back)) ≡ front ++ (mid ++ broken back))
cut-any front x [] back = let (z, is, free) = cut-last front x back in (z ∷ [], refl, is)
cut-any front x (m ∷ ms) back =
    let next : List Cell = front ++ x ∷ [] in
    let (mid, long, is) = cut-any next m ms back in
    let place : length next + suc (length ms) ≡ length front + suc (suc (length ms)) = omega (arith, length-append front (x ∷ [])) in (
      x ∷ mid,
      ap suc long,
      ap (λ k. cut k (front ++ (x ∷ (m ∷ (ms ++ back))))) (sym place)
          ∙ (ap (cut (length next + suc (length ms))) (sym (append_assoc front (x ∷ []) ((m ∷ ms) ++ back)))
          ∙ (is ∙ append_assoc front (x ∷ []) (mid ++ broken back))),
    )

cut-mid : (front : List Cell) (x : Cell) (xs back : List Cell) → is_right x.part ≡ false
    → (mid : List Cell) × (length mid ≡ suc (length xs)) × (is_right (cell_at 0 (mid ++ broken back)).part ≡ false)
    × (cut (length front + suc (length xs)) (front ++ ((x ∷ xs) ++ back)) ≡ front ++ (mid ++ broken back))
cut-mid front x [] back first = let (z, is, free) = cut-last front x back in (z ∷ [], refl, free first, is)
cut-mid front x (m ∷ ms) back first =
    let next : List Cell = front ++ x ∷ [] in
    let (mid, long, is) = cut-any next m ms back in
    let place : length next + suc (length ms) ≡ length front + suc (suc (length ms)) = omega (arith, length-append front (x ∷ [])) in (
      x ∷ mid,
      ap suc long,
      first,
      ap (λ k. cut k (front ++ (x ∷ (m ∷ (ms ++ back))))) (sym place)
          ∙ (ap (cut (length next + suc (length ms))) (sym (append_assoc front (x ∷ []) ((m ∷ ms) ++ back)))
          ∙ (is ∙ append_assoc front (x ∷ []) (mid ++ broken back))),
    )

-- a change of cells, the first of which is no right half, to others that only their number determines
pub change-broken : (front : List Cell) (x : Cell) (xs back : List Cell) (how : List Cell → List Cell) (made : List Cell) → is_right x.part ≡ false
    → ((mid : List Cell) → length mid ≡ suc (length xs) → how mid ≡ made)
    → change (length front) (length front + suc (length xs)) how (front ++ ((x ∷ xs) ++ back)) ≡ front ++ (made ++ broken back)
change-broken front x xs back how made free same =
    let start : ℕ = length front in
    let end : ℕ = length front + suc (length xs) in
    let (mid, long, first, is) = cut-mid front x xs back free in
    let whole : cut start (front ++ (mid ++ broken back)) ≡ front ++ (mid ++ broken back) =
    cut-free start (front ++ (mid ++ broken back)) (ap (λ (y : Cell). is_right y.part) (at-front front (mid ++ broken back) 0 start (omega arith)) ∙ first) in
    ap (λ cells. within start end how (cut start cells)) is
    ∙ (ap (within start end how) whole
    ∙ (ap (λ k. within start (start + k) how (front ++ (mid ++ broken back))) (sym long)
    ∙ (within-front front mid (broken back) how ∙ ap (λ l. front ++ (l ++ broken back)) (same mid long))))
