-- Characters of one column each, one after another: all at once.
use Rattle.std.proofs.Common.{◌≡◌, ℕ, zero, suc, ◌+◌, ◌-◌, ◌<◌, ◌≤◌, Bool, true, false, ◌&&◌, List, [], ◌∷◌, ◌++◌, length, get_or, take, drop, set, map, refl, ap, sym, ◌∙◌, arith}
use Rattle.std.specs.Prelude.{nat_lt, replicate, Option, None, if◌then◌else◌}
use Rattle.std.proofs.Math.Seq.{drop-cons}
use Rattle.std.proofs.lemmas.Bool.{lt-ltb, and_right}
use Rattle.std.proofs.lemmas.List.{append_assoc, length-append, length-map, length-set, length-take-le, length-drop, drop-drop, drop_at, take_at, take-set-le, drop-set-lt, drop-set, set_at, take-append-drop, take_more, map-append, length-take, drop_more, get_or_at, get_or-replicate, length-replicate, get_or-take, get_or-drop, get_or_default, same_lists}
use Rattle.ansi_style.specs.declared.style.Style.{Style}
use Rattle.ansi_style.specs.Style.{plain}
use Rattle.ansi_screen.specs.declared.cell.Cell.{Cell}
use Rattle.ansi_screen.specs.declared.cell.Part.TheVariants.{Whole}
use Rattle.ansi_screen.specs.Cells.{blank, printed_cell, emptied, is_right, cell_at, cut, within, change}
use Rattle.ansi_screen.specs.Grid.{IsBlankFrom}
use Rattle.ansi_screen.specs.Print.{glyph}
use Rattle.ansi_screen.specs.Reachable.{left_style, ArePaired}
use Rattle.ansi_screen.specs.Runs.{glyphs, with_glyphs}
use Rattle.ansi_screen.proofs.CellLemmas.{cut-none, cut-first}
use Rattle.ansi_screen.proofs.PairLemmas.{left-not-right, behind-left_at, some-right}

-- whether a right half stands at a place
abbrev pub right_at : ℕ → List Cell → Bool
right_at place cells = is_right (cell_at place cells).part

-- the cells behind a border, once a wide character on it is cut
abbrev pub mended : List Cell → List Cell
mended [] = []
mended (x ∷ xs) = (if is_right x.part then emptied x else x) ∷ xs

mended-if : (t : Bool) (x : Cell) → is_right x.part ≡ t
    → (if is_right (if is_right x.part then emptied x else x).part then emptied (if is_right x.part then emptied x else x) else (if is_right x.part then emptied x else x)) ≡ (if is_right x.part then emptied x else x)
mended-if true x is = rw is refl
mended-if false x is = rw (is, is) refl

mended-twice : (xs : List Cell) → mended (mended xs) ≡ mended xs
mended-twice [] = refl
mended-twice (x ∷ xs) = ap (λ y. y ∷ xs) (mended-if (is_right x.part) x refl)

mended-later : (n : ℕ) (xs : List Cell) → mended (drop n (mended xs)) ≡ mended (drop n xs)
mended-later zero xs = mended-twice xs
mended-later (suc n) [] = refl
mended-later (suc n) (x ∷ xs) = refl

mended-right : (place : ℕ) (cells : List Cell) → right_at place cells ≡ true
    → mended (drop place cells) ≡ emptied (cell_at place cells) ∷ drop (suc place) cells
mended-right place [] is = cc is
mended-right zero (x ∷ cells) is = rw is refl
mended-right (suc place) (x ∷ cells) is = mended-right place cells is

mended-other : (place : ℕ) (cells : List Cell) → right_at place cells ≡ false → mended (drop place cells) ≡ drop place cells
mended-other zero [] is = refl
mended-other (suc place) [] is = refl
mended-other zero (x ∷ cells) is = rw is refl
mended-other (suc place) (x ∷ cells) is = mended-other place cells is

pub right-inside : (place : ℕ) (cells : List Cell) → right_at place cells ≡ true → place < length cells
right-inside place [] is = cc is
right-inside zero (x ∷ cells) is = omega arith
right-inside (suc place) (x ∷ cells) is = let inside = right-inside place cells is in omega arith

-- a cut on a border: as it stands, where a right half stands there, and where none does
pub cut-on : (place : ℕ) (cells : List Cell) → right_at (suc place) cells ≡ true
    → cut (suc place) cells ≡ set (set cells place (emptied (cell_at place cells))) (suc place) (emptied (cell_at (suc place) cells))
unfolding cut
cut-on place cells is =
    let some : nat_lt 0 (suc place) ≡ true = lt-ltb 0 (suc place) (omega arith) in
    let before : suc place - 1 ≡ place = omega arith in
    rw (some, is, before) refl

pub cut-off : (place : ℕ) (cells : List Cell) → right_at place cells ≡ false → cut place cells ≡ cells
cut-off place cells is = sym (cut-none cells place (and_right (nat_lt 0 place) (right_at place cells) is))

-- what stands behind it
drop-cut-if : (t : Bool) (place : ℕ) (cells : List Cell) → right_at (suc place) cells ≡ t
    → drop (suc place) (cut (suc place) cells) ≡ mended (drop (suc place) cells)
drop-cut-if true place cells is =
    let e : Cell = emptied (cell_at place cells) in
    let r : Cell = emptied (cell_at (suc place) cells) in
    let inside : suc place < length (set cells place e) = rw (length-set cells place e) (right-inside (suc place) cells is) in
    let next : suc place + 1 ≡ suc (suc place) = omega arith in
    ap (drop (suc place)) (cut-on place cells is)
    ∙ (drop-set (set cells place e) (suc place) r inside
    ∙ (ap (λ n. r ∷ drop n (set cells place e)) next
    ∙ (ap (λ l. r ∷ l) (drop-set-lt (suc (suc place)) cells place e (omega arith))
    ∙ sym (mended-right (suc place) cells is))))
drop-cut-if false place cells is = ap (drop (suc place)) (cut-off (suc place) cells is) ∙ sym (mended-other (suc place) cells is)

pub drop-cut : (place : ℕ) (cells : List Cell) → drop (suc place) (cut (suc place) cells) ≡ mended (drop (suc place) cells)
drop-cut place cells = drop-cut-if (right_at (suc place) cells) place cells refl

-- what stands further behind
drop-past-if : (t : Bool) (n place : ℕ) (cells : List Cell) → place < n → right_at place cells ≡ t → drop n (cut place cells) ≡ drop n cells
drop-past-if true n zero cells past is = ap (drop n) (sym (cut-first cells 0 (omega arith)))
drop-past-if true n (suc place) cells past is =
    ap (drop n) (cut-on place cells is)
    ∙ (drop-set-lt n (set cells place (emptied (cell_at place cells))) (suc place) (emptied (cell_at (suc place) cells)) past
    ∙ drop-set-lt n cells place (emptied (cell_at place cells)) (omega arith))
drop-past-if false n place cells past is = ap (drop n) (cut-off place cells is)

pub drop-past : (n place : ℕ) (cells : List Cell) → place < n → drop n (cut place cells) ≡ drop n cells
drop-past n place cells past = drop-past-if (right_at place cells) n place cells past refl

-- what stands before it
take-cut-if : (t : Bool) (n place : ℕ) (cells : List Cell) → n ≤ place → right_at (suc place) cells ≡ t → take n (cut (suc place) cells) ≡ take n cells
take-cut-if true n place cells before is =
    ap (take n) (cut-on place cells is)
    ∙ (take-set-le n (set cells place (emptied (cell_at place cells))) (suc place) (emptied (cell_at (suc place) cells)) (omega arith)
    ∙ take-set-le n cells place (emptied (cell_at place cells)) before)
take-cut-if false n place cells before is = ap (take n) (cut-off (suc place) cells is)

pub take-cut : (n place : ℕ) (cells : List Cell) → n ≤ place → take n (cut (suc place) cells) ≡ take n cells
take-cut n place cells before = take-cut-if (right_at (suc place) cells) n place cells before refl

-- Where no right half stands, none does once the next border is cut.
pub other-set : (place : ℕ) (cells : List Cell) (e r : Cell) → is_right e.part ≡ false → right_at place (set (set cells place e) (suc place) r) ≡ false
other-set place [] e r is = refl
other-set zero (x ∷ cells) e r is = is
other-set (suc place) (x ∷ cells) e r is = other-set place cells e r is

other-cut-if : (t : Bool) (place : ℕ) (cells : List Cell) → right_at (suc place) cells ≡ t → right_at place cells ≡ false → right_at place (cut (suc place) cells) ≡ false
other-cut-if true place cells is other =
    ap (right_at place) (cut-on place cells is) ∙ other-set place cells (emptied (cell_at place cells)) (emptied (cell_at (suc place) cells)) refl
other-cut-if false place cells is other = ap (right_at place) (cut-off (suc place) cells is) ∙ other

other-cut : (place : ℕ) (cells : List Cell) → right_at place cells ≡ false → right_at place (cut (suc place) cells) ≡ false
other-cut place cells other = other-cut-if (right_at (suc place) cells) place cells refl other

pub length-cut : (place : ℕ) (cells : List Cell) → length (cut place cells) ≡ length cells
unfolding cut
length-cut place cells = by (nat_lt 0 place && right_at place cells)
  where
    by : (t : Bool) → length (if t then set (set cells (place - 1) (emptied (cell_at (place - 1) cells))) place (emptied (cell_at place cells)) else cells) ≡ length cells
    by true = length-set (set cells (place - 1) (emptied (cell_at (place - 1) cells))) place (emptied (cell_at place cells)) ∙ length-set cells (place - 1) (emptied (cell_at (place - 1) cells))
    by false = refl

-- the place behind a mended border
right-mended : (x : Cell) (front xs : List Cell) (place : ℕ) → length front + 1 ≡ place → right_at place (front ++ (x ∷ mended xs)) ≡ false
right-mended x [] [] place long = at place (omega (arith, long))
  where
    at : (n : ℕ) → n ≡ 1 → right_at n (x ∷ []) ≡ false
    at n is = rw is refl
right-mended x [] (y ∷ xs) place long = at place (omega (arith, long))
  where
    by : (t : Bool) → is_right y.part ≡ t → is_right (if is_right y.part then emptied y else y).part ≡ false
    by true is = rw is refl
    by false is = rw is is

    at : (n : ℕ) → n ≡ 1 → right_at n (x ∷ mended (y ∷ xs)) ≡ false
    at n is = rw is (by (is_right y.part) refl)
right-mended x (z ∷ front) xs zero long = absurd (omega (arith, long))
right-mended x (z ∷ front) xs (suc place) long = right-mended x front xs place (omega (arith, long))

length-mended : (xs : List Cell) → length (mended xs) ≡ length xs
length-mended [] = refl
length-mended (x ∷ xs) = refl

-- one character
one-put : (x : Cell) (place : ℕ) (cells : List Cell)
    → change place (place + 1) (λ run. x ∷ []) cells ≡ take place (cut place (cut (suc place) cells)) ++ (x ∷ mended (drop (suc place) cells))
one-put x place cells =
    let all : List Cell = cut place (cut (suc place) cells) in
    let next : place + 1 ≡ suc place = omega arith in
    let there : place + (suc place - place) ≡ suc place = omega arith in
    ap (λ n. take place (cut place (cut n cells)) ++ (x ∷ drop (n - place) (drop place (cut place (cut n cells))))) next
    ∙ ap (λ l. take place all ++ (x ∷ l))
    (drop-drop (suc place - place) place all
    ∙ (ap (λ n. drop n all) there
    ∙ (drop-past (suc place) place (cut (suc place) cells) (omega arith)
    ∙ drop-cut place cells)))

-- what a run of them leaves, if it puts them behind a front that stays
abbrev Puts : ℕ → List ℕ → Style → ℕ → (front cells : List Cell) → Type 0
Puts place text style link front cells =
    with_glyphs place text style link cells ≡ front ++ (glyphs text style link ++ mended (drop (place + length text) cells))

-- and one character before them
module _ (c : ℕ) (text : List ℕ) (style : Style) (link : ℕ)
    (rest : (place : ℕ) (cells : List Cell) → right_at place cells ≡ false → place + length text ≤ length cells → Puts place text style link (take place cells) cells) where
  puts-more : (place : ℕ) (front cells : List Cell) → length front ≡ place → place + length (c ∷ text) ≤ length cells
      → change place (place + 1) (λ run. glyph 1 c style link) cells ≡ front ++ (printed_cell c style link Whole ∷ mended (drop (suc place) cells))
      → Puts place (c ∷ text) style link front cells
  puts-more place front cells long inside put =
      let x : Cell = printed_cell c style link Whole in
      let behind : List Cell = mended (drop (suc place) cells) in
      let put_cells : List Cell = change place (place + 1) (λ run. glyph 1 c style link) cells in
      let some : List Cell = front ++ x ∷ [] in
      let parts : put_cells ≡ some ++ behind = put ∙ sym (append_assoc front (x ∷ []) behind) in
      let some_long : length some ≡ place + 1 = omega (arith, length-append front (x ∷ []), long) in
      let put_long : length put_cells ≡ length cells =
      ap length parts ∙ omega (arith, length-append some behind, some_long, length-mended (drop (suc place) cells), length-drop (suc place) cells, inside) in
      let other : right_at (place + 1) put_cells ≡ false =
      ap (right_at (place + 1)) put ∙ right-mended x front (drop (suc place) cells) (place + 1) (omega (arith, long)) in
      let first : take (place + 1) put_cells ≡ some = ap (take (place + 1)) parts ∙ take_at some behind (place + 1) some_long in
      let last : drop (place + 1 + length text) put_cells ≡ drop (length text) behind =
      sym (drop-drop (length text) (place + 1) put_cells) ∙ ap (drop (length text)) (ap (drop (place + 1)) parts ∙ drop_at some behind (place + 1) some_long) in
      let end : mended (drop (length text) behind) ≡ mended (drop (place + length (c ∷ text)) cells) =
      mended-later (length text) (drop (suc place) cells)
      ∙ ap mended (drop-drop (length text) (suc place) cells ∙ ap (λ n. drop n cells) (omega arith)) in
      rest (place + 1) put_cells other (omega (arith, put_long, inside))
      ∙ (ap (λ l. l ++ (glyphs text style link ++ mended (drop (place + 1 + length text) put_cells))) first
      ∙ (ap (λ l. some ++ (glyphs text style link ++ l)) (ap mended last ∙ end)
      ∙ append_assoc front (x ∷ []) (glyphs text style link ++ mended (drop (place + length (c ∷ text)) cells))))

-- a run where no right half stands
puts-kept : (text : List ℕ) (place : ℕ) (style : Style) (link : ℕ) (cells : List Cell) → right_at place cells ≡ false
    → place + length text ≤ length cells → Puts place text style link (take place cells) cells
puts-kept [] place style link cells other inside =
    let none : place ≡ place + length {A = ℕ} [] = omega arith in
    sym (take-append-drop place cells)
    ∙ ap (λ l. take place cells ++ l) (sym (mended-other place cells other) ∙ ap (λ n. mended (drop n cells)) none)
puts-kept (c ∷ text) place style link cells other inside =
    let x : Cell = printed_cell c style link Whole in
    let front : take place (cut place (cut (suc place) cells)) ≡ take place cells =
    ap (take place) (cut-off place (cut (suc place) cells) (other-cut place cells other)) ∙ take-cut place place cells (omega arith) in
    puts-more c text style link (λ at all. puts-kept text at style link all) place (take place cells) cells
    (length-take-le place cells (omega (arith, inside))) inside
    (one-put x place cells ∙ ap (λ l. l ++ (x ∷ mended (drop (suc place) cells))) front)

-- any run of some characters
puts-any : (c : ℕ) (text : List ℕ) (place : ℕ) (style : Style) (link : ℕ) (cells : List Cell) → place + length (c ∷ text) ≤ length cells
    → Puts place (c ∷ text) style link (take place (cut place (cut (suc place) cells))) cells
puts-any c text place style link cells inside =
    let all : List Cell = cut place (cut (suc place) cells) in
    let long : length all ≡ length cells = length-cut place (cut (suc place) cells) ∙ length-cut (suc place) cells in
    puts-more c text style link (λ at other. puts-kept text at style link other) place (take place all) cells
    (length-take-le place all (omega (arith, long, inside))) inside (one-put (printed_cell c style link Whole) place cells)

-- So three cuts do, before all of them are put.
put-all : (text : List ℕ) (place : ℕ) (style : Style) (link : ℕ) (cells first second third new : List Cell)
    → 0 < length text → place + length text ≤ length cells
    → first ≡ cut (place + 1) cells → second ≡ cut place first → third ≡ cut (place + length text) second
    → new ≡ glyphs text style link
    → take place third ++ (new ++ drop (place + length text) third) ≡ with_glyphs place text style link cells
put-all [] place style link cells first second third new some inside e f g h = absurd (omega (arith, some))
put-all (c ∷ text) place style link cells first second third new some inside e f g h =
    let all : List Cell = cut place (cut (suc place) cells) in
    let next : place + 1 ≡ suc place = omega arith in
    let end : place + length (c ∷ text) ≡ suc (place + length text) = omega arith in
    let second_is : second ≡ all = f ∙ ap (cut place) (e ∙ ap (λ n. cut n cells) next) in
    let third_is : third ≡ cut (suc (place + length text)) all = g ∙ (ap (λ n. cut n second) end ∙ ap (cut (suc (place + length text))) second_is) in
    let front : take place third ≡ take place all = ap (take place) third_is ∙ take-cut place (place + length text) all (omega arith) in
    let later : suc (place + length text) ≡ suc place + length text = omega arith in
    let from : (l : List Cell) → drop (suc (place + length text)) l ≡ drop (length text) (drop (suc place) l) =
    λ l. ap (λ n. drop n l) later ∙ sym (drop-drop (length text) (suc place) l) in
    let behind : drop (suc (place + length text)) third ≡ mended (drop (place + length (c ∷ text)) cells) =
    ap (drop (suc (place + length text))) third_is
    ∙ (drop-cut (place + length text) all
    ∙ (ap mended (drop-past (suc (place + length text)) place (cut (suc place) cells) (omega arith) ∙ (from (cut (suc place) cells) ∙ ap (drop (length text)) (drop-cut place cells)))
    ∙ (mended-later (length text) (drop (suc place) cells)
    ∙ ap mended (sym (from cells) ∙ ap (λ n. drop n cells) (sym end))))) in
    ap (λ l. l ++ (new ++ drop (place + length (c ∷ text)) third)) front
    ∙ (ap (λ l. take place all ++ (new ++ l)) (ap (λ n. drop n third) end ∙ behind)
    ∙ (ap (λ l. take place all ++ (l ++ mended (drop (place + length (c ∷ text)) cells))) h
    ∙ sym (puts-any c text place style link cells inside)))

pub put-run : (text : List ℕ) (place : ℕ) (style : Style) (link : ℕ) (cells first second third new : List Cell)
    → 0 < length text → place + length text ≤ length cells
    → first ≡ cut (place + 1) cells → second ≡ cut place first → third ≡ cut (place + length text) second
    → new ≡ glyphs text style link
    → take place third ++ (new ++ drop (place + length text - place) (drop place third)) ≡ with_glyphs place text style link cells
put-run text place style link cells first second third new some inside e f g h =
    let there : place + (place + length text - place) ≡ place + length text = omega arith in
    ap (λ l. take place third ++ (new ++ l)) (drop-drop (place + length text - place) place third ∙ ap (λ n. drop n third) there)
    ∙ put-all text place style link cells first second third new some inside e f g h

-- Of two halves that stand side by side, the first is no right one where the second is.
pub right-behind : (place : ℕ) (before : Option Style) (cells : List Cell) → ArePaired before cells → right_at (suc place) cells ≡ true → right_at place cells ≡ false
right-behind place before [] are half = cc half
right-behind place before (a ∷ []) are half = cc half
right-behind zero before (a ∷ b ∷ cells) are half =
    left-not-right a.part (behind-left_at a b.style _ refl (sym are.1.0 ∙ some-right b half))
right-behind (suc place) before (a ∷ b ∷ cells) are half = right-behind place (left_style a) (b ∷ cells) are.1 half

-- So a cut behind the first cell leaves what stands before it as it is.
front-cut-if : (t : Bool) (place : ℕ) (cells : List Cell) → ArePaired None cells → right_at (suc place) cells ≡ t
    → take place (cut place (cut (suc place) cells)) ≡ take place (cut place cells)
front-cut-if true place cells are is =
    let other : right_at place cells ≡ false = right-behind place None cells are is in
    ap (take place) (cut-off place (cut (suc place) cells) (other-cut place cells other))
    ∙ (take-cut place place cells (omega arith) ∙ ap (take place) (sym (cut-off place cells other)))
front-cut-if false place cells are is = ap (λ l. take place (cut place l)) (cut-off (suc place) cells is)

-- So two cuts do, where halves stand in pairs.
put-all-paired : (text : List ℕ) (place : ℕ) (style : Style) (link : ℕ) (cells first second new : List Cell)
    → 0 < length text → place + length text ≤ length cells → ArePaired None cells
    → first ≡ cut place cells → second ≡ cut (place + length text) first
    → new ≡ glyphs text style link
    → take place second ++ (new ++ drop (place + length text) second) ≡ with_glyphs place text style link cells
put-all-paired [] place style link cells first second new some inside are e f h = absurd (omega (arith, some))
put-all-paired (c ∷ text) place style link cells first second new some inside are e f h =
    let end : ℕ = place + length text in
    let last : place + length (c ∷ text) ≡ suc end = omega arith in
    let second_is : second ≡ cut (suc end) (cut place cells) = f ∙ (ap (λ n. cut n first) last ∙ ap (cut (suc end)) e) in
    let front : take place second ≡ take place (cut place (cut (suc place) cells)) =
    ap (take place) second_is
    ∙ (take-cut place end (cut place cells) (omega arith) ∙ sym (front-cut-if (right_at (suc place) cells) place cells are refl)) in
    let behind : drop (suc end) second ≡ mended (drop (suc end) cells) =
    ap (drop (suc end)) second_is
    ∙ (drop-cut end (cut place cells) ∙ ap mended (drop-past (suc end) place cells (omega arith))) in
    ap (λ l. l ++ (new ++ drop (place + length (c ∷ text)) second)) front
    ∙ (ap (λ l. take place (cut place (cut (suc place) cells)) ++ (new ++ l)) (ap (λ n. drop n second) last ∙ (behind ∙ ap (λ n. mended (drop n cells)) (sym last)))
    ∙ (ap (λ l. take place (cut place (cut (suc place) cells)) ++ (l ++ mended (drop (place + length (c ∷ text)) cells))) h
    ∙ sym (puts-any c text place style link cells inside)))

pub put-run-paired : (text : List ℕ) (place : ℕ) (style : Style) (link : ℕ) (cells first second new : List Cell)
    → 0 < length text → place + length text ≤ length cells → ArePaired None cells
    → first ≡ cut place cells → second ≡ cut (place + length text) first
    → new ≡ glyphs text style link
    → take place second ++ (new ++ drop (place + length text - place) (drop place second)) ≡ with_glyphs place text style link cells
put-run-paired text place style link cells first second new some inside are e f h =
    let there : place + (place + length text - place) ≡ place + length text = omega arith in
    ap (λ l. take place second ++ (new ++ l)) (drop-drop (place + length text - place) place second ∙ ap (λ n. drop n second) there)
    ∙ put-all-paired text place style link cells first second new some inside are e f h

-- one cell more
pub fill-more : (run : List ℕ) (i : ℕ) (style : Style) (link : ℕ) (x : Cell) (cells initial : List Cell) → i < length run
    → length initial ≡ length run → x ≡ printed_cell (get_or run i 0) style link Whole
    → cells ≡ glyphs (take i run) style link ++ drop i initial
    → set cells i x ≡ glyphs (take (i + 1) run) style link ++ drop (i + 1) initial
fill-more run i style link x cells initial inside long is so_far =
    let g : ℕ → Cell = λ c. printed_cell c style link Whole in
    let front : List Cell = glyphs (take i run) style link in
    let there : i < length initial = omega arith in
    let next : suc i ≡ i + 1 = omega arith in
    let parted : drop i initial ≡ get_or initial i (blank plain) ∷ drop (i + 1) initial =
    drop-cons initial i (blank plain) there ∙ ap (λ n. get_or initial i (blank plain) ∷ drop n initial) next in
    let front_long : length front ≡ i = omega (arith, length-map (take i run) g, length-take i run, inside) in
    ap (λ l. set l i x) (so_far ∙ ap (λ l. front ++ l) parted)
    ∙ (set_at front (get_or initial i (blank plain)) (drop (i + 1) initial) x i front_long
    ∙ (ap (λ y. front ++ y ∷ drop (i + 1) initial) is
    ∙ (sym (append_assoc front (g (get_or run i 0) ∷ []) (drop (i + 1) initial))
    ∙ ap (λ l. l ++ drop (i + 1) initial) (sym (ap (map g) (take_more run i 0 inside) ∙ map-append g (take i run) (get_or run i 0 ∷ []))))))

-- where the others are alike, the next one of them
pub next-alike : (run : List ℕ) (i : ℕ) (style : Style) (link : ℕ) (space d : Cell) (cells : List Cell) → i < length run
    → cells ≡ glyphs (take i run) style link ++ drop i (replicate (length run) space) → get_or cells i d ≡ space
next-alike run i style link space d cells inside so_far =
    let spaces : List Cell = replicate (length run) space in
    let g : ℕ → Cell = λ character. printed_cell character style link Whole in
    let front : List Cell = glyphs (take i run) style link in
    let front_long : length front ≡ i = omega (arith, length-map (take i run) g, length-take i run, inside) in
    let first : drop i spaces ≡ space ∷ drop (i + 1) spaces =
    drop_more spaces i d (omega (arith, length-replicate (length run) space, inside)) ∙ ap (λ x. x ∷ drop (i + 1) spaces) (get_or-replicate (length run) i space d inside) in
    ap (λ l. get_or l i d) (so_far ∙ ap (λ l. front ++ l) first) ∙ get_or_at front space (drop (i + 1) spaces) d i front_long

-- the same where the others are alike, and the cell gets its character alone
pub fill-on : (run : List ℕ) (i : ℕ) (style : Style) (link c : ℕ) (d : Cell) (cells : List Cell) → i < length run
    → c ≡ get_or run i 0
    → cells ≡ glyphs (take i run) style link ++ drop i (replicate (length run) (printed_cell 0x20 style link Whole))
    → set cells i (record (get_or cells i d) { character = c })
    ≡ glyphs (take (i + 1) run) style link ++ drop (i + 1) (replicate (length run) (printed_cell 0x20 style link Whole))
fill-on run i style link c d cells inside is so_far =
    let space : Cell = printed_cell 0x20 style link Whole in
    let spaces : List Cell = replicate (length run) space in
    let g : ℕ → Cell = λ character. printed_cell character style link Whole in
    let long : length spaces ≡ length run = length-replicate (length run) space in
    ap (λ (x : Cell). set cells i (record x { character = c })) (next-alike run i style link space d cells inside so_far)
    ∙ fill-more run i style link (g c) cells spaces inside long (ap g is) so_far

-- Where all are plain blanks from a place on, so many are there,
pub blanks-there : (place : ℕ) (text : List ℕ) (cells : List Cell) → place + length text ≤ length cells → IsBlankFrom place cells
    → take (place + length text - place) (drop place cells) ≡ replicate (length text) (blank plain)
blanks-there place text cells inside are =
    let n = length text in
    let same : place + n - place ≡ n = omega arith in
    ap (λ k. take k (drop place cells)) same
    ∙ same_lists (take n (drop place cells)) (replicate n (blank plain))
    (omega (arith, length-take n (drop place cells), length-drop place cells, length-replicate n (blank plain), inside))
    (λ k d below.
    let few : k < n = omega (arith, below, length-take n (drop place cells)) in
    get_or-take n (drop place cells) k d few
    ∙ (get_or-drop place cells k d
    ∙ (get_or_default cells (place + k) d (blank plain) (omega (arith, few, inside))
    ∙ (are (place + k) (omega arith) ∙ sym (get_or-replicate n k (blank plain) d few)))))

-- nothing is cut there,
pub cut-blank : (from place : ℕ) (cells : List Cell) → IsBlankFrom from cells → from ≤ place → cells ≡ cut place cells
cut-blank from place cells are past =
    cut-none cells place (and_right (nat_lt 0 place) (is_right (cell_at place cells).part) (ap (λ (x : Cell). is_right x.part) (are place past)))

pub change-blank : (start end : ℕ) (how : List Cell → List Cell) (cells : List Cell) → IsBlankFrom start cells → start ≤ end
    → within start end how cells ≡ change start end how cells
change-blank start end how cells blanks order =
    ap (within start end how) (cut-blank start start cells blanks (omega arith) ∙ ap (cut start) (cut-blank start end cells blanks order))

-- and characters that are put there stand for them.
pub put-on-blanks : (text : List ℕ) (place : ℕ) (style : Style) (link : ℕ) (cells new : List Cell)
    → 0 < length text → place + length text ≤ length cells → IsBlankFrom place cells
    → new ≡ glyphs text style link
    → take place cells ++ (new ++ drop (place + length text - place) (drop place cells)) ≡ with_glyphs place text style link cells
put-on-blanks text place style link cells new some inside blanks is =
    put-run text place style link cells cells cells cells new some inside (cut-blank place (place + 1) cells blanks (omega arith))
    (cut-blank place place cells blanks (omega arith)) (cut-blank place (place + length text) cells blanks (omega arith)) is
