-- A grid's rows, in an order, as one list of cells: what is done to a row, or to rows, is done to a part of that.
use Rattle.std.proofs.Common.{◌≡◌, ℕ, zero, suc, ◌+◌, ◌-◌, ◌*◌, ◌<◌, ◌≤◌, Bool, true, false, List, [], ◌∷◌, ◌++◌, length, get_or, take, drop, set, refl, ap, ap₂, sym, ◌∙◌, inl, inr, arith}
use Rattle.std.specs.Prelude.{min, replicate, nat_lt, nat_eq, if◌then◌else◌, None}
use Rattle.std.specs.List.{AllByRecursion}
use Rattle.std.proofs.lemmas.Bool.{lt-ltb, and_right, cases_lt, false≢true}
use Rattle.std.proofs.lemmas.List.{take_at, drop_at, set_split, append_assoc, length-append, length-take-le, length-drop, replicate-append-replicate, drop-append-le, take-append-le, take-append-drop, take_all, drop_all, length-set, length-map, get_or_append_left, get_or-append-add, get_or-map, get_or-set_same, get_or-set_other, get_or_default, set-append_left}
use Rattle.std.proofs.lemmas.Grind.{flat_map-append}
use Rattle.std.proofs.Math.Seq.{drop-append-add, take-append-add, drop-cons}
use Rattle.std.proofs.Math.Nat.{suc-mul}
use borrow.Author.Tests.{eqb-false}
use Rattle.ansi_style.specs.declared.style.Style.{Style}
use Rattle.ansi_style.specs.Style.{plain}
use Rattle.ansi_screen.specs.declared.cell.Cell.{Cell}
use Rattle.ansi_screen.specs.Cells.{blank, emptied, is_right, cell_at, cut, with_mark, marked_before, going_on, within, change, moved_back, moved_on, deleted, inserted}
use Rattle.ansi_screen.specs.Grid.{Grid, with_list, flat, in_order, AreRows, times, IsOrder}
use Rattle.ansi_screen.specs.Print.{glyph}
use Rattle.ansi_screen.specs.Reachable.{ArePaired, IsWhole}
use Rattle.ansi_screen.specs.Runs.{with_glyphs}
use Rattle.ansi_screen.proofs.CellLemmas.{cut-none, cut-first, cut-past}
use Rattle.ansi_screen.proofs.PairLemmas.{length-cut, whole-cut, paired-append, paired-first}
use Rattle.ansi_screen.proofs.WholeLemmas.{whole-glyph, length-put}

-- numbers that stand in an order once
times-more : (p q : ℕ) (order : List ℕ) (t : Bool) → nat_eq p q ≡ t → times p order ≤ times p (q ∷ order)
times-more p q order true is = rw is (omega arith)
times-more p q order false is = rw is (omega arith)

times-first : (q : ℕ) (order : List ℕ) (t : Bool) → nat_eq q q ≡ t → 1 ≤ times q (q ∷ order)
times-first q order true is = rw is (omega arith)
times-first q order false is = absurd (eqb-false q q is refl)

times-there : (r : ℕ) (order : List ℕ) → r < length order → 1 ≤ times (get_or order r 0) order
times-there r [] inside = absurd (omega (arith, inside))
times-there zero (q ∷ order) inside = times-first q order _ refl
times-there (suc r) (q ∷ order) inside =
    let at : ℕ = get_or order r 0 in
    let below : 1 ≤ times at order = times-there r order (omega (arith, inside)) in
    let more : times at order ≤ times at (q ∷ order) = times-more at q order _ refl in
    omega (arith, below, more)

times-equal : (at q : ℕ) (order : List ℕ) (t : Bool) → nat_eq at q ≡ t → at ≡ q → suc (times at order) ≤ times at (q ∷ order)
times-equal at q order true is same = rw is (omega arith)
times-equal at q order false is same = absurd (eqb-false at q is same)

times-if : (at : ℕ) (t : Bool) (all xs ys : ℕ) → all ≡ xs + ys → (if t then suc all else all) ≡ (if t then suc xs else xs) + ys
times-if at true all xs ys is = omega (arith, is)
times-if at false all xs ys is = is

pub times-append : (at : ℕ) (xs ys : List ℕ) → times at (xs ++ ys) ≡ times at xs + times at ys
times-append at [] ys = omega arith
times-append at (q ∷ xs) ys = times-if at (nat_eq at q) (times at (xs ++ ys)) (times at xs) (times at ys) (times-append at xs ys)

-- another row in the place of one
other-numbers : (at : ℕ) (order : List ℕ) (rows : List (List Cell)) (new : List Cell) → times at order ≤ 0
    → in_order order (set rows at new) ≡ in_order order rows
other-numbers at [] rows new none = refl
other-numbers at (q ∷ order) rows new none =
    let fewer : times at order ≤ times at (q ∷ order) = times-more at q order _ refl in
    let other : q ≡ at → ⊥ = λ e.
    let more : suc (times at order) ≤ times at (q ∷ order) = times-equal at q order _ refl (sym e) in
    absurd (omega (arith, more, none)) in
    ap₂ (λ x xs. x ∷ xs) (get_or-set_other rows at q new [] other) (other-numbers at order rows new (omega (arith, fewer, none)))

pub ordered-set : (r : ℕ) (order : List ℕ) (rows : List (List Cell)) (new : List Cell) → r < length order
    → ((at : ℕ) → times at order ≤ 1) → get_or order r 0 < length rows
    → in_order order (set rows (get_or order r 0) new) ≡ set (in_order order rows) r new
ordered-set r [] rows new inside once there = absurd (omega (arith, inside))
ordered-set zero (q ∷ order) rows new inside once there =
    let more : suc (times q order) ≤ times q (q ∷ order) = times-equal q q order _ refl refl in
    let most : times q (q ∷ order) ≤ 1 = once q in
    ap₂ (λ x xs. x ∷ xs) (get_or-set_same rows q new [] there) (other-numbers q order rows new (omega (arith, more, most)))
ordered-set (suc r) (q ∷ order) rows new inside once there =
    let at : ℕ = get_or order r 0 in
    let fewer : (k : ℕ) → times k order ≤ 1 = λ k.
    let more : times k order ≤ times k (q ∷ order) = times-more k q order _ refl in
    let most : times k (q ∷ order) ≤ 1 = once k in
    omega (arith, more, most) in
    let some : 1 ≤ times at order = times-there r order (omega (arith, inside)) in
    let other : q ≡ at → ⊥ = λ e.
    let more : suc (times at order) ≤ times at (q ∷ order) = times-equal at q order _ refl (sym e) in
    let most : times at (q ∷ order) ≤ 1 = once at in
    absurd (omega (arith, more, most, some)) in
    ap₂ (λ x xs. x ∷ xs) (get_or-set_other rows at q new [] other) (ordered-set r order rows new (omega (arith, inside)) fewer there)

-- the numbers of an order
pub number-at : (n r : ℕ) (order : List ℕ) (d : ℕ) → AllByRecursion (λ at. at < n) order → r < length order → get_or order r d < n
number-at n r [] d are inside = absurd (omega (arith, inside))
number-at n zero (q ∷ order) d are inside = are.0
number-at n (suc r) (q ∷ order) d are inside = number-at n r order d are.1 (omega (arith, inside))

-- each row of some
pub rows-at : (w r : ℕ) (rows : List (List Cell)) (d : List Cell) → AreRows w rows → r < length rows
    → (length (get_or rows r d) ≡ w) × IsWhole w (get_or rows r d)
rows-at w r [] d are inside = absurd (omega (arith, inside))
rows-at w zero (row ∷ rows) d are inside = are.0
rows-at w (suc r) (row ∷ rows) d are inside = rows-at w r rows d are.1 (omega (arith, inside))

pub rows-set : (w r : ℕ) (rows : List (List Cell)) (new : List Cell) → AreRows w rows → length new ≡ w → IsWhole w new → AreRows w (set rows r new)
rows-set w r [] new are long whole = are
rows-set w zero (row ∷ rows) new are long whole = ((long, whole), are.1)
rows-set w (suc r) (row ∷ rows) new are long whole = (are.0, rows-set w r rows new are.1 long whole)

pub rows-in_order : (w : ℕ) (order : List ℕ) (rows : List (List Cell)) → AreRows w rows → AllByRecursion (λ at. at < length rows) order
    → AreRows w (in_order order rows)
rows-in_order w [] rows are numbers = tt
rows-in_order w (q ∷ order) rows are numbers = (rows-at w q rows [] are numbers.0, rows-in_order w order rows are numbers.1)

pub rows-take : (w n : ℕ) (rows : List (List Cell)) → AreRows w rows → AreRows w (take n rows)
rows-take w zero rows are = tt
rows-take w (suc n) [] are = tt
rows-take w (suc n) (row ∷ rows) are = (are.0, rows-take w n rows are.1)

pub rows-drop : (w n : ℕ) (rows : List (List Cell)) → AreRows w rows → AreRows w (drop n rows)
rows-drop w zero rows are = are
rows-drop w (suc n) [] are = are
rows-drop w (suc n) (row ∷ rows) are = rows-drop w n rows are.1

pub rows-blank : (w n : ℕ) (row : List Cell) → length row ≡ w → IsWhole w row → AreRows w (replicate n row)
rows-blank w zero row long whole = tt
rows-blank w (suc n) row long whole = ((long, whole), rows-blank w n row long whole)

pub length-in_order : (order : List ℕ) (rows : List (List Cell)) → length (in_order order rows) ≡ length order
length-in_order order rows = length-map order (λ (at : ℕ). get_or rows at [])

-- rows, one after another
abbrev row-list : List (List Cell) → List Cell
row-list rows = flat rows

pub flat-length : (w : ℕ) (rows : List (List Cell)) → AreRows w rows → length (flat rows) ≡ length rows * w
flat-length w [] are = omega arith
flat-length w (row ∷ rows) are =
    length-append row (flat rows)
    ∙ omega (arith, are.0.0, flat-length w rows are.1, suc-mul (length rows) w)

pub flat-take : (w n : ℕ) (rows : List (List Cell)) → AreRows w rows → take (n * w) (flat rows) ≡ flat (take n rows)
flat-take w zero rows are = let none : zero * w ≡ zero = omega arith in ap (λ k. take k (flat rows)) none
flat-take w (suc n) [] are = take_all (suc n * w) [] (omega arith)
flat-take w (suc n) (row ∷ rows) are =
    let long : suc n * w ≡ length row + n * w = omega (arith, suc-mul n w, are.0.0) in
    ap (λ k. take k (row ++ flat rows)) long
    ∙ (take-append-add row (flat rows) (n * w) ∙ ap (λ l. row ++ l) (flat-take w n rows are.1))

pub flat-drop : (w n : ℕ) (rows : List (List Cell)) → AreRows w rows → drop (n * w) (flat rows) ≡ flat (drop n rows)
flat-drop w zero rows are = let none : zero * w ≡ zero = omega arith in ap (λ k. drop k (flat rows)) none
flat-drop w (suc n) [] are = drop_all (suc n * w) [] (omega arith)
flat-drop w (suc n) (row ∷ rows) are =
    let long : suc n * w ≡ length row + n * w = omega (arith, suc-mul n w, are.0.0) in
    ap (λ k. drop k (row ++ flat rows)) long
    ∙ (drop-append-add row (flat rows) (n * w) ∙ flat-drop w n rows are.1)

pub flat-row : (w r : ℕ) (rows : List (List Cell)) (d : List Cell) → AreRows w rows → r < length rows
    → take w (drop (r * w) (flat rows)) ≡ get_or rows r d
flat-row w r rows d are inside =
    ap (take w) (flat-drop w r rows are ∙ ap row-list (drop-cons rows r d inside))
    ∙ take_at (get_or rows r d) (flat (drop (suc r) rows)) w (rows-at w r rows d are inside).0

pub flat-blank : (w n : ℕ) (space : Cell) → flat (replicate n (replicate w space)) ≡ replicate (n * w) space
flat-blank w zero space = let none : zero ≡ zero * w = omega arith in ap (λ k. replicate k space) none
flat-blank w (suc n) space =
    ap (λ l. replicate w space ++ l) (flat-blank w n space)
    ∙ (replicate-append-replicate w (n * w) space ∙ ap (λ k. replicate k space) (omega (arith, suc-mul n w)))

pub rows-begin : (w row : ℕ) (rows : List (List Cell)) → 0 < w → AreRows w rows → is_right (cell_at (row * w) (flat rows)).part ≡ false
rows-begin w row [] some are = refl
rows-begin w zero (x ∷ rows) some are =
    let none : zero * w ≡ zero = omega arith in
    rw none (ap (λ (c : Cell). is_right c.part) (get_or_append_left x (flat rows) (blank plain) 0 (omega (arith, are.0.0, some)))
    ∙ paired-first x are.0.1.paired)
rows-begin w (suc row) (x ∷ rows) some are =
    let long : suc row * w ≡ length x + row * w = omega (arith, suc-mul row w, are.0.0) in
    rw long (ap (λ (c : Cell). is_right c.part) (get_or-append-add x (flat rows) (row * w) (blank plain)) ∙ rows-begin w row rows some are.1)

-- the halves in them stand in pairs
pub flat-paired : (w : ℕ) (rows : List (List Cell)) → AreRows w rows → ArePaired None (flat rows)
flat-paired w [] are = refl
flat-paired w (x ∷ rows) are = paired-append None x (flat rows) are.0.1.paired (flat-paired w rows are.1)

-- the list around a row
front-long : (w r : ℕ) (rows : List (List Cell)) → AreRows w rows → r ≤ length rows → length (flat (take r rows)) ≡ r * w
front-long w r rows are inside =
    flat-length w (take r rows) (rows-take w r rows are) ∙ ap (λ n. n * w) (length-take-le r rows inside)

flat-around : (r : ℕ) (rows : List (List Cell)) (d : List Cell) → r < length rows
    → flat rows ≡ flat (take r rows) ++ (get_or rows r d ++ flat (drop (suc r) rows))
flat-around r rows d inside =
    ap row-list (sym (take-append-drop r rows) ∙ ap (λ l. take r rows ++ l) (drop-cons rows r d inside))
    ∙ flat_map-append (λ row. row) (take r rows) (get_or rows r d ∷ drop (suc r) rows)

flat-set : (r : ℕ) (rows : List (List Cell)) (new : List Cell) → r < length rows
    → flat (set rows r new) ≡ flat (take r rows) ++ (new ++ flat (drop (suc r) rows))
flat-set r rows new inside =
    ap row-list (set_split rows r new inside) ∙ flat_map-append (λ row. row) (take r rows) (new ∷ drop (suc r) rows)

-- between what comes before and after, a part changes
within-mid : (p a b : ℕ) (how : List Cell → List Cell) (front row back : List Cell) → length front ≡ p → a ≤ b → b ≤ length row
    → within (p + a) (p + b) how (front ++ (row ++ back)) ≡ front ++ (within a b how row ++ back)
within-mid p a b how front row back long order inside =
    let all : List Cell = front ++ (row ++ back) in
    let n : p + b - (p + a) ≡ b - a = omega arith in
    let at : p + a ≡ length front + a = omega (arith, long) in
    let first : take (p + a) all ≡ front ++ take a row =
    ap (λ k. take k all) at ∙ (take-append-add front (row ++ back) a ∙ ap (λ l. front ++ l) (take-append-le a row back (omega arith))) in
    let rest : drop (p + a) all ≡ drop a row ++ back =
    ap (λ k. drop k all) at ∙ (drop-append-add front (row ++ back) a ∙ drop-append-le a row back (omega arith)) in
    let few : b - a ≤ length (drop a row) = omega (arith, length-drop a row) in
    let part : take (b - a) (drop a row ++ back) ≡ take (b - a) (drop a row) = take-append-le (b - a) (drop a row) back few in
    let last : drop (b - a) (drop a row ++ back) ≡ drop (b - a) (drop a row) ++ back = drop-append-le (b - a) (drop a row) back few in
    let changed : List Cell = how (take (b - a) (drop a row)) in
    let left : List Cell = drop (b - a) (drop a row) in
    rw (n, first, rest, part, last)
    (append_assoc front (take a row) (changed ++ (left ++ back))
    ∙ ap (λ l. front ++ l) (ap (λ l. take a row ++ l) (sym (append_assoc changed left back)) ∙ sym (append_assoc (take a row) (changed ++ left) back)))

cell-mid : (p a : ℕ) (front row back : List Cell) → length front ≡ p → a < length row
    → cell_at (p + a) (front ++ (row ++ back)) ≡ cell_at a row
cell-mid p a front row back long inside =
    ap (λ k. cell_at (k + a) (front ++ (row ++ back))) (sym long)
    ∙ (get_or-append-add front (row ++ back) a (blank plain) ∙ get_or_append_left row back (blank plain) a inside)

set-mid : (a : ℕ) (x : Cell) (front row back : List Cell) → a < length row
    → set (front ++ (row ++ back)) (length front + a) x ≡ front ++ (set row a x ++ back)
set-mid a x [] row back inside = let same : 0 + a ≡ a = omega arith in rw same (set-append_left row back a x inside)
set-mid a x (y ∷ front) row back inside =
    let next : suc (length front) + a ≡ suc (length front + a) = omega arith in
    rw next (ap (λ l. y ∷ l) (set-mid a x front row back inside))

set-in : (p a : ℕ) (x : Cell) (front row back : List Cell) → length front ≡ p → a < length row
    → set (front ++ (row ++ back)) (p + a) x ≡ front ++ (set row a x ++ back)
set-in p a x front row back long inside =
    ap (λ k. set (front ++ (row ++ back)) (k + a) x) (sym long) ∙ set-mid a x front row back inside

-- a pair in a row is cut there
cut-pair : (p b : ℕ) (front row back : List Cell) (t : Bool) → length front ≡ p → suc b < length row → is_right (cell_at (suc b) row).part ≡ t
    → cut (p + suc b) (front ++ (row ++ back)) ≡ front ++ (cut (suc b) row ++ back)
unfolding cut
cut-pair p b front row back true long inside half =
    let all : List Cell = front ++ (row ++ back) in
    let some : nat_lt 0 (p + suc b) ≡ true = lt-ltb 0 (p + suc b) (omega arith) in
    let here : cell_at (p + suc b) all ≡ cell_at (suc b) row = cell-mid p (suc b) front row back long inside in
    let there : is_right (cell_at (p + suc b) all).part ≡ true = ap (λ (c : Cell). is_right c.part) here ∙ half in
    let first : p + suc b - 1 ≡ p + b = omega arith in
    let own : suc b - 1 ≡ b = omega arith in
    let mine : nat_lt 0 (suc b) ≡ true = lt-ltb 0 (suc b) (omega arith) in
    let left : cell_at (p + b) all ≡ cell_at b row = cell-mid p b front row back long (omega (arith, inside)) in
    let l : Cell = emptied (cell_at b row) in
    let r : Cell = emptied (cell_at (suc b) row) in
    let one : set all (p + b) l ≡ front ++ (set row b l ++ back) = set-in p b l front row back long (omega (arith, inside)) in
    rw (some, mine, there, half, first, own, here, left, one)
    (set-in p (suc b) r front (set row b l) back long (omega (arith, inside, length-set row b l)))
cut-pair p b front row back false long inside half =
    let all : List Cell = front ++ (row ++ back) in
    let here : cell_at (p + suc b) all ≡ cell_at (suc b) row = cell-mid p (suc b) front row back long inside in
    let there : is_right (cell_at (p + suc b) all).part ≡ false = ap (λ (c : Cell). is_right c.part) here ∙ half in
    sym (cut-none all (p + suc b) (and_right (nat_lt 0 (p + suc b)) (is_right (cell_at (p + suc b) all).part) there))
    ∙ ap (λ l. front ++ (l ++ back)) (cut-none row (suc b) (and_right (nat_lt 0 (suc b)) (is_right (cell_at (suc b) row).part) half))

-- edits of a row that stands between others
module _ (w p : ℕ) (front back : List Cell) (some : 0 < w) (long : length front ≡ p) (free : is_right (cell_at 0 back).part ≡ false) where
  cut-free : (a : ℕ) (row : List Cell) → is_right (cell_at a (row ++ back)).part ≡ false → cut (p + a) (front ++ (row ++ back)) ≡ front ++ (row ++ back)
  cut-free a row none =
      let all : List Cell = front ++ (row ++ back) in
      let there : is_right (cell_at (p + a) all).part ≡ false =
      ap (λ (c : Cell). is_right c.part) (ap (λ k. cell_at (k + a) all) (sym long) ∙ get_or-append-add front (row ++ back) a (blank plain)) ∙ none in
      sym (cut-none all (p + a) (and_right (nat_lt 0 (p + a)) (is_right (cell_at (p + a) all).part) there))

  cut-in : (a : ℕ) (row : List Cell) → length row ≡ w → IsWhole w row → a ≤ w → cut (p + a) (front ++ (row ++ back)) ≡ front ++ (cut a row ++ back)
  cut-in zero row wide whole inside =
      let first : is_right (cell_at 0 (row ++ back)).part ≡ false =
      ap (λ (c : Cell). is_right c.part) (get_or_append_left row back (blank plain) 0 (omega (arith, wide, some))) ∙ paired-first row whole.paired in
      cut-free 0 row first ∙ ap (λ l. front ++ (l ++ back)) (cut-first row 0 (omega arith))
  cut-in (suc b) row wide whole inside = elim (cases_lt (suc b) w) [
    | inl less ↦ cut-pair p b front row back _ long (omega (arith, less, wide)) refl
    | inr past ↦
        let end : suc b ≡ length row + 0 = omega (arith, past, inside, wide) in
        let none : is_right (cell_at (suc b) (row ++ back)).part ≡ false =
        ap (λ (c : Cell). is_right c.part) (ap (λ k. cell_at k (row ++ back)) end ∙ get_or-append-add row back 0 (blank plain)) ∙ free in
        cut-free (suc b) row none ∙ ap (λ l. front ++ (l ++ back)) (cut-past row (suc b) (omega (arith, past, wide)))
  ]

  change-in : (a e : ℕ) (how : List Cell → List Cell) (row : List Cell) → length row ≡ w → IsWhole w row → a ≤ e → e ≤ w
      → change (p + a) (p + e) how (front ++ (row ++ back)) ≡ front ++ (change a e how row ++ back)
  change-in a e how row wide whole order inside =
      let first : List Cell = cut e row in
      let wide_first : length first ≡ w = length-cut e row ∙ wide in
      let whole_first : IsWhole w first = whole-cut w e row whole in
      let second : List Cell = cut a first in
      ap (λ l. within (p + a) (p + e) how (cut (p + a) l)) (cut-in e row wide whole inside)
      ∙ (ap (within (p + a) (p + e) how) (cut-in a first wide_first whole_first (omega (arith, order, inside)))
      ∙ within-mid p a e how front second back long order (omega (arith, inside, length-cut a first, wide_first)))

  deleted-in : (n a : ℕ) (space : Cell) (row : List Cell) → length row ≡ w → IsWhole w row → a ≤ w
      → deleted n (p + a) (p + w) space (front ++ (row ++ back)) ≡ front ++ (deleted n a w space row ++ back)
  deleted-in n a space row wide whole inside =
      let k : ℕ = a + min n (w - a) in
      let at : p + a + min n (p + w - (p + a)) ≡ p + k = omega arith in
      let first : List Cell = cut k row in
      ap (λ m. change (p + a) (p + w) (moved_back n space) (cut m (front ++ (row ++ back)))) at
      ∙ (ap (change (p + a) (p + w) (moved_back n space)) (cut-in k row wide whole (omega arith))
      ∙ change-in a w (moved_back n space) first (length-cut k row ∙ wide) (whole-cut w k row whole) inside (omega arith))

  inserted-in : (n a : ℕ) (space : Cell) (row : List Cell) → length row ≡ w → IsWhole w row → a ≤ w
      → inserted n (p + a) (p + w) space (front ++ (row ++ back)) ≡ front ++ (inserted n a w space row ++ back)
  inserted-in n a space row wide whole inside =
      let k : ℕ = w - min n (w - a) in
      let at : p + w - min n (p + w - (p + a)) ≡ p + k = omega arith in
      let first : List Cell = cut k row in
      ap (λ m. change (p + a) (p + w) (moved_on n space) (cut m (front ++ (row ++ back)))) at
      ∙ (ap (change (p + a) (p + w) (moved_on n space)) (cut-in k row wide whole (omega arith))
      ∙ change-in a w (moved_on n space) first (length-cut k row ∙ wide) (whole-cut w k row whole) inside (omega arith))

  glyphs-in : (a : ℕ) (text : List ℕ) (style : Style) (link : ℕ) (row : List Cell) → length row ≡ w → IsWhole w row → a + length text ≤ w
      → with_glyphs (p + a) text style link (front ++ (row ++ back)) ≡ front ++ (with_glyphs a text style link row ++ back)
  glyphs-in a [] style link row wide whole inside = refl
  glyphs-in a (c ∷ text) style link row wide whole inside =
      let next : p + a + 1 ≡ p + (a + 1) = omega arith in
      let fits : a + 1 ≤ length row = omega (arith, inside, wide) in
      let start : 0 * w ≤ a = omega arith in
      let end : a + 1 ≤ 0 * w + w = omega (arith, inside) in
      let one : List Cell = change a (a + 1) (λ run. glyph 1 c style link) row in
      rw next (ap (with_glyphs (p + (a + 1)) text style link)
      (change-in a (a + 1) (λ run. glyph 1 c style link) row wide whole (omega arith) (omega (arith, inside)))
      ∙ glyphs-in (a + 1) text style link one (length-put a 1 c style link row (omega arith) (omega arith) fits ∙ wide)
      (whole-glyph w 0 a 1 c style link row (omega arith) (omega arith) start end fits whole) (omega (arith, inside)))

  marked-if : (mark b : ℕ) (row : List Cell) (t : Bool) → length row ≡ w → IsWhole w row → b < w → is_right (cell_at b row).part ≡ t
      → marked_before mark (p + suc b) (front ++ (row ++ back)) ≡ front ++ (marked_before mark (suc b) row ++ back)
  unfolding marked_before
  marked-if mark b row false wide whole inside half =
      let all : List Cell = front ++ (row ++ back) in
      let before : p + suc b - 1 ≡ p + b = omega arith in
      let own : suc b - 1 ≡ b = omega arith in
      let here : cell_at (p + b) all ≡ cell_at b row = cell-mid p b front row back long (omega (arith, inside, wide)) in
      let there : is_right (cell_at (p + b) all).part ≡ false = ap (λ (c : Cell). is_right c.part) here ∙ half in
      rw (before, own, there, half, here) (set-in p b (with_mark mark (cell_at b row)) front row back long (omega (arith, inside, wide)))
  marked-if mark zero row true wide whole inside half =
      let first : is_right (cell_at 0 row).part ≡ false = paired-first row whole.paired in absurd (false≢true (sym first ∙ half))
  marked-if mark (suc b) row true wide whole inside half =
      let all : List Cell = front ++ (row ++ back) in
      let before : p + suc (suc b) - 1 ≡ p + suc b = omega arith in
      let own : suc (suc b) - 1 ≡ suc b = omega arith in
      let two : p + suc (suc b) - 2 ≡ p + b = omega arith in
      let own_two : suc (suc b) - 2 ≡ b = omega arith in
      let here : cell_at (p + suc b) all ≡ cell_at (suc b) row = cell-mid p (suc b) front row back long (omega (arith, inside, wide)) in
      let there : is_right (cell_at (p + suc b) all).part ≡ true = ap (λ (c : Cell). is_right c.part) here ∙ half in
      let left : cell_at (p + b) all ≡ cell_at b row = cell-mid p b front row back long (omega (arith, inside, wide)) in
      rw (before, own, there, half, two, own_two, left)
      (set-in p b (with_mark mark (cell_at b row)) front row back long (omega (arith, inside, wide)))

  going-in : (on : Bool) (row : List Cell) → length row ≡ w → going_on on (p + w) (front ++ (row ++ back)) ≡ front ++ (going_on on w row ++ back)
  unfolding going_on
  going-in on row wide =
      let last : p + w - 1 ≡ p + (w - 1) = omega arith in
      let here : cell_at (p + (w - 1)) (front ++ (row ++ back)) ≡ cell_at (w - 1) row = cell-mid p (w - 1) front row back long (omega (arith, wide, some)) in
      rw (last, here) (set-in p (w - 1) (record (cell_at (w - 1) row) { goes_on = on }) front row back long (omega (arith, wide, some)))

-- A row of a grid is another.
module _ (w r : ℕ) (order : List ℕ) (rows : List (List Cell)) (some : 0 < w) (are : AreRows w rows) (is_order : IsOrder (length rows) order)
    (inside : r < length order) where
  abbrev at : ℕ
  at = get_or order r 0

  abbrev lines : List (List Cell)
  lines = in_order order rows

  abbrev own : List Cell
  own = get_or rows at []

  abbrev front : List Cell
  front = flat (take r lines)

  abbrev back : List Cell
  back = flat (drop (suc r) lines)

  there : at < length rows
  there = number-at (length rows) r order 0 is_order.numbers inside

  lines-are : AreRows w lines
  lines-are = rows-in_order w order rows are is_order.numbers

  in-lines : r < length lines
  in-lines = omega (arith, inside, length-map order (λ k. get_or rows k []))

  front-is : length front ≡ r * w
  front-is = front-long w r lines lines-are (omega (arith, in-lines))

  back-free : is_right (cell_at 0 back).part ≡ false
  back-free =
      let none : zero * w ≡ zero = omega arith in
      rw none at (rows-begin w zero (drop (suc r) lines) some (rows-drop w (suc r) lines lines-are))

  own-is : get_or lines r [] ≡ own
  own-is = get_or-map (λ k. get_or rows k []) order r 0 [] inside

  pub own-wide : length own ≡ w
  own-wide = (rows-at w at rows [] are there).0

  pub own-whole : IsWhole w own
  own-whole = (rows-at w at rows [] are there).1

  around : flat lines ≡ front ++ (own ++ back)
  around = flat-around r lines [] in-lines ∙ ap (λ l. front ++ (l ++ back)) own-is

  changed : (new : List Cell) → flat (in_order order (set rows at new)) ≡ front ++ (new ++ back)
  changed new = ap row-list (ordered-set r order rows new inside is_order.once there) ∙ flat-set r lines new in-lines

  pub row-change : (a e : ℕ) (how : List Cell → List Cell) → a ≤ e → e ≤ w
      → flat (in_order order (set rows at (change a e how own))) ≡ change (r * w + a) (r * w + e) how (flat lines)
  row-change a e how ordered reaches =
      changed (change a e how own)
      ∙ sym (ap (change (r * w + a) (r * w + e) how) around
      ∙ change-in w (r * w) front back some front-is back-free a e how own own-wide own-whole ordered reaches)

  pub row-within : (a e : ℕ) (how : List Cell → List Cell) → a ≤ e → e ≤ w
      → flat (in_order order (set rows at (within a e how own))) ≡ within (r * w + a) (r * w + e) how (flat lines)
  row-within a e how ordered reaches =
      changed (within a e how own)
      ∙ sym (ap (within (r * w + a) (r * w + e) how) around
      ∙ within-mid (r * w) a e how front own back front-is ordered (omega (arith, reaches, own-wide)))

  pub row-deleted : (n a : ℕ) (space : Cell) → a ≤ w
      → flat (in_order order (set rows at (deleted n a (length own) space own))) ≡ deleted n (r * w + a) (r * w + w) space (flat lines)
  row-deleted n a space reaches =
      ap (λ m. flat (in_order order (set rows at (deleted n a m space own)))) own-wide ∙ changed (deleted n a w space own)
      ∙ sym (ap (deleted n (r * w + a) (r * w + w) space) around
      ∙ deleted-in w (r * w) front back some front-is back-free n a space own own-wide own-whole reaches)

  pub row-inserted : (n a : ℕ) (space : Cell) → a ≤ w
      → flat (in_order order (set rows at (inserted n a (length own) space own))) ≡ inserted n (r * w + a) (r * w + w) space (flat lines)
  row-inserted n a space reaches =
      ap (λ m. flat (in_order order (set rows at (inserted n a m space own)))) own-wide ∙ changed (inserted n a w space own)
      ∙ sym (ap (inserted n (r * w + a) (r * w + w) space) around
      ∙ inserted-in w (r * w) front back some front-is back-free n a space own own-wide own-whole reaches)

  pub row-glyphs : (a : ℕ) (text : List ℕ) (style : Style) (link : ℕ) → a + length text ≤ w
      → flat (in_order order (set rows at (with_glyphs a text style link own))) ≡ with_glyphs (r * w + a) text style link (flat lines)
  row-glyphs a text style link reaches =
      changed (with_glyphs a text style link own)
      ∙ sym (ap (with_glyphs (r * w + a) text style link) around
      ∙ glyphs-in w (r * w) front back some front-is back-free a text style link own own-wide own-whole reaches)

  pub row-marked : (mark a : ℕ) → 0 < a → a ≤ w
      → flat (in_order order (set rows at (marked_before mark a own))) ≡ marked_before mark (r * w + a) (flat lines)
  row-marked mark zero one reaches = absurd (omega (arith, one))
  row-marked mark (suc b) one reaches =
      changed (marked_before mark (suc b) own)
      ∙ sym (ap (marked_before mark (r * w + suc b)) around
      ∙ marked-if w (r * w) front back some front-is back-free mark b own _ own-wide own-whole (omega (arith, reaches)) refl)

  pub row-going : (on : Bool) → flat (in_order order (set rows at (going_on on (length own) own))) ≡ going_on on (r * w + w) (flat lines)
  row-going on =
      ap (λ m. flat (in_order order (set rows at (going_on on m own)))) own-wide ∙ changed (going_on on w own)
      ∙ sym (ap (going_on on (r * w + w)) around ∙ going-in w (r * w) front back some front-is back-free on own own-wide)

  -- all of it is another one
  pub row-whole : (how : List Cell → List Cell) → flat (in_order order (set rows at (how own))) ≡ within (r * w) (r * w + w) how (flat lines)
  row-whole how =
      let p : ℕ = r * w in
      let few : p + w - p ≡ w = omega arith in
      let first : take p (front ++ (own ++ back)) ≡ front = take_at front (own ++ back) p front-is in
      let rest : drop p (front ++ (own ++ back)) ≡ own ++ back = drop_at front (own ++ back) p front-is in
      let mid : take w (own ++ back) ≡ own = take_at own back w own-wide in
      let last : drop w (own ++ back) ≡ back = drop_at own back w own-wide in
      changed (how own) ∙ sym (ap (within p (p + w) how) around ∙ rw (few, first, rest, mid, last) refl)

  read : (n : ℕ) (d : List Cell) → n ≡ at → d ≡ get_or rows n d → d ≡ own
  read n d same is = is ∙ (ap (λ k. get_or rows k d) same ∙ get_or_default rows at d [] there)

  -- a row that was read at its number is edited, and so is the list
  pub edited : (f g : List Cell → List Cell) (n : ℕ) (d new : List Cell) → n ≡ at → d ≡ get_or rows n d → new ≡ f d
      → flat (in_order order (set rows at (f own))) ≡ g (flat lines) → flat (in_order order (set rows n new)) ≡ g (flat lines)
  edited f g n d new same is put all =
      ap (λ k. flat (in_order order (set rows k new))) same
      ∙ (ap (λ l. flat (in_order order (set rows at l))) (put ∙ ap f (read n d same is)) ∙ all)

  -- the cells of a row that was read at its number
  pub row-cells : (n : ℕ) (d : List Cell) → n ≡ at → d ≡ get_or rows n d → d ≡ take w (drop (r * w) (flat lines))
  row-cells n d same is = read n d same is ∙ (sym own-is ∙ sym (flat-row w r lines [] lines-are in-lines))

  pub row-put : (a m : ℕ) (how : List Cell → List Cell) → a + m ≤ w
      → flat (in_order order (set rows at (change a (a + m) how own))) ≡ change (r * w + a) (r * w + a + m) how (flat lines)
  row-put a m how reaches =
      row-change a (a + m) how (omega arith) reaches ∙ ap (λ n. change (r * w + a) n how (flat lines)) (omega arith)

-- a grid of which the cells are others
abbrev pub grid-of : ℕ → List ℕ → List (List Cell) → Grid
grid-of w order rows = record { width = w; height = length order; cells = flat (in_order order rows) }

pub with-rows : (w : ℕ) (order others : List ℕ) (rows news : List (List Cell)) (g : Grid) (f : Grid → List Cell) → length others ≡ length order
    → grid-of w order rows ≡ g → flat (in_order others news) ≡ f (grid-of w order rows)
    → grid-of w others news ≡ with_list (f g) g
with-rows w order others rows news g f long view is =
    ap₂ (λ n l. record { width = w; height = n; cells = l }) long is
    ∙ ap (λ (x : Grid). with_list (f x) x) view
