-- Characters that are inserted one after another push on what stands behind them as if room for all of them were made at once.
use Rattle.std.proofs.Common.{◌≡◌, ℕ, zero, suc, ◌+◌, ◌-◌, ◌*◌, ◌<◌, ◌≤◌, Bool, true, false, List, [], ◌∷◌, ◌++◌, length, take, drop, set, refl, ap, sym, ◌∙◌, subst, inl, inr, arith}
use Rattle.std.specs.Prelude.{min, nat_le, ◌==◌, replicate, None, if◌then◌else◌}
use Rattle.std.specs.Fn.{iterate}
use Rattle.std.proofs.Math.Nat.{suc-mul, mul-le-mul_right}
use Rattle.std.proofs.lemmas.Bool.{cases_lt, le-leb, ne_eqb}
use Rattle.std.proofs.Math.Seq.{take-suc-set}
use Rattle.std.proofs.lemmas.List.{append_assoc, length-append, length-set, length-take-le, length-drop, length-replicate, replicate-append-replicate, take-append-le, take_at, take-take, take-set-le, drop_at, drop-drop, drop-take, drop-set-lt, drop-set-add, get_or-drop, get_or-take, get_or_append_left, get_or-append_right, get_or-set_other}
use Rattle.ansi_style.specs.Style.{plain}
use Rattle.ansi_screen.specs.declared.cell.Cell.{Cell}
use Rattle.ansi_screen.specs.Cells.{blank, emptied, is_right, cell_at, cut, within, change, moved_on, inserted, going_on}
use Rattle.ansi_screen.specs.Display.{Display, here, row_end}
use Rattle.ansi_screen.specs.Edits.{space}
use Rattle.ansi_screen.specs.Widths.{is_shown, columns}
use Rattle.ansi_screen.specs.Print.{glyph, wrapped, put, shown, drawn, draws, printed, printed_again}
use Rattle.ansi_screen.specs.Reachable.{ArePaired, IsWhole}
use Rattle.ansi_screen.proofs.CellLemmas.{cut-first}
use Rattle.ansi_screen.proofs.PairLemmas.{paired-drop, clear-cut, clear-cut_other, whole-cut, length-run}
use Rattle.ansi_screen.proofs.RunLemmas.{right_at, cut-on, cut-off, drop-past, take-cut, right-behind, right-inside, other-set, length-cut}
use Rattle.ansi_screen.proofs.WholeLemmas.{whole-inserted, length-inserted, length-glyph, whole-glyph, length-put, whole-going_on, length-going_on}
use Rattle.ansi_screen.proofs.RowLemmas.{in_row, room_by, over_by, put_by, put-by, drawn-if}
use Rattle.ansi_screen.proofs.GoingLemmas.{going-twice, going-right, going-far}
use Rattle.ansi_screen.proofs.KeptLemmas.{columns-few}

-- the cells before a border, once a wide character on it is cut
abbrev trimmed : ℕ → List Cell → List Cell
trimmed j xs = take j (cut j xs)

trimmed-right : (p : ℕ) (xs : List Cell) → right_at (suc p) xs ≡ true → trimmed (suc p) xs ≡ take p xs ++ (emptied (cell_at p xs) ∷ [])
trimmed-right p xs is =
    let e : Cell = emptied (cell_at p xs) in
    let inside = right-inside (suc p) xs is in
    ap (take (suc p)) (cut-on p xs is)
    ∙ (take-set-le (suc p) (set xs p e) (suc p) (emptied (cell_at (suc p) xs)) (omega arith)
    ∙ take-suc-set xs p e (omega (arith, inside)))

-- It is decided by these cells and by whether a right half stands behind them.
trimmed-if : (t : Bool) (j : ℕ) (xs ys : List Cell) → take j xs ≡ take j ys → right_at j xs ≡ t → right_at j ys ≡ t → trimmed j xs ≡ trimmed j ys
trimmed-if t zero xs ys same one other = refl
trimmed-if true (suc p) xs ys same one other =
    let front : take p xs ≡ take p ys =
    sym (take-take p (suc p) xs (omega arith)) ∙ (ap (take p) same ∙ take-take p (suc p) ys (omega arith)) in
    let last : cell_at p xs ≡ cell_at p ys =
    sym (get_or-take (suc p) xs p (blank plain) (omega arith)) ∙ (ap (cell_at p) same ∙ get_or-take (suc p) ys p (blank plain) (omega arith)) in
    trimmed-right p xs one
    ∙ (ap (λ l. l ++ (emptied (cell_at p xs) ∷ [])) front
    ∙ (ap (λ (x : Cell). take p ys ++ (emptied x ∷ [])) last ∙ sym (trimmed-right p ys other)))
trimmed-if false (suc p) xs ys same one other =
    ap (take (suc p)) (cut-off (suc p) xs one) ∙ (same ∙ ap (take (suc p)) (sym (cut-off (suc p) ys other)))

trimmed-same : (j : ℕ) (xs ys : List Cell) → take j xs ≡ take j ys → right_at j xs ≡ right_at j ys → trimmed j xs ≡ trimmed j ys
trimmed-same j xs ys same right = trimmed-if (right_at j ys) j xs ys same right refl

-- a cut behind some cells
right-drop : (s j : ℕ) (xs : List Cell) → right_at j (drop s xs) ≡ right_at (s + j) xs
right-drop s j xs = ap (λ (x : Cell). is_right x.part) (get_or-drop s xs j (blank plain))

cut-at : (q p : ℕ) (xs : List Cell) → q ≡ suc p → right_at q xs ≡ true
    → cut q xs ≡ set (set xs p (emptied (cell_at p xs))) q (emptied (cell_at q xs))
cut-at q p xs e is =
    subst (λ k. cut k xs ≡ set (set xs p (emptied (cell_at p xs))) k (emptied (cell_at k xs))) (sym e)
    (cut-on p xs (subst (λ k. right_at k xs ≡ true) e is))

drop-cut-if : (t : Bool) (s p : ℕ) (xs : List Cell) → right_at (s + suc p) xs ≡ t → drop s (cut (s + suc p) xs) ≡ cut (suc p) (drop s xs)
drop-cut-if true s p xs is =
    let left : Cell = emptied (cell_at (s + p) xs) in
    let right : Cell = emptied (cell_at (s + suc p) xs) in
    let there : right_at (suc p) (drop s xs) ≡ true = right-drop s (suc p) xs ∙ is in
    let left_is : emptied (cell_at p (drop s xs)) ≡ left = ap (λ (x : Cell). emptied x) (get_or-drop s xs p (blank plain)) in
    let right_is : emptied (cell_at (suc p) (drop s xs)) ≡ right = ap (λ (x : Cell). emptied x) (get_or-drop s xs (suc p) (blank plain)) in
    ap (drop s) (cut-at (s + suc p) (s + p) xs (omega arith) is)
    ∙ (drop-set-add s (set xs (s + p) left) (suc p) right
    ∙ (ap (λ l. set l (suc p) right) (drop-set-add s xs p left)
    ∙ (ap (λ x. set (set (drop s xs) p x) (suc p) right) (sym left_is)
    ∙ (ap (λ x. set (set (drop s xs) p (emptied (cell_at p (drop s xs)))) (suc p) x) (sym right_is)
    ∙ sym (cut-on p (drop s xs) there)))))
drop-cut-if false s p xs is =
    ap (drop s) (cut-off (s + suc p) xs is) ∙ sym (cut-off (suc p) (drop s xs) (right-drop s (suc p) xs ∙ is))

take-trimmed : (s j : ℕ) (xs : List Cell) → take j (drop s (cut (s + j) xs)) ≡ trimmed j (drop s xs)
take-trimmed s zero xs = refl
take-trimmed s (suc p) xs = ap (take (suc p)) (drop-cut-if (right_at (s + suc p) xs) s p xs refl)

-- what stands before a cut
take-kept : (n r : ℕ) (cells : List Cell) → n < r → take n (cut r cells) ≡ take n cells
take-kept n r cells below =
    let next : suc (r - 1) ≡ r = omega (arith, below) in
    ap (λ k. take n (cut k cells)) (sym next) ∙ take-cut n (r - 1) cells (omega (arith, below))

-- Where halves stand in pairs a cut takes no right half away before it, since none stands beside it.
right-kept_if : (t : Bool) (q b : ℕ) (cells : List Cell) → ArePaired None cells → q ≤ b → right_at (suc b) cells ≡ t
    → right_at q (cut (suc b) cells) ≡ right_at q cells
right-kept_if true q b cells are below is = elim (cases_lt q b) [
  | inl less ↦
      let left : Cell = emptied (cell_at b cells) in
      let right : Cell = emptied (cell_at (suc b) cells) in
      ap (right_at q) (cut-on b cells is)
      ∙ (ap (λ (x : Cell). is_right x.part) (get_or-set_other (set cells b left) (suc b) q right (blank plain) (λ e. omega (arith, e, less)))
      ∙ ap (λ (x : Cell). is_right x.part) (get_or-set_other cells b q left (blank plain) (λ e. omega (arith, e, less))))
  | inr past ↦
      let there : q ≡ b = omega (arith, past, below) in
      rw there
      (ap (right_at b) (cut-on b cells is)
      ∙ (other-set b cells (emptied (cell_at b cells)) (emptied (cell_at (suc b) cells)) refl
      ∙ sym (right-behind b None cells are is)))
]
right-kept_if false q b cells are below is = ap (right_at q) (cut-off (suc b) cells is)

right-kept : (q r : ℕ) (cells : List Cell) → ArePaired None cells → q < r → right_at q (cut r cells) ≡ right_at q cells
right-kept q r cells are below =
    let next : suc (r - 1) ≡ r = omega (arith, below) in
    ap (λ k. right_at q (cut k cells)) (sym next)
    ∙ right-kept_if (right_at (suc (r - 1)) cells) q (r - 1) cells are (omega (arith, below)) refl

-- So it is of no matter which of two places is cut first.
set-swap : (xs : List Cell) (i j : ℕ) (x y : Cell) → i < j → set (set xs i x) j y ≡ set (set xs j y) i x
set-swap [] i j x y less = refl
set-swap (z ∷ xs) zero zero x y less = absurd (omega (arith, less))
set-swap (z ∷ xs) zero (suc j) x y less = refl
set-swap (z ∷ xs) (suc i) zero x y less = absurd (omega (arith, less))
set-swap (z ∷ xs) (suc i) (suc j) x y less = ap (λ l. z ∷ l) (set-swap xs i j x y (omega (arith, less)))

set-pairs : (xs : List Cell) (a b : ℕ) (l r m s : Cell) → suc a < b
    → set (set (set (set xs b m) (suc b) s) a l) (suc a) r ≡ set (set (set (set xs a l) (suc a) r) b m) (suc b) s
set-pairs xs a b l r m s less =
    ap (λ c. set c (suc a) r) (sym (set-swap (set xs b m) a (suc b) l s (omega (arith, less))))
    ∙ (ap (λ c. set (set c (suc b) s) (suc a) r) (sym (set-swap xs a b l m (omega (arith, less))))
    ∙ (sym (set-swap (set (set xs a l) b m) (suc a) (suc b) r s (omega (arith, less)))
    ∙ ap (λ c. set c (suc b) s) (sym (set-swap (set xs a l) (suc a) b r m less))))

-- the cells beside a pair that is set
cell-beside : (xs : List Cell) (b j : ℕ) (m s : Cell) → (j ≡ b → ⊥) → (j ≡ suc b → ⊥) → cell_at j (set (set xs b m) (suc b) s) ≡ cell_at j xs
cell-beside xs b j m s one other =
    get_or-set_other (set xs b m) (suc b) j s (blank plain) other ∙ get_or-set_other xs b j m (blank plain) one

both-cut : (a b : ℕ) (cells : List Cell) → suc a < b → right_at (suc a) cells ≡ true → right_at (suc b) cells ≡ true
    → cut (suc a) (cut (suc b) cells) ≡ set (set (set (set cells b (emptied (cell_at b cells))) (suc b) (emptied (cell_at (suc b) cells))) a (emptied (cell_at a cells))) (suc a) (emptied (cell_at (suc a) cells))
both-cut a b cells less one other =
    let m : Cell = emptied (cell_at b cells) in
    let s : Cell = emptied (cell_at (suc b) cells) in
    let all : List Cell = set (set cells b m) (suc b) s in
    let at : cell_at a all ≡ cell_at a cells = cell-beside cells b a m s (λ e. omega (arith, e, less)) (λ e. omega (arith, e, less)) in
    let next : cell_at (suc a) all ≡ cell_at (suc a) cells = cell-beside cells b (suc a) m s (λ e. omega (arith, e, less)) (λ e. omega (arith, e, less)) in
    let there : right_at (suc a) all ≡ true = ap (λ (x : Cell). is_right x.part) next ∙ one in
    ap (cut (suc a)) (cut-on b cells other)
    ∙ (cut-on a all there
    ∙ (ap (λ (x : Cell). set (set all a (emptied x)) (suc a) (emptied (cell_at (suc a) all))) at
    ∙ ap (λ (x : Cell). set (set all a (emptied (cell_at a cells))) (suc a) (emptied x)) next))

both-cut_back : (a b : ℕ) (cells : List Cell) → suc a < b → right_at (suc a) cells ≡ true → right_at (suc b) cells ≡ true
    → cut (suc b) (cut (suc a) cells) ≡ set (set (set (set cells a (emptied (cell_at a cells))) (suc a) (emptied (cell_at (suc a) cells))) b (emptied (cell_at b cells))) (suc b) (emptied (cell_at (suc b) cells))
both-cut_back a b cells less one other =
    let l : Cell = emptied (cell_at a cells) in
    let r : Cell = emptied (cell_at (suc a) cells) in
    let all : List Cell = set (set cells a l) (suc a) r in
    let at : cell_at b all ≡ cell_at b cells = cell-beside cells a b l r (λ e. omega (arith, e, less)) (λ e. omega (arith, e, less)) in
    let next : cell_at (suc b) all ≡ cell_at (suc b) cells = cell-beside cells a (suc b) l r (λ e. omega (arith, e, less)) (λ e. omega (arith, e, less)) in
    let there : right_at (suc b) all ≡ true = ap (λ (x : Cell). is_right x.part) next ∙ other in
    ap (cut (suc b)) (cut-on a cells one)
    ∙ (cut-on b all there
    ∙ (ap (λ (x : Cell). set (set all b (emptied x)) (suc b) (emptied (cell_at (suc b) all))) at
    ∙ ap (λ (x : Cell). set (set all b (emptied (cell_at b cells))) (suc b) (emptied x)) next))

cut-swap_if : (t u : Bool) (a b : ℕ) (cells : List Cell) → ArePaired None cells → a < b → right_at (suc a) cells ≡ t → right_at (suc b) cells ≡ u
    → cut (suc a) (cut (suc b) cells) ≡ cut (suc b) (cut (suc a) cells)
cut-swap_if true true a b cells are less one other = elim (cases_lt (suc a) b) [
  | inl apart ↦
      both-cut a b cells apart one other
      ∙ (set-pairs cells a b (emptied (cell_at a cells)) (emptied (cell_at (suc a) cells)) (emptied (cell_at b cells)) (emptied (cell_at (suc b) cells)) apart
      ∙ sym (both-cut_back a b cells apart one other))
  | inr near ↦
      let there : b ≡ suc a = omega (arith, near, less) in
      let none : right_at b cells ≡ false = right-behind b None cells are other in
      let no : true ≡ false = sym one ∙ rw (← there) none in
      cc no
]
cut-swap_if true false a b cells are less one other =
    ap (cut (suc a)) (cut-off (suc b) cells other)
    ∙ sym (cut-off (suc b) (cut (suc a) cells) (clear-cut_other (suc a) (suc b) cells other))
cut-swap_if false u a b cells are less one other =
    cut-off (suc a) (cut (suc b) cells) (clear-cut_other (suc b) (suc a) cells one)
    ∙ ap (cut (suc b)) (sym (cut-off (suc a) cells one))

cut-swap_at : (q b : ℕ) (cells : List Cell) → ArePaired None cells → q ≤ b → cut q (cut (suc b) cells) ≡ cut (suc b) (cut q cells)
cut-swap_at zero b cells are below =
    sym (cut-first (cut (suc b) cells) 0 (omega arith)) ∙ ap (cut (suc b)) (cut-first cells 0 (omega arith))
cut-swap_at (suc a) b cells are below = cut-swap_if (right_at (suc a) cells) (right_at (suc b) cells) a b cells are (omega (arith, below)) refl refl

cut-swap : (q r : ℕ) (cells : List Cell) → ArePaired None cells → q < r → cut q (cut r cells) ≡ cut r (cut q cells)
cut-swap q r cells are below =
    let next : suc (r - 1) ≡ r = omega (arith, below) in
    subst (λ k. cut q (cut k cells) ≡ cut k (cut q cells)) next (cut-swap_at q (r - 1) cells are (omega (arith, below)))

-- What an insertion makes of cells: those before it; blanks; as many of the others as there is room for; those behind the end.
module _ (start j k end : ℕ) (space : Cell) (cells base : List Cell)
    (there : start + j + k ≡ end) (some : 0 < k) (inside : end ≤ length base) (free : right_at start base ≡ false) (free_end : right_at end cells ≡ false)
    (cuts : cut start (cut (start + j) cells) ≡ cut (start + j) base) where
  front-kept : (i : ℕ) → take start (cut (start + i) base) ≡ take start base
  front-kept zero =
      let none : start + 0 ≡ start = omega arith in
      ap (λ k. take start (cut k base)) none ∙ ap (take start) (cut-off start base free)
  front-kept (suc p) = take-kept start (start + suc p) base (omega arith)

  insert-form : inserted k start end space cells
      ≡ take start base ++ (replicate k space ++ (trimmed j (drop start base) ++ drop end base))
  insert-form =
      let both : List Cell = cut (start + j) base in
      let place : end - min k (end - start) ≡ start + j = omega (arith, there) in
      let at_end : cut end (cut (start + j) cells) ≡ cut (start + j) cells = cut-off end (cut (start + j) cells) (clear-cut_other (start + j) end cells free_end) in
      let all_cuts : cut start (cut end (cut (end - min k (end - start)) cells)) ≡ both =
      ap (λ n. cut start (cut end (cut n cells))) place ∙ (ap (cut start) at_end ∙ cuts) in
      let run : List Cell = take (end - start) (drop start both) in
      let long : length run ≡ end - start = length-run start end both (omega (arith, length-cut (start + j) base, inside)) in
      let few : min k (length run) ≡ k = omega (arith, long, there) in
      let rest : length run - min k (length run) ≡ j = omega (arith, long, there) in
      let kept : take (length run - min k (length run)) run ≡ trimmed j (drop start base) =
      ap (λ n. take n run) rest ∙ (take-take j (end - start) (drop start both) (omega (arith, there)) ∙ take-trimmed start j base) in
      let sum : start + (end - start) ≡ end = omega (arith, there) in
      let behind : drop (end - start) (drop start both) ≡ drop end base =
      drop-drop (end - start) start both ∙ (ap (λ n. drop n both) sum ∙ drop-past end (start + j) base (omega (arith, there, some))) in
      ap (within start end (moved_on k space)) all_cuts
      ∙ (ap (λ l. l ++ (moved_on k space run ++ drop (end - start) (drop start both))) (front-kept j)
      ∙ (ap (λ l. take start base ++ (moved_on k space run ++ l)) behind
      ∙ (ap (λ l. take start base ++ ((replicate (min k (length run)) space ++ l) ++ drop end base)) kept
      ∙ (ap (λ n. take start base ++ ((replicate n space ++ trimmed j (drop start base)) ++ drop end base)) few
      ∙ ap (λ l. take start base ++ l) (append_assoc (replicate k space) (trimmed j (drop start base)) (drop end base))))))

-- at a place where no right half stands, and at any place of cells in pairs
cuts-free : (start j : ℕ) (cells : List Cell) → right_at start cells ≡ false → cut start (cut (start + j) cells) ≡ cut (start + j) cells
cuts-free start j cells free = cut-off start (cut (start + j) cells) (clear-cut_other (start + j) start cells free)

cuts-paired : (start j : ℕ) (cells : List Cell) → ArePaired None cells → cut start (cut (start + j) cells) ≡ cut (start + j) (cut start cells)
cuts-paired start zero cells are =
    let none : start + 0 ≡ start = omega arith in
    subst (λ k. cut start (cut k cells) ≡ cut k (cut start cells)) (sym none) refl
cuts-paired start (suc p) cells are = cut-swap start (start + suc p) cells are (omega arith)

-- A glyph stands where there are as many blanks.
put-form : (start n : ℕ) (new front mid rest : List Cell) → length front ≡ start → length mid ≡ n
    → right_at start (front ++ (mid ++ rest)) ≡ false → right_at (start + n) (front ++ (mid ++ rest)) ≡ false
    → change start (start + n) (λ run. new) (front ++ (mid ++ rest)) ≡ front ++ (new ++ rest)
put-form start n new front mid rest front_long mid_long free free_end =
    let all : List Cell = front ++ (mid ++ rest) in
    let long : start + n - start ≡ n = omega arith in
    let cuts : cut start (cut (start + n) all) ≡ all = ap (cut start) (cut-off (start + n) all free_end) ∙ cut-off start all free in
    ap (within start (start + n) (λ run. new)) cuts
    ∙ (ap (λ l. l ++ (new ++ drop (start + n - start) (drop start all))) (take_at front (mid ++ rest) start front_long)
    ∙ ap (λ l. front ++ (new ++ l))
    (ap (λ m. drop m (drop start all)) long ∙ (ap (drop n) (drop_at front (mid ++ rest) start front_long) ∙ drop_at mid rest n mid_long)))

-- the place behind some cells
right-past : (n : ℕ) (front rest : List Cell) → length front ≡ n → right_at n (front ++ rest) ≡ right_at 0 rest
right-past n front rest long =
    let none : n - n ≡ 0 = omega arith in
    ap (λ (x : Cell). is_right x.part) (get_or-append_right front rest n n (blank plain) long (omega arith) ∙ ap (λ i. cell_at i rest) none)

first-of : (front rest : List Cell) → 0 < length front → right_at 0 (front ++ rest) ≡ right_at 0 front
first-of front rest some = ap (λ (x : Cell). is_right x.part) (get_or_append_left front rest (blank plain) 0 some)

going-front : (n end : ℕ) (cells : List Cell) → n < end → take n (going_on false end cells) ≡ take n cells
unfolding going_on
going-front n end cells below = take-set-le n cells (end - 1) (record (cell_at (end - 1) cells) { goes_on = false }) (omega (arith, below))

going-behind : (end : ℕ) (cells : List Cell) → 0 < end → drop end (going_on false end cells) ≡ drop end cells
unfolding going_on
going-behind end cells some = drop-set-lt end cells (end - 1) (record (cell_at (end - 1) cells) { goes_on = false }) (omega (arith, some))

going-long : (end : ℕ) (cells : List Cell) → length (going_on false end cells) ≡ length cells
unfolding going_on
going-long end cells = length-set cells (end - 1) (record (cell_at (end - 1) cells) { goes_on = false })

-- One glyph of n columns at the cursor, which is inserted, and then m blanks behind it: as n + m blanks, and then the glyph.
module _ (start j n m end : ℕ) (space : Cell) (new cells : List Cell)
    (sum : start + (j + suc m) + suc n ≡ end) (whole : is_right space.part ≡ false) (long : length new ≡ suc n)
    (inside : end ≤ length cells) (are : ArePaired None cells) (free_end : right_at end cells ≡ false) (clear : right_at start (cut start cells) ≡ false)
    (base_are : ArePaired None (cut start cells)) where
  abbrev base : List Cell
  base = cut start cells

  abbrev behind : List Cell
  behind = drop start base

  base-long : length base ≡ length cells
  base-long = length-cut start cells

  abbrev front : List Cell
  front = take start base

  front-long : length front ≡ start
  front-long = length-take-le start base (omega (arith, base-long, inside, sum))

  abbrev kept : List Cell
  kept = trimmed (j + suc m) behind

  behind-long : length behind ≡ length cells - start
  behind-long = length-drop start base ∙ ap (λ k. k - start) base-long

  kept-long : length kept ≡ j + suc m
  kept-long = length-take-le (j + suc m) (cut (j + suc m) behind) (omega (arith, length-cut (j + suc m) behind, behind-long, inside, sum))

  behind-are : ArePaired None behind
  behind-are = paired-drop None start base base_are clear

  -- the first of what is kept is no right half
  kept-first : right_at 0 kept ≡ false
  kept-first =
      let none : start + 0 ≡ start = omega arith in
      ap (λ (x : Cell). is_right x.part) (get_or-take (j + suc m) (cut (j + suc m) behind) 0 (blank plain) (omega arith))
      ∙ (right-kept 0 (j + suc m) behind behind-are (omega arith)
      ∙ (right-drop start 0 base ∙ (ap (λ k. right_at k base) none ∙ clear)))

  -- the glyph, where room for it was made
  abbrev once : List Cell
  once = front ++ (new ++ (kept ++ drop end base))

  inserted-once : change start (start + suc n) (λ run. new) (inserted (suc n) start end space cells) ≡ once
  inserted-once =
      let blanks : List Cell = replicate (suc n) space in
      let rest : List Cell = kept ++ drop end base in
      let first : List Cell = front ++ blanks in
      let blanks_long : length blanks ≡ suc n = length-replicate (suc n) space in
      let first_long : length first ≡ start + suc n = omega (arith, length-append front blanks, front-long, blanks_long) in
      let free : right_at start (front ++ (blanks ++ rest)) ≡ false = right-past start front (blanks ++ rest) front-long ∙ whole in
      let free_next : right_at (start + suc n) (front ++ (blanks ++ rest)) ≡ false =
      ap (right_at (start + suc n)) (sym (append_assoc front blanks rest))
      ∙ (right-past (start + suc n) first rest first_long ∙ (first-of kept (drop end base) (omega (arith, kept-long)) ∙ kept-first)) in
      ap (change start (start + suc n) (λ run. new))
      (insert-form start (j + suc m) (suc n) end space cells base sum (omega arith) (omega (arith, base-long, inside)) clear free_end (cuts-paired start (j + suc m) cells are))
      ∙ put-form start (suc n) new front blanks rest front-long blanks_long free free_next

  -- the same, where room for more was made
  inserted-room : inserted (suc n + suc m) start end space cells
      ≡ front ++ (replicate (suc n) space ++ (replicate (suc m) space ++ (trimmed j behind ++ drop end base)))
  inserted-room =
      let last : List Cell = trimmed j behind ++ drop end base in
      insert-form start j (suc n + suc m) end space cells base (omega (arith, sum)) (omega arith) (omega (arith, base-long, inside)) clear free_end (cuts-paired start j cells are)
      ∙ ap (λ l. front ++ l)
      (ap (λ l. l ++ last) (sym (replicate-append-replicate (suc n) (suc m) space)) ∙ append_assoc (replicate (suc n) space) (replicate (suc m) space) last)

  inserted-more : change start (start + suc n) (λ run. new) (inserted (suc n + suc m) start end space cells)
      ≡ front ++ (new ++ (replicate (suc m) space ++ (trimmed j behind ++ drop end base)))
  inserted-more =
      let blanks : List Cell = replicate (suc n) space in
      let more : List Cell = replicate (suc m) space in
      let last : List Cell = trimmed j behind ++ drop end base in
      let rest : List Cell = more ++ last in
      let first : List Cell = front ++ blanks in
      let blanks_long : length blanks ≡ suc n = length-replicate (suc n) space in
      let first_long : length first ≡ start + suc n = omega (arith, length-append front blanks, front-long, blanks_long) in
      let free : right_at start (front ++ (blanks ++ rest)) ≡ false = right-past start front (blanks ++ rest) front-long ∙ whole in
      let free_next : right_at (start + suc n) (front ++ (blanks ++ rest)) ≡ false =
      ap (right_at (start + suc n)) (sym (append_assoc front blanks rest)) ∙ (right-past (start + suc n) first rest first_long ∙ whole) in
      ap (change start (start + suc n) (λ run. new)) inserted-room
      ∙ put-form start (suc n) new front blanks rest front-long blanks_long free free_next

  abbrev next : ℕ
  next = start + suc n

  -- behind the glyph it is as the room that was made
  pub insert-far : drop next (change start (start + suc n) (λ run. new) (inserted (suc n + suc m) start end space cells))
      ≡ drop next (inserted (suc n + suc m) start end space cells)
  insert-far =
      let rest : List Cell = replicate (suc m) space ++ (trimmed j behind ++ drop end base) in
      let past : (mid : List Cell) → length mid ≡ suc n → drop next (front ++ (mid ++ rest)) ≡ rest =
      λ mid mid_long.
      ap (drop next) (sym (append_assoc front mid rest))
      ∙ drop_at (front ++ mid) rest next (omega (arith, length-append front mid, front-long, mid_long)) in
      ap (drop next) inserted-more
      ∙ (past new long ∙ sym (ap (drop next) inserted-room ∙ past (replicate (suc n) space) (length-replicate (suc n) space)))

  once-front : take next once ≡ front ++ new
  once-front =
      ap (take next) (sym (append_assoc front new (kept ++ drop end base)))
      ∙ take_at (front ++ new) (kept ++ drop end base) next (omega (arith, length-append front new, front-long, long))

  once-behind : drop next once ≡ kept ++ drop end base
  once-behind =
      ap (drop next) (sym (append_assoc front new (kept ++ drop end base)))
      ∙ drop_at (front ++ new) (kept ++ drop end base) next (omega (arith, length-append front new, front-long, long))

  once-long : length once ≡ length base
  once-long =
      omega (arith, length-append front (new ++ (kept ++ drop end base)), length-append new (kept ++ drop end base), length-append kept (drop end base), length-drop end base, front-long, long, kept-long, base-long, inside, sum)

  free-next : right_at next once ≡ false
  free-next =
      let none : next + 0 ≡ next = omega arith in
      ap (λ k. right_at k once) (sym none)
      ∙ (sym (right-drop next 0 once) ∙ (ap (right_at 0) once-behind ∙ (first-of kept (drop end base) (omega (arith, kept-long)) ∙ kept-first)))

  once-end : drop end once ≡ drop end base
  once-end =
      let there : next + (j + suc m) ≡ end = omega (arith, sum) in
      ap (λ k. drop k once) (sym there)
      ∙ (sym (drop-drop (j + suc m) next once) ∙ (ap (drop (j + suc m)) once-behind ∙ drop_at kept (drop end base) (j + suc m) kept-long))

  free-end : right_at end once ≡ false
  free-end =
      let none : end + 0 ≡ end = omega arith in
      ap (λ k. right_at k once) (sym none)
      ∙ (sym (right-drop end 0 once) ∙ (ap (right_at 0) once-end ∙ (right-drop end 0 base ∙ (ap (λ k. right_at k base) none ∙ clear-cut_other start end cells free_end))))

  kept-trimmed : trimmed j (drop next (going_on false end once)) ≡ trimmed j behind
  kept-trimmed =
      let flagged : List Cell = going_on false end once in
      let all : List Cell = kept ++ drop end base in
      let below : j < j + suc m = omega arith in
      let first : take j (drop next flagged) ≡ take j all =
      sym (drop-take next j flagged)
      ∙ (ap (drop next) (going-front (next + j) end once (omega (arith, sum))) ∙ (drop-take next j once ∙ ap (take j) once-behind)) in
      let right : right_at j (drop next flagged) ≡ right_at j all =
      right-drop next j flagged ∙ (going-right false end (next + j) once ∙ (sym (right-drop next j once) ∙ ap (right_at j) once-behind)) in
      trimmed-same j (drop next flagged) behind
      (first
      ∙ (take-append-le j kept (drop end base) (omega (arith, kept-long))
      ∙ (take-take j (j + suc m) (cut (j + suc m) behind) (omega arith) ∙ take-kept j (j + suc m) behind below)))
      (right
      ∙ (ap (λ (x : Cell). is_right x.part) (get_or_append_left kept (drop end base) (blank plain) j (omega (arith, kept-long)))
      ∙ (ap (λ (x : Cell). is_right x.part) (get_or-take (j + suc m) (cut (j + suc m) behind) j (blank plain) (omega arith))
      ∙ right-kept j (j + suc m) behind behind-are below)))

  -- So it is the same.
  pub insert-more : inserted (suc m) (start + suc n) end space (going_on false end (change start (start + suc n) (λ run. new) (inserted (suc n) start end space cells)))
      ≡ change start (start + suc n) (λ run. new) (inserted (suc n + suc m) start end space cells)
  insert-more =
      let flagged : List Cell = going_on false end once in
      ap (λ l. inserted (suc m) next end space (going_on false end l)) inserted-once
      ∙ (insert-form next j (suc m) end space flagged flagged (omega (arith, sum)) (omega arith) (omega (arith, going-long end once, once-long, base-long, inside))
      (going-right false end next once ∙ free-next) (going-right false end end once ∙ free-end) (cuts-free next j flagged (going-right false end next once ∙ free-next))
      ∙ (ap (λ l. l ++ (replicate (suc m) space ++ (trimmed j (drop next flagged) ++ drop end flagged))) (going-front next end once (omega (arith, sum)) ∙ once-front)
      ∙ (ap (λ l. (front ++ new) ++ (replicate (suc m) space ++ (l ++ drop end flagged))) kept-trimmed
      ∙ (ap (λ l. (front ++ new) ++ (replicate (suc m) space ++ (trimmed j behind ++ l))) (going-behind end once (omega (arith, sum)) ∙ once-end)
      ∙ (append_assoc front new (replicate (suc m) space ++ (trimmed j behind ++ drop end base))
      ∙ sym inserted-more)))))

-- the same for any numbers
insert-on : (start j n m end : ℕ) (space : Cell) (new cells : List Cell) → 0 < n → 0 < m
    → start + (j + m) + n ≡ end → is_right space.part ≡ false → length new ≡ n
    → end ≤ length cells → ArePaired None cells → right_at end cells ≡ false → ArePaired None (cut start cells)
    → inserted m (start + n) end space (going_on false end (change start (start + n) (λ run. new) (inserted n start end space cells)))
    ≡ change start (start + n) (λ run. new) (inserted (n + m) start end space cells)
insert-on start j zero m end space new cells some more sum whole long inside are free_end base_are = absurd (omega (arith, some))
insert-on start j (suc n) zero end space new cells some more sum whole long inside are free_end base_are = absurd (omega (arith, more))
insert-on start j (suc n) (suc m) end space new cells some more sum whole long inside are free_end base_are =
    insert-more start j n m end space new cells sum whole long inside are free_end (clear-cut start cells are) base_are

far-on : (start j n m end : ℕ) (space : Cell) (new cells : List Cell) → 0 < n → 0 < m
    → start + (j + m) + n ≡ end → is_right space.part ≡ false → length new ≡ n
    → end ≤ length cells → ArePaired None cells → right_at end cells ≡ false → ArePaired None (cut start cells)
    → drop (start + n) (change start (start + n) (λ run. new) (inserted (n + m) start end space cells)) ≡ drop (start + n) (inserted (n + m) start end space cells)
far-on start j zero m end space new cells some more sum whole long inside are free_end base_are = absurd (omega (arith, some))
far-on start j (suc n) zero end space new cells some more sum whole long inside are free_end base_are = absurd (omega (arith, more))
far-on start j (suc n) (suc m) end space new cells some more sum whole long inside are free_end base_are =
    insert-far start j n m end space new cells sum whole long inside are free_end (clear-cut start cells are) base_are

-- what a character is shown as
abbrev character_of : ℕ → Display → ℕ
character_of c d = if draws d.cursor.charsets then drawn c else c

-- REP's character, where the row has room for it
again-by : (c : ℕ) (d : Display) (t : Bool) → d.inserts ≡ t → is_shown c ≡ true → 0 < columns c → d.cursor.column + columns c ≤ d.width
    → printed_again c d ≡ in_row (put_by t (columns c) (character_of c d) d d.cells) (d.cursor.column + columns c) d
unfolding printed_again printed shown
again-by c d t is may some fits =
    let same : columns (character_of c d) ≡ columns c = drawn-if c (draws d.cursor.charsets) in
    let room : nat_le (d.cursor.column + columns c) d.width ≡ true = le-leb (d.cursor.column + columns c) d.width fits in
    let other : (columns (character_of c d) == 0) ≡ false = ne_eqb (columns (character_of c d)) 0 (λ e. omega (arith, e, same, some)) in
    rw (room, may, other)
    (ap (λ k. put k (character_of c d) (wrapped k d).display) same ∙ put-by (columns c) (character_of c d) d d.cells t is fits)

-- the display out of insert mode, where room was made for so many columns
abbrev pub opened : ℕ → Display → Display
opened n d = record d {
  cells = inserted n (here d) (row_end d) (space d) (going_on false (row_end d) d.cells);
  inserts = false;
}

module _ (c : ℕ) (may : is_shown c ≡ true) (some : 0 < columns c) where
  abbrev n : ℕ
  n = columns c

  few : n ≤ 2
  few = columns-few c _ _ refl refl

  -- after one character
  abbrev after_one : Display → Display
  after_one d = in_row (put_by true n (character_of c d) d d.cells) (d.cursor.column + n) d

  module _ (d : Display) (whole : IsWhole d.width d.cells) (inside : row_end d ≤ length d.cells) (fits : d.cursor.column + n ≤ d.width) where
    abbrev ended : List Cell
    ended = going_on false (row_end d) d.cells

    ended-whole : IsWhole d.width ended
    ended-whole = whole-going_on d.width false (row_end d) d.cells whole

    ended-long : length ended ≡ length d.cells
    ended-long = length-going_on false (row_end d) d.cells

    end-free : is_right (cell_at (row_end d) ended).part ≡ false
    end-free =
        let next : (d.cursor.row + 1) * d.width ≡ row_end d = omega (arith, suc-mul d.cursor.row d.width) in
        subst (λ k. is_right (cell_at k ended).part ≡ false) next (ended-whole.rows_begin (d.cursor.row + 1))

    room-whole : IsWhole d.width (inserted n (here d) (row_end d) (space d) ended)
    room-whole =
        whole-inserted d.width d.cursor.row (here d) (row_end d) n (space d) ended refl refl (omega arith) (omega (arith, fits)) (omega arith)
        (omega (arith, ended-long, inside)) ended-whole

    room-long : length (inserted n (here d) (row_end d) (space d) ended) ≡ length d.cells
    room-long =
        length-inserted d.width d.cursor.row (here d) (row_end d) n (space d) ended refl refl (omega arith) (omega (arith, fits)) (omega arith)
        (omega (arith, ended-long, inside)) ∙ ended-long

    abbrev over : List Cell
    over = over_by true n (character_of c d) d d.cells

    abbrev says : Bool
    says = (cell_at (row_end d - 1) (room_by true n d d.cells)).goes_on

    one-whole : IsWhole d.width (after_one d).cells
    one-whole =
        whole-going_on d.width says (row_end d) over
        (whole-glyph d.width d.cursor.row (here d) n (character_of c d) d.cursor.style d.link (inserted n (here d) (row_end d) (space d) ended) some few
        (omega arith) (omega (arith, fits)) (omega (arith, room-long, inside, fits)) room-whole)

    one-long : length (after_one d).cells ≡ length d.cells
    one-long =
        length-going_on says (row_end d) over
        ∙ (length-put (here d) n (character_of c d) d.cursor.style d.link (inserted n (here d) (row_end d) (space d) ended) some few
        (omega (arith, room-long, inside, fits)) ∙ room-long)

    -- room for m columns more
    one-more : (m : ℕ) → 0 < m → d.cursor.column + (n + m) ≤ d.width
        → printed_again c (opened (n + m) d) ≡ opened m (after_one d)
    one-more m more fit =
        let there : here (after_one d) ≡ here d + n = omega arith in
        let end : row_end d ≡ here d + (d.width - d.cursor.column - n - m + m) + n = omega (arith, fit) in
        let glyphs : List Cell = glyph n (character_of c d) d.cursor.style d.link in
        let room : List Cell = inserted (n + m) (here d) (row_end d) (space d) ended in
        let put : List Cell = change (here d) (here d + n) (λ run. glyphs) room in
        let glyphs_long : length glyphs ≡ n = length-glyph n (character_of c d) d.cursor.style d.link _ refl some few in
        let step : inserted m (here d + n) (row_end d) (space d) (going_on false (row_end d) over) ≡ put =
        insert-on (here d) (d.width - d.cursor.column - n - m) n m (row_end d) (space d) glyphs ended some more (sym end) refl
        glyphs_long (omega (arith, ended-long, inside)) ended-whole.paired end-free
        (whole-cut d.width (here d) ended ended-whole).paired in
        let behind : drop (here d + n) put ≡ drop (here d + n) room =
        far-on (here d) (d.width - d.cursor.column - n - m) n m (row_end d) (space d) glyphs ended some more (sym end) refl
        glyphs_long (omega (arith, ended-long, inside)) ended-whole.paired end-free
        (whole-cut d.width (here d) ended ended-whole).paired in
        let far : put ≡ going_on (cell_at (row_end d - 1) room).goes_on (row_end d) put = going-far (row_end d) (here d + n) room put behind (omega (arith, more, end)) in
        let twice : going_on false (row_end d) (after_one d).cells ≡ going_on false (row_end d) over = going-twice false says (row_end d) over in
        again-by c (opened (n + m) d) false refl may some fits
        ∙ ap (λ cells. record (in_row cells (d.cursor.column + n) d) { inserts = false })
        (sym far
        ∙ (sym step
        ∙ (ap (λ l. inserted m (here d + n) (row_end d) (space d) l) (sym twice)
        ∙ ap (λ k. inserted m k (row_end d) (space d) (going_on false (row_end d) (after_one d).cells)) (sym there))))

  -- So all of them are inserted at once.
  pub inserted-times : (k : ℕ) (d : Display) → d.inserts ≡ true → IsWhole d.width d.cells → row_end d ≤ length d.cells
      → d.cursor.column + suc k * n ≤ d.width
      → record (iterate (printed_again c) (suc k) (opened (suc k * n) d)) { inserts = true } ≡ iterate (printed_again c) (suc k) d
  inserted-times zero d is whole inside fits =
      let one : suc zero * n ≡ n = omega (arith, suc-mul zero n) in
      let fit : d.cursor.column + n ≤ d.width = omega (arith, one, fits) in
      ap (λ k. record (printed_again c (opened k d)) { inserts = true }) one
      ∙ (ap (λ (e : Display). record e { inserts = true }) (again-by c (opened n d) false refl may some fit)
      ∙ (ap (λ t. record (after_one d) { inserts = t }) (sym is) ∙ sym (again-by c d true is may some fit)))
  inserted-times (suc k) d is whole inside fits =
      let more : suc (suc k) * n ≡ n + suc k * n = omega (arith, suc-mul (suc k) n) in
      let rest : 0 < suc k * n = omega (arith, suc-mul k n, some) in
      let fit : d.cursor.column + n ≤ d.width = omega (arith, more, fits) in
      let step : printed_again c (opened (suc (suc k) * n) d) ≡ opened (suc k * n) (after_one d) =
      ap (λ m. printed_again c (opened m d)) more ∙ one-more d whole inside fit (suc k * n) rest (omega (arith, more, fits)) in
      ap (λ e. record (iterate (printed_again c) (suc k) e) { inserts = true }) step
      ∙ (inserted-times k (after_one d) is (one-whole d whole inside fit) (omega (arith, one-long d whole inside fit, inside)) (omega (arith, more, fits))
      ∙ ap (iterate (printed_again c) (suc k)) (sym (again-by c d true is may some fit)))

pub inserted-all : (c count : ℕ) (d : Display) → is_shown c ≡ true → 0 < columns c → 0 < count → d.inserts ≡ true
    → IsWhole d.width d.cells → row_end d ≤ length d.cells → d.cursor.column + count * columns c ≤ d.width
    → record (iterate (printed_again c) count (opened (count * columns c) d)) { inserts = true } ≡ iterate (printed_again c) count d
inserted-all c zero d may some more is whole inside fits = absurd (omega (arith, more))
inserted-all c (suc k) d may some more is whole inside fits = inserted-times c may some k d is whole inside fits

-- a row ends where the cells do, or before
pub row-inside : (row width height : ℕ) → row < height → row * width + width ≤ height * width
row-inside row width height below =
    let fits : suc row * width ≤ height * width = mul-le-mul_right {m = suc row} {n = height} width (omega (arith, below)) in
    omega (arith, fits, suc-mul row width)
