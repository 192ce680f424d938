-- Halves of wide characters stand in pairs, whatever is done to cells.
use Rattle.std.proofs.Common.{◌≡◌, ℕ, zero, suc, ◌+◌, ◌-◌, ◌*◌, ◌<◌, ◌≤◌, Bool, true, false, ◌&&◌, List, [], ◌∷◌, ◌++◌, length, get_or, take, drop, set, refl, ap, sym, ◌∙◌, subst, arith}
use Rattle.std.specs.Prelude.{min, replicate, nat_lt, Option, None, Some}
use Rattle.std.proofs.lemmas.List.{get_or-drop, length-set, length-take-le, length-replicate, length-drop, length-append, get_or_append_left, get_or-append_right, get_or-take}
use Rattle.std.proofs.lemmas.Bool.{and_parts}
use Rattle.std.proofs.Math.Nat.{mul-le-mul_right, suc-mul}
use borrow.Author.Tests.{ltb-true, ltb-false}
use Rattle.ansi_style.specs.Style.{plain}
use Rattle.ansi_screen.specs.declared.cell.Cell.{Cell}
use Rattle.ansi_screen.specs.declared.cell.Part.{Part}
use Rattle.ansi_screen.specs.declared.cell.Part.TheVariants.{Empty, Whole, Left, Right}
use Rattle.ansi_screen.specs.Cells.{blank, emptied, is_right, cell_at, cut, within, change, erased, moved_back, moved_on}
use Rattle.ansi_style.specs.declared.style.Style.{Style}
use Rattle.ansi_screen.specs.Reachable.{is_left, left_style, right_style, ArePaired, IsWhole}

-- a part is not both
pub right-not-left : (part : Part) → is_right part ≡ true → is_left part ≡ false
right-not-left Empty is = cc is
right-not-left Whole is = cc is
right-not-left Left is = cc is
right-not-left Right is = refl

pub left-not-right : (part : Part) → is_left part ≡ true → is_right part ≡ false
left-not-right Empty is = cc is
left-not-right Whole is = cc is
left-not-right Left is = refl
left-not-right Right is = cc is

-- the styles of halves
pub right-none : (x : Cell) → is_right x.part ≡ false → right_style x ≡ None
right-none x free = rw free refl

pub left-none : (x : Cell) → is_left x.part ≡ false → left_style x ≡ None
left-none x free = rw free refl

none-right_at : (x : Cell) (t : Bool) → is_right x.part ≡ t → right_style x ≡ None → is_right x.part ≡ false
none-right_at x true is none = let some : right_style x ≡ Some x.style = rw is refl in cc
none-right_at x false is none = is

pub none-right : (x : Cell) → right_style x ≡ None → is_right x.part ≡ false
none-right x none = none-right_at x _ refl none

-- lists of cells, put together and taken apart between characters
pub paired-append : (behind : Option Style) (xs ys : List Cell) → ArePaired behind xs → ArePaired None ys → ArePaired behind (xs ++ ys)
paired-append behind [] ys are others = subst (λ b. ArePaired b ys) (sym are) others
paired-append behind (x ∷ xs) ys are others = (are.0, paired-append (left_style x) xs ys are.1 others)

pub paired-take : (behind : Option Style) (k : ℕ) (xs : List Cell) → ArePaired behind xs → is_right (cell_at k xs).part ≡ false → ArePaired behind (take k xs)
paired-take behind zero [] are free = are
paired-take behind zero (x ∷ xs) are free = sym are.0 ∙ right-none x free
paired-take behind (suc k) [] are free = are
paired-take behind (suc k) (x ∷ xs) are free = (are.0, paired-take (left_style x) k xs are.1 free)

pub paired-drop : (behind : Option Style) (k : ℕ) (xs : List Cell) → ArePaired behind xs → is_right (cell_at k xs).part ≡ false → ArePaired None (drop k xs)
paired-drop behind zero [] are free = refl
paired-drop behind zero (x ∷ xs) are free = (right-none x free, are.1)
paired-drop behind (suc k) [] are free = refl
paired-drop behind (suc k) (x ∷ xs) are free = paired-drop (left_style x) k xs are.1 free

-- cells that are whole
pub paired-replicate : (n : ℕ) (x : Cell) → is_right x.part ≡ false → is_left x.part ≡ false → ArePaired None (replicate n x)
paired-replicate zero x right left = refl
paired-replicate (suc n) x right left =
    (right-none x right, subst (λ b. ArePaired b (replicate n x)) (sym (left-none x left)) (paired-replicate n x right left))

-- the first of paired cells is no right half
pub paired-first : (xs : List Cell) → ArePaired None xs → is_right (cell_at 0 xs).part ≡ false
paired-first [] are = refl
paired-first (x ∷ xs) are = none-right x are.0

-- a cell that is set to no right half
pub right-set : (xs : List Cell) (i j : ℕ) (x : Cell) → is_right x.part ≡ false → is_right (cell_at j xs).part ≡ false → is_right (cell_at j (set xs i x)).part ≡ false
right-set [] i j x whole free = free
right-set (y ∷ xs) zero zero x whole free = whole
right-set (y ∷ xs) zero (suc j) x whole free = free
right-set (y ∷ xs) (suc i) zero x whole free = free
right-set (y ∷ xs) (suc i) (suc j) x whole free = right-set xs i j x whole free

right-set_same : (xs : List Cell) (i : ℕ) (x : Cell) → is_right x.part ≡ false → is_right (cell_at i (set xs i x)).part ≡ false
right-set_same [] i x whole = refl
right-set_same (y ∷ xs) zero x whole = whole
right-set_same (y ∷ xs) (suc i) x whole = right-set_same xs i x whole

-- a right half stands behind a left one
pub behind-left_at : (x : Cell) (style : Style) (t : Bool) → is_left x.part ≡ t → left_style x ≡ Some style → is_left x.part ≡ true
behind-left_at x style true is some = is
behind-left_at x style false is some = let none : left_style x ≡ None = rw is refl in cc

pub some-right : (x : Cell) → is_right x.part ≡ true → right_style x ≡ Some x.style
some-right x is = rw is refl

-- a pair that becomes two whole cells
paired-set : (behind : Option Style) (xs : List Cell) (i : ℕ) (x y : Cell) → is_right x.part ≡ false → is_left x.part ≡ false
    → is_right y.part ≡ false → is_left y.part ≡ false → ArePaired behind xs → is_right (cell_at (suc i) xs).part ≡ true
    → ArePaired behind (set (set xs i x) (suc i) y)
paired-set behind [] i x y rx lx ry ly are half = cc half
paired-set behind (a ∷ []) zero x y rx lx ry ly are half = cc half
paired-set behind (a ∷ b ∷ xs) zero x y rx lx ry ly are half =
    let is : is_left a.part ≡ true = behind-left_at a b.style _ refl (sym are.1.0 ∙ some-right b half) in
    let first : None ≡ behind = sym (right-none a (left-not-right a.part is)) ∙ are.0 in
    let rest : left_style b ≡ left_style y = left-none b (right-not-left b.part half) ∙ sym (left-none y ly) in
    (right-none x rx ∙ first, (right-none y ry ∙ sym (left-none x lx), subst (λ t. ArePaired t xs) rest are.1.1))
paired-set behind (a ∷ xs) (suc i) x y rx lx ry ly are half = (are.0, paired-set (left_style a) xs i x y rx lx ry ly are.1 half)

-- cutting leaves pairs, and no right half where it cuts
cut-whole : (width place : ℕ) (cells : List Cell) (t : Bool) → (nat_lt 0 place && is_right (cell_at place cells).part) ≡ t
    → IsWhole width cells → IsWhole width (cut place cells)
unfolding cut
cut-whole width place cells false is whole = rw is whole
cut-whole width place cells true is whole =
    let parts : (nat_lt 0 place ≡ true) × (is_right (cell_at place cells).part ≡ true) = and_parts _ _ is in
    let some : 0 < place = ltb-true 0 place parts.0 in
    let next : suc (place - 1) ≡ place = omega arith in
    let half : is_right (cell_at (suc (place - 1)) cells).part ≡ true = rw next parts.1 in
    let left : Cell = emptied (cell_at (place - 1) cells) in
    let right : Cell = emptied (cell_at place cells) in
    let pairs : ArePaired None (set (set cells (place - 1) left) (suc (place - 1)) right) =
    paired-set None cells (place - 1) left right refl refl refl refl whole.paired half in
    rw is (record {
      paired = subst (λ k. ArePaired None (set (set cells (place - 1) left) k right)) next pairs;
      rows_begin = λ row. right-set (set cells (place - 1) left) place (row * width) right refl
          (right-set cells (place - 1) (row * width) left refl (whole.rows_begin row));
    })

pub whole-cut : (width place : ℕ) (cells : List Cell) → IsWhole width cells → IsWhole width (cut place cells)
whole-cut width place cells whole = cut-whole width place cells _ refl whole

cut-clear : (place : ℕ) (cells : List Cell) (t u : Bool) → nat_lt 0 place ≡ t → is_right (cell_at place cells).part ≡ u
    → ArePaired None cells → is_right (cell_at place (cut place cells)).part ≡ false
unfolding cut
cut-clear place cells true true some half are =
    rw (some, half) (right-set_same (set cells (place - 1) (emptied (cell_at (place - 1) cells))) place (emptied (cell_at place cells)) refl)
cut-clear place cells true false some half are = rw (some, half) half
cut-clear place cells false u none half are =
    let first : place ≡ 0 = omega (arith, ltb-false 0 place none) in
    rw none (subst (λ k. is_right (cell_at k cells).part ≡ false) (sym first) (paired-first cells are))

pub clear-cut : (place : ℕ) (cells : List Cell) → ArePaired None cells → is_right (cell_at place (cut place cells)).part ≡ false
clear-cut place cells are = cut-clear place cells _ _ refl refl are

-- what is no right half stays so, wherever is cut
cut-clear_other : (place j : ℕ) (cells : List Cell) (t : Bool) → (nat_lt 0 place && is_right (cell_at place cells).part) ≡ t
    → is_right (cell_at j cells).part ≡ false → is_right (cell_at j (cut place cells)).part ≡ false
unfolding cut
cut-clear_other place j cells false is free = rw is free
cut-clear_other place j cells true is free =
    rw is (right-set (set cells (place - 1) (emptied (cell_at (place - 1) cells))) place j (emptied (cell_at place cells)) refl
    (right-set cells (place - 1) j (emptied (cell_at (place - 1) cells)) refl free))

pub clear-cut_other : (place j : ℕ) (cells : List Cell) → is_right (cell_at j cells).part ≡ false → is_right (cell_at j (cut place cells)).part ≡ false
clear-cut_other place j cells free = cut-clear_other place j cells _ refl free

cut-length : (place : ℕ) (cells : List Cell) (t : Bool) → (nat_lt 0 place && is_right (cell_at place cells).part) ≡ t
    → length (cut place cells) ≡ length cells
unfolding cut
cut-length place cells false is = rw is refl
cut-length place cells true is =
    rw is (length-set (set cells (place - 1) (emptied (cell_at (place - 1) cells))) place (emptied (cell_at place cells))
    ∙ length-set cells (place - 1) (emptied (cell_at (place - 1) cells)))

pub length-cut : (place : ℕ) (cells : List Cell) → length (cut place cells) ≡ length cells
length-cut place cells = cut-length place cells _ refl

-- the run between two places, neither of which is in a pair
pub paired-run : (start end : ℕ) (cells : List Cell) → start ≤ end → ArePaired None cells
    → is_right (cell_at start cells).part ≡ false → is_right (cell_at end cells).part ≡ false
    → ArePaired None (take (end - start) (drop start cells))
paired-run start end cells order are free free_end =
    let there : start + (end - start) ≡ end = omega arith in
    paired-take None (end - start) (drop start cells) (paired-drop None start cells are free)
    (ap (λ (x : Cell). is_right x.part) (get_or-drop start cells (end - start) (blank plain)) ∙ rw there free_end)

-- a change between two such places that leaves its run in pairs leaves all of them
pub paired-within : (start end : ℕ) (how : List Cell → List Cell) (cells : List Cell) → start ≤ end → ArePaired None cells
    → is_right (cell_at start cells).part ≡ false → is_right (cell_at end cells).part ≡ false
    → ArePaired None (how (take (end - start) (drop start cells))) → ArePaired None (within start end how cells)
paired-within start end how cells order are free free_end run =
    let there : start + (end - start) ≡ end = omega arith in
    let behind : ArePaired None (drop (end - start) (drop start cells)) =
    paired-drop None (end - start) (drop start cells) (paired-drop None start cells are free)
    (ap (λ (x : Cell). is_right x.part) (get_or-drop start cells (end - start) (blank plain)) ∙ rw there free_end) in
    paired-append None (take start cells) _ (paired-take None start cells are free)
    (paired-append None (how (take (end - start) (drop start cells))) _ run behind)

-- a place of the changed cells: before the run, in it, or behind it
within-place_at : (start end j : ℕ) (run : List Cell) (cells : List Cell) (t u : Bool) → nat_lt j start ≡ t → nat_lt j end ≡ u
    → start ≤ end → end ≤ length cells → length run ≡ end - start → is_right (cell_at j cells).part ≡ false
    → (start ≤ j → j < end → is_right (cell_at (j - start) run).part ≡ false)
    → is_right (cell_at j (take start cells ++ (run ++ drop (end - start) (drop start cells)))).part ≡ false
within-place_at start end j run cells true u before below order inside long free changed =
    let less : j < start = ltb-true j start before in
    let front : length (take start cells) ≡ start = length-take-le start cells (omega arith) in
    ap (λ (x : Cell). is_right x.part)
    (get_or_append_left (take start cells) (run ++ drop (end - start) (drop start cells)) (blank plain) j (omega arith)
    ∙ get_or-take start cells j (blank plain) less) ∙ free
within-place_at start end j run cells false true before below order inside long free changed =
    let reached : start ≤ j = ltb-false j start before in
    let less : j < end = ltb-true j end below in
    let front : length (take start cells) ≡ start = length-take-le start cells (omega arith) in
    ap (λ (x : Cell). is_right x.part)
    (get_or-append_right (take start cells) (run ++ drop (end - start) (drop start cells)) start j (blank plain) front reached
    ∙ get_or_append_left run (drop (end - start) (drop start cells)) (blank plain) (j - start) (omega arith))
    ∙ changed reached less
within-place_at start end j run cells false false before below order inside long free changed =
    let reached : start ≤ j = ltb-false j start before in
    let past : end ≤ j = ltb-false j end below in
    let front : length (take start cells) ≡ start = length-take-le start cells (omega arith) in
    let there : start + (end - start + (j - start - (end - start))) ≡ j = omega arith in
    ap (λ (x : Cell). is_right x.part)
    (get_or-append_right (take start cells) (run ++ drop (end - start) (drop start cells)) start j (blank plain) front reached
    ∙ (get_or-append_right run (drop (end - start) (drop start cells)) (end - start) (j - start) (blank plain) long (omega arith)
    ∙ (get_or-drop (end - start) (drop start cells) (j - start - (end - start)) (blank plain)
    ∙ (get_or-drop start cells (end - start + (j - start - (end - start))) (blank plain)
    ∙ ap (λ k. get_or cells k (blank plain)) there)))) ∙ free

pub within-place : (start end j : ℕ) (how : List Cell → List Cell) (cells : List Cell) → start ≤ end → end ≤ length cells
    → length (how (take (end - start) (drop start cells))) ≡ end - start → is_right (cell_at j cells).part ≡ false
    → (start ≤ j → j < end → is_right (cell_at (j - start) (how (take (end - start) (drop start cells)))).part ≡ false)
    → is_right (cell_at j (within start end how cells)).part ≡ false
within-place start end j how cells order inside long free changed =
    within-place_at start end j (how (take (end - start) (drop start cells))) cells _ _ refl refl order inside long free changed

pub length-run : (start end : ℕ) (cells : List Cell) → end ≤ length cells → length (take (end - start) (drop start cells)) ≡ end - start
length-run start end cells inside = length-take-le (end - start) (drop start cells) (omega (arith, length-drop start cells))

pub length-within : (start end : ℕ) (how : List Cell → List Cell) (cells : List Cell) → start ≤ end → end ≤ length cells
    → length (how (take (end - start) (drop start cells))) ≡ end - start → length (within start end how cells) ≡ length cells
length-within start end how cells order inside long =
    omega (
      arith,
      length-append (take start cells) (how (take (end - start) (drop start cells)) ++ drop (end - start) (drop start cells)),
      length-append (how (take (end - start) (drop start cells))) (drop (end - start) (drop start cells)),
      length-take-le start cells (omega arith),
      length-drop (end - start) (drop start cells),
      length-drop start cells,
      long,
      order,
      inside,
    )

-- a row that begins in a run of one row begins where the run does
in-row_at : (width row start end j : ℕ) (t : Bool) → nat_lt row j ≡ t → row * width ≤ start → end ≤ row * width + width
    → start ≤ j * width → j * width < end → j * width ≡ start
in-row_at width row start end j true is from to reached less =
    let below : suc row ≤ j = ltb-true row j is in
    let past : suc row * width ≤ j * width = mul-le-mul_right {m = suc row} {n = j} width below in
    let next : suc row * width ≡ row * width + width = suc-mul row width in
    absurd (omega arith)
in-row_at width row start end j false is from to reached less =
    let below : j ≤ row = ltb-false row j is in
    let before : j * width ≤ row * width = mul-le-mul_right {m = j} {n = row} width below in
    omega arith

in-row : (width row start end j : ℕ) → row * width ≤ start → end ≤ row * width + width → start ≤ j * width → j * width < end → j * width ≡ start
in-row width row start end j from to reached less = in-row_at width row start end j (nat_lt row j) refl from to reached less

-- The cells of one row, from start up to end, are changed, after a cut at both.
pub whole-change : (width row start end : ℕ) (how : List Cell → List Cell) (cells : List Cell) → row * width ≤ start → start ≤ end
    → end ≤ row * width + width → end ≤ length cells → IsWhole width cells
    → ArePaired None (how (take (end - start) (drop start (cut start (cut end cells)))))
    → length (how (take (end - start) (drop start (cut start (cut end cells))))) ≡ end - start
    → IsWhole width (within start end how (cut start (cut end cells)))
whole-change width row start end how cells from order to inside whole run long =
    let first : List Cell = cut end cells in
    let both : List Cell = cut start first in
    let first_whole : IsWhole width first = whole-cut width end cells whole in
    let both_whole : IsWhole width both = whole-cut width start first first_whole in
    let free : is_right (cell_at start both).part ≡ false = clear-cut start first first_whole.paired in
    let free_end : is_right (cell_at end both).part ≡ false = clear-cut_other start end first (clear-cut end cells whole.paired) in
    let inside_both : end ≤ length both = omega (arith, length-cut start first, length-cut end cells) in
    record {
      paired = paired-within start end how both order both_whole.paired free free_end run;
      rows_begin = λ j. within-place start end (j * width) how both order inside_both long (both_whole.rows_begin j)
          (λ reached less.
          let begins : j * width - start ≡ 0 = omega (arith, in-row width row start end j from to reached less) in
          rw begins (paired-first (how (take (end - start) (drop start both))) run));
    }

pub length-change : (start end : ℕ) (how : List Cell → List Cell) (cells : List Cell) → start ≤ end → end ≤ length cells
    → length (how (take (end - start) (drop start (cut start (cut end cells))))) ≡ end - start
    → length (within start end how (cut start (cut end cells))) ≡ length cells
length-change start end how cells order inside long =
    length-within start end how (cut start (cut end cells)) order (omega (arith, length-cut start (cut end cells), length-cut end cells)) long
    ∙ (length-cut start (cut end cells) ∙ length-cut end cells)

-- all of a run is erased, in one row or in more
pub right-replicate : (n j : ℕ) (x : Cell) → is_right x.part ≡ false → is_right (cell_at j (replicate n x)).part ≡ false
right-replicate zero j x whole = refl
right-replicate (suc n) zero x whole = whole
right-replicate (suc n) (suc j) x whole = right-replicate n j x whole

pub whole-erased : (width start end : ℕ) (space : Cell) (cells : List Cell) → start ≤ end → end ≤ length cells
    → is_right space.part ≡ false → is_left space.part ≡ false → IsWhole width cells
    → IsWhole width (change start end (erased space) cells)
whole-erased width start end space cells order inside right left whole =
    let first : List Cell = cut end cells in
    let both : List Cell = cut start first in
    let first_whole : IsWhole width first = whole-cut width end cells whole in
    let both_whole : IsWhole width both = whole-cut width start first first_whole in
    let free : is_right (cell_at start both).part ≡ false = clear-cut start first first_whole.paired in
    let free_end : is_right (cell_at end both).part ≡ false = clear-cut_other start end first (clear-cut end cells whole.paired) in
    let inside_both : end ≤ length both = omega (arith, length-cut start first, length-cut end cells) in
    let run : ℕ = length (take (end - start) (drop start both)) in
    record {
      paired = paired-within start end (erased space) both order both_whole.paired free free_end (paired-replicate run space right left);
      rows_begin = λ j. within-place start end (j * width) (erased space) both order inside_both
          (length-replicate run space ∙ length-run start end both inside_both) (both_whole.rows_begin j)
          (λ reached less. right-replicate run (j * width - start) space right);
    }

-- What moves in a run stays in pairs, where the run is cut between characters.
pub paired-back : (count : ℕ) (space : Cell) (run : List Cell) → is_right space.part ≡ false → is_left space.part ≡ false → ArePaired None run
    → is_right (cell_at (min count (length run)) run).part ≡ false → ArePaired None (moved_back count space run)
paired-back count space run right left are free =
    paired-append None (drop (min count (length run)) run) (replicate (min count (length run)) space)
    (paired-drop None (min count (length run)) run are free) (paired-replicate (min count (length run)) space right left)

pub paired-on : (count : ℕ) (space : Cell) (run : List Cell) → is_right space.part ≡ false → is_left space.part ≡ false → ArePaired None run
    → is_right (cell_at (length run - min count (length run)) run).part ≡ false → ArePaired None (moved_on count space run)
paired-on count space run right left are free =
    paired-append None (replicate (min count (length run)) space) (take (length run - min count (length run)) run)
    (paired-replicate (min count (length run)) space right left) (paired-take None (length run - min count (length run)) run are free)

pub length-back : (count : ℕ) (space : Cell) (run : List Cell) → length (moved_back count space run) ≡ length run
length-back count space run =
    omega (
      arith,
      length-append (drop (min count (length run)) run) (replicate (min count (length run)) space),
      length-drop (min count (length run)) run,
      length-replicate (min count (length run)) space,
    )

pub length-on : (count : ℕ) (space : Cell) (run : List Cell) → length (moved_on count space run) ≡ length run
length-on count space run =
    omega (
      arith,
      length-append (replicate (min count (length run)) space) (take (length run - min count (length run)) run),
      length-take-le (length run - min count (length run)) run (omega arith),
      length-replicate (min count (length run)) space,
    )

-- a place of what moved
pub right-back : (count j : ℕ) (space : Cell) (run : List Cell) (t : Bool) → nat_lt j (length run - min count (length run)) ≡ t → is_right space.part ≡ false
    → (j + min count (length run) < length run → is_right (cell_at (min count (length run) + j) run).part ≡ false)
    → is_right (cell_at j (moved_back count space run)).part ≡ false
right-back count j space run true is right free =
    let n : ℕ = min count (length run) in
    let less : j < length run - n = ltb-true j (length run - n) is in
    let kept : length (drop n run) ≡ length run - n = length-drop n run in
    ap (λ (x : Cell). is_right x.part)
    (get_or_append_left (drop n run) (replicate n space) (blank plain) j (omega arith) ∙ get_or-drop n run j (blank plain))
    ∙ free (omega arith)
right-back count j space run false is right free =
    let n : ℕ = min count (length run) in
    let past : length run - n ≤ j = ltb-false j (length run - n) is in
    ap (λ (x : Cell). is_right x.part)
    (get_or-append_right (drop n run) (replicate n space) (length run - n) j (blank plain) (length-drop n run) past)
    ∙ right-replicate n (j - (length run - n)) space right

pub right-on : (count j : ℕ) (space : Cell) (run : List Cell) (t : Bool) → nat_lt j (min count (length run)) ≡ t → is_right space.part ≡ false
    → (min count (length run) ≤ j → j < length run → is_right (cell_at (j - min count (length run)) run).part ≡ false)
    → j < length run → is_right (cell_at j (moved_on count space run)).part ≡ false
right-on count j space run true is right free inside =
    let n : ℕ = min count (length run) in
    let less : j < n = ltb-true j n is in
    ap (λ (x : Cell). is_right x.part)
    (get_or_append_left (replicate n space) (take (length run - n) run) (blank plain) j (omega (arith, length-replicate n space)))
    ∙ right-replicate n j space right
right-on count j space run false is right free inside =
    let n : ℕ = min count (length run) in
    let past : n ≤ j = ltb-false j n is in
    ap (λ (x : Cell). is_right x.part)
    (get_or-append_right (replicate n space) (take (length run - n) run) n j (blank plain) (length-replicate n space) past
    ∙ get_or-take (length run - n) run (j - n) (blank plain) (omega arith))
    ∙ free past inside
