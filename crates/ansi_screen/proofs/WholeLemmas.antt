-- Edits leave the halves of wide characters in pairs, each pair in one row.
use Rattle.std.proofs.Common.{◌≡◌, ℕ, zero, suc, ◌+◌, ◌-◌, ◌*◌, ◌<◌, ◌≤◌, Bool, true, false, List, [], ◌∷◌, length, take, drop, set, refl, ap, sym, ◌∙◌, subst, arith}
use Rattle.std.specs.Prelude.{min, nat_lt, nat_eq, Option, None, if◌then◌else◌}
use Rattle.std.proofs.lemmas.List.{get_or-drop, get_or_past, length-set, length-replicate}
use Rattle.std.proofs.Math.Nat.{add-mul, le_of_mul-le-mul_right}
use borrow.Author.Tests.{ltb-true, ltb-false, eqb-true, eqb-false}
use Rattle.ansi_style.specs.Style.{plain}
use Rattle.ansi_style.specs.declared.style.Style.{Style}
use Rattle.ansi_screen.specs.declared.cell.Cell.{Cell}
use Rattle.ansi_screen.specs.Cells.{blank, is_right, cell_at, cut, within, change, erased, moved_back, moved_on, deleted, inserted, with_mark, marked_before, going_on}
use Rattle.ansi_screen.specs.Print.{glyph}
use Rattle.ansi_screen.specs.Reachable.{is_left, left_style, right_style, ArePaired, IsWhole}
use Rattle.ansi_screen.proofs.PairLemmas.{paired-run, paired-within, within-place, length-run, length-within, length-cut, length-change, length-back, length-on, paired-back, paired-on, right-back, right-on, clear-cut, clear-cut_other, whole-cut, whole-change}

right-take : (k i : ℕ) (xs : List Cell) → is_right (cell_at i xs).part ≡ false → is_right (cell_at i (take k xs)).part ≡ false
right-take zero i xs free = refl
right-take (suc k) i [] free = refl
right-take (suc k) zero (x ∷ xs) free = free
right-take (suc k) (suc i) (x ∷ xs) free = right-take k i xs free

-- a place of a run
right-run : (start end i : ℕ) (cells : List Cell) → is_right (cell_at (start + i) cells).part ≡ false
    → is_right (cell_at i (take (end - start) (drop start cells))).part ≡ false
right-run start end i cells free =
    right-take (end - start) i (drop start cells) (ap (λ (x : Cell). is_right x.part) (get_or-drop start cells i (blank plain)) ∙ free)

right-min : (k : ℕ) (run : List Cell) (t : Bool) → nat_lt k (length run) ≡ t → is_right (cell_at k run).part ≡ false
    → is_right (cell_at (min k (length run)) run).part ≡ false
right-min k run true is free =
    let less : k < length run = ltb-true k (length run) is in
    let same : min k (length run) ≡ k = omega arith in
    rw same free
right-min k run false is free =
    let past : length run ≤ k = ltb-false k (length run) is in
    let same : min k (length run) ≡ length run = omega arith in
    rw same (ap (λ (x : Cell). is_right x.part) (get_or_past run (length run) (blank plain) (omega arith)))

module _ (width row start end count : ℕ) (space : Cell) (cells : List Cell)
    (right : is_right space.part ≡ false) (left : is_left space.part ≡ false)
    (from : row * width ≤ start) (order : start ≤ end) (to : end ≤ row * width + width) (inside : end ≤ length cells) where
  -- DCH and ICH, within a row
  pub whole-deleted : IsWhole width cells → IsWhole width (deleted count start end space cells)
  whole-deleted whole =
      let place : ℕ = start + min count (end - start) in
      let first : List Cell = cut place cells in
      let first_whole : IsWhole width first = whole-cut width place cells whole in
      let inside_first : end ≤ length first = omega (arith, length-cut place cells) in
      let both : List Cell = cut start (cut end first) in
      let inside_both : end ≤ length both = omega (arith, length-cut start (cut end first), length-cut end first) in
      let run : List Cell = take (end - start) (drop start both) in
      let long : length run ≡ end - start = length-run start end both inside_both in
      let second_whole : IsWhole width (cut end first) = whole-cut width end first first_whole in
      let both_whole : IsWhole width both = whole-cut width start (cut end first) second_whole in
      let free : is_right (cell_at place both).part ≡ false =
      clear-cut_other start place (cut end first) (clear-cut_other end place first (clear-cut place cells whole.paired)) in
      let run_paired : ArePaired None run =
      paired-run start end both order both_whole.paired (clear-cut start (cut end first) second_whole.paired)
      (clear-cut_other start end (cut end first) (clear-cut end first first_whole.paired)) in
      let free_run : is_right (cell_at (min count (length run)) run).part ≡ false = rw long (right-run start end (min count (end - start)) both free) in
      whole-change width row start end (moved_back count space) first from order to inside_first first_whole
      (paired-back count space run right left run_paired free_run)
      (length-back count space run ∙ long)

  pub length-deleted : length (deleted count start end space cells) ≡ length cells
  length-deleted =
      let place : ℕ = start + min count (end - start) in
      let first : List Cell = cut place cells in
      let inside_first : end ≤ length first = omega (arith, length-cut place cells) in
      let both : List Cell = cut start (cut end first) in
      let inside_both : end ≤ length both = omega (arith, length-cut start (cut end first), length-cut end first) in
      length-change start end (moved_back count space) first order inside_first
      (length-back count space (take (end - start) (drop start both)) ∙ length-run start end both inside_both)
      ∙ length-cut place cells

  pub whole-inserted : IsWhole width cells → IsWhole width (inserted count start end space cells)
  whole-inserted whole =
      let place : ℕ = end - min count (end - start) in
      let first : List Cell = cut place cells in
      let first_whole : IsWhole width first = whole-cut width place cells whole in
      let inside_first : end ≤ length first = omega (arith, length-cut place cells) in
      let both : List Cell = cut start (cut end first) in
      let inside_both : end ≤ length both = omega (arith, length-cut start (cut end first), length-cut end first) in
      let run : List Cell = take (end - start) (drop start both) in
      let long : length run ≡ end - start = length-run start end both inside_both in
      let second_whole : IsWhole width (cut end first) = whole-cut width end first first_whole in
      let both_whole : IsWhole width both = whole-cut width start (cut end first) second_whole in
      let free : is_right (cell_at place both).part ≡ false =
      clear-cut_other start place (cut end first) (clear-cut_other end place first (clear-cut place cells whole.paired)) in
      let run_paired : ArePaired None run =
      paired-run start end both order both_whole.paired (clear-cut start (cut end first) second_whole.paired)
      (clear-cut_other start end (cut end first) (clear-cut end first first_whole.paired)) in
      let there : start + (end - start - min count (end - start)) ≡ place = omega arith in
      let free_run : is_right (cell_at (length run - min count (length run)) run).part ≡ false =
      rw long (right-run start end (end - start - min count (end - start)) both (rw there free)) in
      whole-change width row start end (moved_on count space) first from order to inside_first first_whole
      (paired-on count space run right left run_paired free_run)
      (length-on count space run ∙ long)

  pub length-inserted : length (inserted count start end space cells) ≡ length cells
  length-inserted =
      let place : ℕ = end - min count (end - start) in
      let first : List Cell = cut place cells in
      let inside_first : end ≤ length first = omega (arith, length-cut place cells) in
      let both : List Cell = cut start (cut end first) in
      let inside_both : end ≤ length both = omega (arith, length-cut start (cut end first), length-cut end first) in
      length-change start end (moved_on count space) first order inside_first
      (length-on count space (take (end - start) (drop start both)) ∙ length-run start end both inside_both)
      ∙ length-cut place cells

module _ (width first last count : ℕ) (space : Cell) (cells : List Cell)
    (right : is_right space.part ≡ false) (left : is_left space.part ≡ false)
    (order : first * width ≤ last * width) (inside : last * width ≤ length cells) where
  -- rows that move up or down
  pub whole-rows_up : IsWhole width cells → IsWhole width (within (first * width) (last * width) (moved_back (count * width) space) cells)
  whole-rows_up whole =
      let start : ℕ = first * width in
      let end : ℕ = last * width in
      let run : List Cell = take (end - start) (drop start cells) in
      let long : length run ≡ end - start = length-run start end cells inside in
      let there : (first + count) * width ≡ start + count * width = add-mul first count width in
      let run_paired : ArePaired None run = paired-run start end cells order whole.paired (whole.rows_begin first) (whole.rows_begin last) in
      let free : is_right (cell_at (min (count * width) (length run)) run).part ≡ false =
      right-min (count * width) run _ refl (right-run start end (count * width) cells (rw (← there) (whole.rows_begin (first + count)))) in
      record {
        paired = paired-within start end (moved_back (count * width) space) cells order whole.paired (whole.rows_begin first) (whole.rows_begin last)
            (paired-back (count * width) space run right left run_paired free);
        rows_begin = λ j. within-place start end (j * width) (moved_back (count * width) space) cells order inside
            (length-back (count * width) space run ∙ long) (whole.rows_begin j)
            (λ reached less. right-back (count * width) (j * width - start) space run _ refl right
            (λ within_run.
            let together : (count + j) * width ≡ count * width + j * width = add-mul count j width in
            let place : start + (min (count * width) (length run) + (j * width - start)) ≡ (count + j) * width = omega arith in
            right-run start end (min (count * width) (length run) + (j * width - start)) cells (rw place (whole.rows_begin (count + j)))));
      }

  pub length-rows_up : length (within (first * width) (last * width) (moved_back (count * width) space) cells) ≡ length cells
  length-rows_up =
      length-within (first * width) (last * width) (moved_back (count * width) space) cells order inside
      (length-back (count * width) space (take (last * width - first * width) (drop (first * width) cells))
      ∙ length-run (first * width) (last * width) cells inside)

  pub length-rows_down : length (within (first * width) (last * width) (moved_on (count * width) space) cells) ≡ length cells
  length-rows_down =
      length-within (first * width) (last * width) (moved_on (count * width) space) cells order inside
      (length-on (count * width) space (take (last * width - first * width) (drop (first * width) cells))
      ∙ length-run (first * width) (last * width) cells inside)

-- so many rows before a place where a row begins, a row begins
back-rows : (width j count from : ℕ) → 0 < width → count * width + from ≤ j * width → (j - count) * width + count * width ≡ j * width
back-rows width j count from some fits =
    let few : count * width ≤ j * width = omega arith in
    let fewer : count ≤ j = le_of_mul-le-mul_right {m = count} {n = j} {k = width} few some in
    let together : j - count + count ≡ j = omega arith in
    sym (add-mul (j - count) count width) ∙ ap (λ k. k * width) together

module _ (width first last count : ℕ) (space : Cell) (cells : List Cell)
    (right : is_right space.part ≡ false) (left : is_left space.part ≡ false) (some : 0 < width)
    (order : first * width ≤ last * width) (inside : last * width ≤ length cells) where
  on-free : IsWhole width cells → (t : Bool) → nat_lt (count * width) (last * width - first * width) ≡ t
      → is_right (cell_at (last * width - first * width - min (count * width) (last * width - first * width)) (take (last * width - first * width) (drop (first * width) cells))).part ≡ false
  on-free whole true is =
      let less : count * width < last * width - first * width = ltb-true (count * width) (last * width - first * width) is in
      let back : (last - count) * width + count * width ≡ last * width = back-rows width last count (first * width) some (omega arith) in
      let place : first * width + (last * width - first * width - min (count * width) (last * width - first * width)) ≡ (last - count) * width = omega arith in
      right-run (first * width) (last * width) (last * width - first * width - min (count * width) (last * width - first * width)) cells
      (rw place (whole.rows_begin (last - count)))
  on-free whole false is =
      let past : last * width - first * width ≤ count * width = ltb-false (count * width) (last * width - first * width) is in
      let place : first * width + (last * width - first * width - min (count * width) (last * width - first * width)) ≡ first * width = omega arith in
      right-run (first * width) (last * width) (last * width - first * width - min (count * width) (last * width - first * width)) cells
      (rw place (whole.rows_begin first))

  pub whole-rows_down : IsWhole width cells → IsWhole width (within (first * width) (last * width) (moved_on (count * width) space) cells)
  whole-rows_down whole =
      let start : ℕ = first * width in
      let end : ℕ = last * width in
      let run : List Cell = take (end - start) (drop start cells) in
      let long : length run ≡ end - start = length-run start end cells inside in
      let run_paired : ArePaired None run = paired-run start end cells order whole.paired (whole.rows_begin first) (whole.rows_begin last) in
      let free : is_right (cell_at (length run - min (count * width) (length run)) run).part ≡ false = rw long (on-free whole _ refl) in
      record {
        paired = paired-within start end (moved_on (count * width) space) cells order whole.paired (whole.rows_begin first) (whole.rows_begin last)
            (paired-on (count * width) space run right left run_paired free);
        rows_begin = λ j. within-place start end (j * width) (moved_on (count * width) space) cells order inside
            (length-on (count * width) space run ∙ long) (whole.rows_begin j)
            (λ reached less. right-on (count * width) (j * width - start) space run _ refl right
            (λ past in_run.
            let exact : min (count * width) (length run) ≡ count * width = omega arith in
            let back : (j - count) * width + count * width ≡ j * width = back-rows width j count start some (omega arith) in
            let place : start + (j * width - start - min (count * width) (length run)) ≡ (j - count) * width = omega arith in
            right-run start end (j * width - start - min (count * width) (length run)) cells (rw place (whole.rows_begin (j - count))))
            (omega arith));
      }

-- a character that is put
paired-glyph : (n c : ℕ) (style : Style) (link : ℕ) (t : Bool) → nat_eq n 2 ≡ t → ArePaired None (glyph n c style link)
paired-glyph n c style link true is = rw is (refl, (refl, refl))
paired-glyph n c style link false is = rw is (refl, refl)

pub length-glyph : (n c : ℕ) (style : Style) (link : ℕ) (t : Bool) → nat_eq n 2 ≡ t → 1 ≤ n → n ≤ 2 → length (glyph n c style link) ≡ n
length-glyph n c style link true is some few = rw is (sym (eqb-true n 2 is))
length-glyph n c style link false is some few =
    let other : n ≡ 2 → ⊥ = eqb-false n 2 is in
    let one : 1 ≡ n = omega arith in
    rw is one

pub whole-glyph : (width row start n c : ℕ) (style : Style) (link : ℕ) (cells : List Cell) → 1 ≤ n → n ≤ 2 → row * width ≤ start
    → start + n ≤ row * width + width → start + n ≤ length cells → IsWhole width cells
    → IsWhole width (change start (start + n) (λ run. glyph n c style link) cells)
whole-glyph width row start n c style link cells some few from to inside whole =
    let long : start + n - start ≡ n = omega arith in
    whole-change width row start (start + n) (λ run. glyph n c style link) cells from (omega arith) to inside whole
    (paired-glyph n c style link _ refl) (length-glyph n c style link _ refl some few ∙ sym long)

pub length-put : (start n c : ℕ) (style : Style) (link : ℕ) (cells : List Cell) → 1 ≤ n → n ≤ 2 → start + n ≤ length cells
    → length (change start (start + n) (λ run. glyph n c style link) cells) ≡ length cells
length-put start n c style link cells some few inside =
    let long : start + n - start ≡ n = omega arith in
    length-change start (start + n) (λ run. glyph n c style link) cells (omega arith) inside (length-glyph n c style link _ refl some few ∙ sym long)

-- a cell that gets a mark stays the half that it was, in its style
paired-same : (behind : Option Style) (xs : List Cell) (i : ℕ) (x : Cell) → right_style x ≡ right_style (cell_at i xs) → left_style x ≡ left_style (cell_at i xs)
    → ArePaired behind xs → ArePaired behind (set xs i x)
paired-same behind [] i x right left are = are
paired-same behind (y ∷ xs) zero x right left are = (right ∙ are.0, subst (λ t. ArePaired t xs) (sym left) are.1)
paired-same behind (y ∷ xs) (suc i) x right left are = (are.0, paired-same (left_style y) xs i x right left are.1)

pub right-same : (xs : List Cell) (i j : ℕ) (x : Cell) → x.part ≡ (cell_at i xs).part → is_right (cell_at j xs).part ≡ false → is_right (cell_at j (set xs i x)).part ≡ false
right-same [] i j x same free = free
right-same (y ∷ xs) zero zero x same free = ap is_right same ∙ free
right-same (y ∷ xs) zero (suc j) x same free = free
right-same (y ∷ xs) (suc i) zero x same free = free
right-same (y ∷ xs) (suc i) (suc j) x same free = right-same xs i j x same free

pub whole-marked : (width mark place : ℕ) (cells : List Cell) → IsWhole width cells → IsWhole width (marked_before mark place cells)
unfolding marked_before
whole-marked width mark place cells whole =
    let at : ℕ = if is_right (cell_at (place - 1) cells).part then place - 2 else place - 1 in
    let x : Cell = with_mark mark (cell_at at cells) in
    record {
      paired = paired-same None cells at x refl refl whole.paired;
      rows_begin = λ row. right-same cells at (row * width) x refl (whole.rows_begin row);
    }

pub length-marked : (mark place : ℕ) (cells : List Cell) → length (marked_before mark place cells) ≡ length cells
unfolding marked_before
length-marked mark place cells =
    length-set cells (if is_right (cell_at (place - 1) cells).part then place - 2 else place - 1)
    (with_mark mark (cell_at (if is_right (cell_at (place - 1) cells).part then place - 2 else place - 1) cells))

-- a row that goes on, or does not
pub whole-going_on : (width : ℕ) (on : Bool) (end : ℕ) (cells : List Cell) → IsWhole width cells → IsWhole width (going_on on end cells)
unfolding going_on
whole-going_on width on end cells whole =
    let x : Cell = record (cell_at (end - 1) cells) { goes_on = on } in
    record {
      paired = paired-same None cells (end - 1) x refl refl whole.paired;
      rows_begin = λ row. right-same cells (end - 1) (row * width) x refl (whole.rows_begin row);
    }

pub length-going_on : (on : Bool) (end : ℕ) (cells : List Cell) → length (going_on on end cells) ≡ length cells
unfolding going_on
length-going_on on end cells = length-set cells (end - 1) (record (cell_at (end - 1) cells) { goes_on = on })

pub length-erased : (start end : ℕ) (space : Cell) (cells : List Cell) → start ≤ end → end ≤ length cells
    → length (change start end (erased space) cells) ≡ length cells
length-erased start end space cells order inside =
    let both : List Cell = cut start (cut end cells) in
    let inside_both : end ≤ length both = omega (arith, length-cut start (cut end cells), length-cut end cells) in
    length-change start end (erased space) cells order inside
    (length-replicate (length (take (end - start) (drop start both))) space ∙ length-run start end both inside_both)
