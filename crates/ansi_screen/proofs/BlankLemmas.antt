-- One row: beside which columns it is blank, once it was edited.
use Rattle.std.proofs.Common.{◌≡◌, ℕ, ◌+◌, ◌-◌, ◌*◌, ◌<◌, ◌≤◌, Bool, true, false, ◌&&◌, ◌⊎◌, zero, suc, List, [], ◌∷◌, ◌++◌, length, get_or, take, drop, set, refl, ap, sym, ◌∙◌, subst, inl, inr, arith}
use Rattle.std.specs.Prelude.{min, max, replicate, nat_lt, if◌then◌else◌}
use Rattle.std.proofs.lemmas.Bool.{cases_lt, false≢true}
use Rattle.std.proofs.lemmas.List.{places, ext_get_or, get_or_past, get_or-replicate, length-replicate, take_at}
use mathlib.Core.Bool.{beq, not}
use Rattle.ansi_style.specs.declared.style.Style.{Style}
use Rattle.ansi_style.specs.Style.{plain}
use Rattle.ansi_screen.specs.declared.cell.Cell.{Cell}
use Rattle.ansi_screen.specs.declared.row.Written.{Written}
use Rattle.ansi_screen.specs.Cells.{blank, emptied, is_right, cell_at, cut, within, change, erased, moved_back, moved_on, deleted, inserted, with_mark, marked_before, going_on}
use Rattle.ansi_screen.specs.Grid.{IsBeside, IsBlankBeside}
use Rattle.ansi_screen.specs.Print.{glyph}
use Rattle.ansi_screen.specs.Reachable.{is_left, IsWhole}
use Rattle.ansi_screen.specs.Runs.{with_glyphs}
use Rattle.ansi_screen.proofs.PairLemmas.{length-run, length-back, length-on, length-within, length-cut, paired-replicate, right-replicate, whole-erased}
use Rattle.ansi_screen.proofs.WholeLemmas.{length-glyph, length-put, length-deleted, length-inserted, length-marked, length-going_on, whole-glyph, whole-deleted, whole-inserted, whole-marked, whole-going_on}

-- a cell of a list of which a part is another
cell-before : (a e k : ℕ) (run xs : List Cell) (d : Cell) → k < a → a ≤ length xs → get_or (take a xs ++ (run ++ drop (e - a) (drop a xs))) k d ≡ get_or xs k d
cell-before a e k run xs d before inside = grind (arith, places)

cell-behind : (a e k : ℕ) (run xs : List Cell) (d : Cell) → length run ≡ e - a → a ≤ e → e ≤ k → e ≤ length xs
    → get_or (take a xs ++ (run ++ drop (e - a) (drop a xs))) k d ≡ get_or xs k d
cell-behind a e k run xs d long order behind inside = grind (arith, places)

cell-within : (a e k : ℕ) (run xs : List Cell) (d : Cell) → length run ≡ e - a → a ≤ k → k < e → e ≤ length xs
    → get_or (take a xs ++ (run ++ drop (e - a) (drop a xs))) k d ≡ get_or run (k - a) d
cell-within a e k run xs d long from below inside = grind (arith, places)

-- a place is among others or beside them
among : (a e k : ℕ) → ((a ≤ k) × (k < e)) ⊎ IsBeside a e k
among a e k = elim (cases_lt k a) [
  | inl before ↦ inr (inl before)
  | inr from ↦ elim (cases_lt k e) [
    | inl to ↦ inl (from, to)
    | inr behind ↦ inr (inr behind)
  ]
]

cell-beside : (a e k : ℕ) (run xs : List Cell) → length run ≡ e - a → a ≤ e → e ≤ length xs → IsBeside a e k
    → cell_at k (take a xs ++ (run ++ drop (e - a) (drop a xs))) ≡ cell_at k xs
cell-beside a e k run xs long order inside beside = elim beside [
  | inl before ↦ cell-before a e k run xs (blank plain) before (omega (arith, order, inside))
  | inr behind ↦ cell-behind a e k run xs (blank plain) long order behind inside
]

-- `v` has the columns of `w` and those from `a` up to `e`.
record Wider (a e : ℕ) (w v : Written) : Type 0 where
  pub first : v.first ≤ w.first
  pub start : v.first ≤ a
  pub past : w.past ≤ v.past
  pub end : e ≤ v.past

abbrev pub joined : ℕ → ℕ → Written → Written
joined a e w = record { first = min w.first a; past = max w.past e }

joined-wider : (a e : ℕ) (w v : Written) → v ≡ joined a e w → Wider a e w v
joined-wider a e w v is =
    let first : v.first ≡ min w.first a = ap (λ (x : Written). x.first) is in
    let past : v.past ≡ max w.past e = ap (λ (x : Written). x.past) is in
    record {
      first = omega (arith, first);
      start = omega (arith, first);
      past = omega (arith, past);
      end = omega (arith, past);
    }

beside-both : (a e k : ℕ) (w v : Written) → Wider a e w v → IsBeside v.first v.past k → IsBeside w.first w.past k × IsBeside a e k
beside-both a e k w v wide beside = elim beside [
  | inl before ↦ (inl (omega (arith, before, wide.first)), inl (omega (arith, before, wide.start)))
  | inr behind ↦ (inr (omega (arith, behind, wide.past)), inr (omega (arith, behind, wide.end)))
]

pub blank-new : (f n : ℕ) → IsBlankBeside f 0 (replicate n (blank plain))
blank-new f n k beside = elim (cases_lt k n) [
  | inl less ↦ get_or-replicate n k (blank plain) (blank plain) less
  | inr past ↦ get_or_past (replicate n (blank plain)) k (blank plain) (omega (arith, length-replicate n (blank plain), past))
]

-- A blank stays one where another cell is set, or this one as a blank.
blank-set : (xs : List Cell) (at k : ℕ) (y : Cell) → cell_at k xs ≡ blank plain → (k ≡ at → y ≡ blank plain) → cell_at k (set xs at y) ≡ blank plain
blank-set [] at k y is same = is
blank-set (x ∷ xs) zero zero y is same = same refl
blank-set (x ∷ xs) zero (suc k) y is same = is
blank-set (x ∷ xs) (suc at) zero y is same = is
blank-set (x ∷ xs) (suc at) (suc k) y is same = blank-set xs at k y is (λ e. same (ap suc e))

-- So it does where a wide character is cut: what is left of a blank is a blank.
cut-blank : (p k : ℕ) (xs : List Cell) (t : Bool) → (nat_lt 0 p && is_right (cell_at p xs).part) ≡ t → cell_at k xs ≡ blank plain → cell_at k (cut p xs) ≡ blank plain
unfolding cut
cut-blank p k xs false test is = rw test is
cut-blank p k xs true test is =
    let half : (at : ℕ) → k ≡ at → emptied (cell_at at xs) ≡ blank plain = λ at e. ap emptied (subst (λ n. cell_at n xs ≡ blank plain) e is) in
    rw test (blank-set (set xs (p - 1) (emptied (cell_at (p - 1) xs))) p k (emptied (cell_at p xs)) (blank-set xs (p - 1) k (emptied (cell_at (p - 1) xs)) is (half (p - 1))) (half p))

pub blank-cut : (f w p : ℕ) (xs : List Cell) → IsBlankBeside f w xs → IsBlankBeside f w (cut p xs)
blank-cut f w p xs is k beside = cut-blank p k xs _ refl (is k beside)

-- a part that is another
blank-within : (a e : ℕ) (w v : Written) (how : List Cell → List Cell) (xs : List Cell) → a ≤ e → e ≤ length xs
    → length (how (take (e - a) (drop a xs))) ≡ e - a → Wider a e w v → IsBlankBeside w.first w.past xs → IsBlankBeside v.first v.past (within a e how xs)
blank-within a e w v how xs order inside long wide is k beside =
    let both = beside-both a e k w v wide beside in
    cell-beside a e k (how (take (e - a) (drop a xs))) xs long order inside both.1 ∙ is k both.0

blank-change : (a e : ℕ) (w v : Written) (how : List Cell → List Cell) (xs : List Cell) → a ≤ e → e ≤ length xs
    → length (how (take (e - a) (drop a (cut a (cut e xs))))) ≡ e - a → Wider a e w v → IsBlankBeside w.first w.past xs
    → IsBlankBeside v.first v.past (change a e how xs)
blank-change a e w v how xs order inside long wide is =
    blank-within a e w v how (cut a (cut e xs)) order (omega (arith, inside, length-cut a (cut e xs), length-cut e xs)) long wide
    (blank-cut w.first w.past a (cut e xs) (blank-cut w.first w.past e xs is))

blank-glyph : (a n c : ℕ) (w v : Written) (style : Style) (link : ℕ) (xs : List Cell) → 1 ≤ n → n ≤ 2 → a + n ≤ length xs → Wider a (a + n) w v
    → IsBlankBeside w.first w.past xs → IsBlankBeside v.first v.past (change a (a + n) (λ run. glyph n c style link) xs)
blank-glyph a n c w v style link xs some few inside wide is =
    let long : a + n - a ≡ n = omega arith in
    blank-change a (a + n) w v (λ run. glyph n c style link) xs (omega arith) inside (length-glyph n c style link _ refl some few ∙ sym long) wide is

-- a character after another
pub whole-glyphs : (w a : ℕ) (text : List ℕ) (style : Style) (link : ℕ) (xs : List Cell) → a + length text ≤ w → w ≡ length xs
    → IsWhole w xs → IsWhole w (with_glyphs a text style link xs)
whole-glyphs w a [] style link xs inside long is = is
whole-glyphs w a (c ∷ text) style link xs inside long is =
    let one : List Cell = change a (a + 1) (λ run. glyph 1 c style link) xs in
    let fits : a + 1 ≤ length xs = omega (arith, inside, long) in
    let start : 0 * w ≤ a = omega arith in
    let end : a + 1 ≤ 0 * w + w = omega (arith, inside) in
    whole-glyphs w (a + 1) text style link one (omega (arith, inside)) (long ∙ sym (length-put a 1 c style link xs (omega arith) (omega arith) fits))
    (whole-glyph w 0 a 1 c style link xs (omega arith) (omega arith) start end fits is)

blank-glyphs : (a : ℕ) (w v : Written) (text : List ℕ) (style : Style) (link : ℕ) (xs : List Cell) → a + length text ≤ length xs
    → Wider a (a + length text) w v → IsBlankBeside w.first w.past xs → IsBlankBeside v.first v.past (with_glyphs a text style link xs)
blank-glyphs a w v [] style link xs inside wide is = λ k beside. is k (beside-both a (a + 0) k w v wide beside).0
blank-glyphs a w v (c ∷ text) style link xs inside wide is =
    let one : List Cell = change a (a + 1) (λ run. glyph 1 c style link) xs in
    let fits : a + 1 ≤ length xs = omega (arith, inside) in
    let long : length one ≡ length xs = length-put a 1 c style link xs (omega arith) (omega arith) fits in
    let next : Wider a (a + 1) w v = record { first = wide.first; start = wide.start; past = wide.past; end = omega (arith, wide.end) } in
    let rest : Wider (a + 1) (a + 1 + length text) v v = record { first = omega arith; start = omega (arith, wide.start); past = omega arith; end = omega (arith, wide.end) } in
    blank-glyphs (a + 1) v v text style link one (omega (arith, inside, long)) rest (blank-glyph a 1 c w v style link xs (omega arith) (omega arith) fits next is)

pub length-glyphs : (a : ℕ) (text : List ℕ) (style : Style) (link : ℕ) (xs : List Cell) → a + length text ≤ length xs
    → length (with_glyphs a text style link xs) ≡ length xs
length-glyphs a [] style link xs inside = refl
length-glyphs a (c ∷ text) style link xs inside =
    let one : List Cell = change a (a + 1) (λ run. glyph 1 c style link) xs in
    let long : length one ≡ length xs = length-put a 1 c style link xs (omega arith) (omega arith) (omega (arith, inside)) in
    length-glyphs (a + 1) text style link one (omega (arith, inside, long)) ∙ long

-- a mark
marked-at : (t : Bool) (p k : ℕ) (w v : Written) → 0 < p → Wider (p - 2) p w v → IsBeside v.first v.past k → k ≡ (if t then p - 2 else p - 1) → ⊥
marked-at true p k w v some wide beside is = elim (beside-both (p - 2) p k w v wide beside).1 [
  | inl before ↦ absurd (omega (arith, is, before))
  | inr behind ↦ absurd (omega (arith, is, some, behind))
]
marked-at false p k w v some wide beside is = elim (beside-both (p - 2) p k w v wide beside).1 [
  | inl before ↦ absurd (omega (arith, is, before))
  | inr behind ↦ absurd (omega (arith, is, some, behind))
]

blank-marked : (mark p : ℕ) (w v : Written) (xs : List Cell) → 0 < p → Wider (p - 2) p w v → IsBlankBeside w.first w.past xs
    → IsBlankBeside v.first v.past (marked_before mark p xs)
unfolding marked_before
blank-marked mark p w v xs some wide is k beside =
    let at : ℕ = if is_right (cell_at (p - 1) xs).part then p - 2 else p - 1 in
    blank-set xs at k (with_mark mark (cell_at at xs)) (is k (beside-both (p - 2) p k w v wide beside).0)
    (λ e. absurd (marked-at (is_right (cell_at (p - 1) xs).part) p k w v some wide beside e))

-- the last cell, which says that the row goes on
blank-going : (on : Bool) (e : ℕ) (w v : Written) (xs : List Cell) → 0 < e → Wider (e - 1) e w v → IsBlankBeside w.first w.past xs
    → IsBlankBeside v.first v.past (going_on on e xs)
unfolding going_on
blank-going on e w v xs some wide is k beside =
    let both = beside-both (e - 1) e k w v wide beside in
    blank-set xs (e - 1) k (record (cell_at (e - 1) xs) { goes_on = on }) (is k both.0) (λ same. elim both.1 [
      | inl before ↦ absurd (omega (arith, same, before))
      | inr behind ↦ absurd (omega (arith, same, some, behind))
    ])

-- plain blanks
abbrev cleared : ℕ → ℕ → List Cell → List Cell
cleared a e xs = within a e (erased (blank plain)) xs

module _ (a e : ℕ) (xs : List Cell) (order : a ≤ e) (inside : e ≤ length xs) where
  cleared-run : length (erased (blank plain) (take (e - a) (drop a xs))) ≡ e - a
  cleared-run = length-replicate (length (take (e - a) (drop a xs))) (blank plain) ∙ length-run a e xs inside

  cleared-length : length (cleared a e xs) ≡ length xs
  cleared-length = length-within a e (erased (blank plain)) xs order inside cleared-run

  cleared-among : (k : ℕ) → (a ≤ k) × (k < e) → cell_at k (cleared a e xs) ≡ blank plain
  cleared-among k there =
      cell-within a e k (erased (blank plain) (take (e - a) (drop a xs))) xs (blank plain) cleared-run there.0 there.1 inside
      ∙ get_or-replicate (length (take (e - a) (drop a xs))) (k - a) (blank plain) (blank plain) (omega (arith, length-run a e xs inside, there.0, there.1))

  cleared-beside : (k : ℕ) → IsBeside a e k → cell_at k (cleared a e xs) ≡ cell_at k xs
  cleared-beside k beside = cell-beside a e k (erased (blank plain) (take (e - a) (drop a xs))) xs cleared-run order inside beside

  -- those beside which the cells were plain blanks need not be cleared
  module _ (first last from past : ℕ) (starts : from ≡ max a first) (ends : past ≡ min e last) (is : IsBlankBeside first last xs) where
    blank-untouched : (k : ℕ) → IsBeside from past k → (a ≤ k) × (k < e) → cell_at k xs ≡ blank plain
    blank-untouched k beside there = elim beside [
      | inl before ↦ is k (inl (omega (arith, starts, before, there.0)))
      | inr behind ↦ is k (inr (omega (arith, ends, behind, there.1)))
    ]

    same-beside : (k : ℕ) → IsBeside from past k → cell_at k xs ≡ cell_at k (cleared a e xs)
    same-beside k beside = elim (among a e k) [
      | inl there ↦ blank-untouched k beside there ∙ sym (cleared-among k there)
      | inr away ↦ sym (cleared-beside k away)
    ]

    pub same-none : past ≤ from → xs ≡ cleared a e xs
    same-none none = ext_get_or (blank plain) xs (cleared a e xs) (sym cleared-length) (λ k below. elim (cases_lt k from) [
      | inl before ↦ same-beside k (inl before)
      | inr reached ↦ same-beside k (inr (omega (arith, none, reached)))
    ])

  -- what is left of those columns
  pub blank-without : (w v : Written) → IsBlankBeside w.first w.past xs
      → ((k : ℕ) → IsBeside v.first v.past k → IsBeside w.first w.past k ⊎ ((a ≤ k) × (k < e))) → IsBlankBeside v.first v.past (cleared a e xs)
  blank-without w v is left k beside = elim (among a e k) [
    | inl there ↦ cleared-among k there
    | inr away ↦ elim (left k beside) [
      | inl old ↦ cleared-beside k away ∙ is k old
      | inr there ↦ cleared-among k there
    ]
  ]

pub same-some : (a e first last from past : ℕ) (xs : List Cell) → a ≤ e → e ≤ length xs → from ≡ max a first → past ≡ min e last → IsBlankBeside first last xs
    → from < past → cleared from past xs ≡ cleared a e xs
same-some a e first last from past xs order inside starts ends is some =
    let order_too : from ≤ past = omega (arith, some) in
    let inside_too : past ≤ length xs = omega (arith, ends, inside) in
    ext_get_or (blank plain) (cleared from past xs) (cleared a e xs) (cleared-length from past xs order_too inside_too ∙ sym (cleared-length a e xs order inside)) (λ k below.
    elim (among from past k) [
      | inl there ↦
          cleared-among from past xs order_too inside_too k there
          ∙ sym (cleared-among a e xs order inside k (omega (arith, starts, there.0), omega (arith, ends, there.1)))
      | inr away ↦
          cleared-beside from past xs order_too inside_too k away
          ∙ same-beside a e xs order inside first last from past starts ends is k away
    ])

pub blank-erased : (a e : ℕ) (w v : Written) (space : Cell) (xs : List Cell) → a ≤ e → e ≤ length xs → v ≡ joined a e w
    → IsBlankBeside w.first w.past xs → IsBlankBeside v.first v.past (within a e (erased space) xs)
blank-erased a e w v space xs order inside joins is =
    let run : List Cell = take (e - a) (drop a xs) in
    blank-within a e w v (erased space) xs order inside (length-replicate (length run) space ∙ length-run a e xs inside) (joined-wider a e w v joins) is

-- a row of blanks
pub whole-new : (n w : ℕ) (style : Style) → IsWhole w (replicate n (blank style))
whole-new n w style = record {
  paired = paired-replicate n (blank style) refl refl;
  rows_begin = λ row. right-replicate n (row * w) (blank style) refl;
}

-- What a row of `n` cells is: of so many, with halves in pairs, and blank beside some columns.
pub record Kept (n : ℕ) (v : Written) (cells : List Cell) : Type 0 where
  pub long : length cells ≡ n
  pub whole : IsWhole n cells
  pub few : v.past ≤ n
  pub blank : IsBlankBeside v.first v.past cells

abbrev pub IsRow : Written → List Cell → Type 0
IsRow v cells = (v.past ≤ length cells) × IsWhole (length cells) cells × IsBlankBeside v.first v.past cells

-- what is in a Vec of so many once its slice is written
abbrev pub written : ℕ → List Cell → List Cell → List Cell
written n new old = take n (new ++ drop (length new) old)

pub kept-row : (n : ℕ) (v : Written) (old new : List Cell) → Kept n v new → IsRow v (written n new old)
kept-row n v old new k =
    subst (IsRow v) (sym (take_at new (drop (length new) old) n k.long))
    (subst (λ m. v.past ≤ m) (sym k.long) k.few, subst (λ m. IsWhole m new) (sym k.long) k.whole, k.blank)

pub kept-whole : (n : ℕ) (v : Written) (now old new : List Cell) → length now ≡ n → Kept n v new → IsWhole (length now) (written n new old)
kept-whole n v now old new long k =
    let same : written n new old ≡ new = take_at new (drop (length new) old) n k.long in
    subst (λ l. IsWhole (length now) l) (sym same) (subst (λ m. IsWhole m new) (sym long) k.whole)

-- a row as it was, by its slice
pub kept-slice : (n : ℕ) (w : Written) (xs items : List Cell) → xs ≡ items → length xs ≡ n → IsRow w items → Kept n w xs
kept-slice n w xs items value long row =
    let is : IsRow w xs = subst (IsRow w) (sym value) row in
    record {
      long = long;
      whole = subst (λ m. IsWhole m xs) long is.1;
      few = omega (arith, is.0, long);
      blank = is.2;
    }

-- after each edit of the columns from `a` up to `e`
module _ (n a e : ℕ) (w v : Written) (xs new : List Cell) (old : Kept n w xs) (joins : v ≡ joined a e w) (inside : e ≤ n) where
  wide : Wider a e w v
  wide = joined-wider a e w v joins

  few : v.past ≤ n
  few = let past : v.past ≡ max w.past e = ap (λ (x : Written). x.past) joins in omega (arith, past, old.few, inside)

  abbrev kept : length new ≡ n → IsWhole n new → IsBlankBeside v.first v.past new → Kept n v new
  kept long whole blank = record { long = long; whole = whole; few = few; blank = blank }

  pub kept-deleted : (k : ℕ) (space : Cell) (style : Style) → space ≡ blank style → a ≤ e → new ≡ deleted k a e space xs → Kept n v new
  kept-deleted k space style is order put =
      let right : is_right space.part ≡ false = ap (λ (x : Cell). is_right x.part) is in
      let left : is_left space.part ≡ false = ap (λ (x : Cell). is_left x.part) is in
      let from : 0 * n ≤ a = omega arith in
      let to : e ≤ 0 * n + n = omega (arith, inside) in
      let fits : e ≤ length xs = omega (arith, inside, old.long) in
      let first : List Cell = cut (a + min k (e - a)) xs in
      let run : List Cell = take (e - a) (drop a (cut a (cut e first))) in
      let long : length run ≡ e - a = length-run a e (cut a (cut e first)) (omega (arith, fits, length-cut a (cut e first), length-cut e first, length-cut (a + min k (e - a)) xs)) in
      kept (ap length put ∙ (length-deleted n 0 a e k space xs right left from order to fits ∙ old.long))
      (subst (IsWhole n) (sym put) (whole-deleted n 0 a e k space xs right left from order to fits old.whole))
      (subst (IsBlankBeside v.first v.past) (sym put)
      (blank-change a e w v (moved_back k space) first order (omega (arith, fits, length-cut (a + min k (e - a)) xs)) (length-back k space run ∙ long) wide
      (blank-cut w.first w.past (a + min k (e - a)) xs old.blank)))

  pub kept-inserted : (k : ℕ) (space : Cell) (style : Style) → space ≡ blank style → a ≤ e → new ≡ inserted k a e space xs → Kept n v new
  kept-inserted k space style is order put =
      let right : is_right space.part ≡ false = ap (λ (x : Cell). is_right x.part) is in
      let left : is_left space.part ≡ false = ap (λ (x : Cell). is_left x.part) is in
      let from : 0 * n ≤ a = omega arith in
      let to : e ≤ 0 * n + n = omega (arith, inside) in
      let fits : e ≤ length xs = omega (arith, inside, old.long) in
      let first : List Cell = cut (e - min k (e - a)) xs in
      let run : List Cell = take (e - a) (drop a (cut a (cut e first))) in
      let long : length run ≡ e - a = length-run a e (cut a (cut e first)) (omega (arith, fits, length-cut a (cut e first), length-cut e first, length-cut (e - min k (e - a)) xs)) in
      kept (ap length put ∙ (length-inserted n 0 a e k space xs right left from order to fits ∙ old.long))
      (subst (IsWhole n) (sym put) (whole-inserted n 0 a e k space xs right left from order to fits old.whole))
      (subst (IsBlankBeside v.first v.past) (sym put)
      (blank-change a e w v (moved_on k space) first order (omega (arith, fits, length-cut (e - min k (e - a)) xs)) (length-on k space run ∙ long) wide
      (blank-cut w.first w.past (e - min k (e - a)) xs old.blank)))

  pub kept-marked : (mark : ℕ) → 0 < e → a ≡ e - 2 → new ≡ marked_before mark e xs → Kept n v new
  kept-marked mark some start put =
      kept (ap length put ∙ (length-marked mark e xs ∙ old.long)) (subst (IsWhole n) (sym put) (whole-marked n mark e xs old.whole))
      (subst (IsBlankBeside v.first v.past) (sym put) (blank-marked mark e w v xs some (subst (λ s. Wider s e w v) start wide) old.blank))

  pub kept-going : (on : Bool) → 0 < e → a ≡ e - 1 → new ≡ going_on on e xs → Kept n v new
  kept-going on some start put =
      kept (ap length put ∙ (length-going_on on e xs ∙ old.long)) (subst (IsWhole n) (sym put) (whole-going_on n on e xs old.whole))
      (subst (IsBlankBeside v.first v.past) (sym put) (blank-going on e w v xs some (subst (λ s. Wider s e w v) start wide) old.blank))

module _ (n a : ℕ) (w v : Written) (style : Style) (link : ℕ) (xs new : List Cell) (old : Kept n w xs) where
  pub kept-put : (m c : ℕ) → v ≡ joined a (a + m) w → 1 ≤ m → m ≤ 2 → a + m ≤ n → new ≡ change a (a + m) (λ run. glyph m c style link) xs → Kept n v new
  kept-put m c joins some many inside put =
      let from : 0 * n ≤ a = omega arith in
      let to : a + m ≤ 0 * n + n = omega (arith, inside) in
      let fits : a + m ≤ length xs = omega (arith, inside, old.long) in
      kept n a (a + m) w v xs new old joins inside (ap length put ∙ (length-put a m c style link xs some many fits ∙ old.long))
      (subst (IsWhole n) (sym put) (whole-glyph n 0 a m c style link xs some many from to fits old.whole))
      (subst (IsBlankBeside v.first v.past) (sym put) (blank-glyph a m c w v style link xs some many fits (joined-wider a (a + m) w v joins) old.blank))

  pub kept-glyphs : (text : List ℕ) → v ≡ joined a (a + length text) w → a + length text ≤ n → new ≡ with_glyphs a text style link xs → Kept n v new
  kept-glyphs text joins inside put =
      let fits : a + length text ≤ length xs = omega (arith, inside, old.long) in
      kept n a (a + length text) w v xs new old joins inside (ap length put ∙ (length-glyphs a text style link xs fits ∙ old.long))
      (subst (IsWhole n) (sym put) (whole-glyphs n a text style link xs inside (sym old.long) old.whole))
      (subst (IsBlankBeside v.first v.past) (sym put) (blank-glyphs a w v text style link xs fits (joined-wider a (a + length text) w v joins) old.blank))

pub kept-erased : (n a e : ℕ) (w v : Written) (style : Style) (xs first second new : List Cell) → Kept n w xs → a ≤ e → e ≤ n → first ≡ cut e xs → second ≡ cut a first
    → new ≡ within a e (erased (blank style)) second → length new ≡ length second → v.past ≤ length second → IsBlankBeside v.first v.past new → Kept n v new
kept-erased n a e w v style xs first second new old order inside one two put same few is =
    let all : new ≡ change a e (erased (blank style)) xs = put ∙ ap (within a e (erased (blank style))) (two ∙ ap (cut a) one) in
    let many : length second ≡ n = ap length two ∙ (length-cut a first ∙ (ap length one ∙ (length-cut e xs ∙ old.long))) in
    record {
      long = same ∙ many;
      whole = subst (IsWhole n) (sym all) (whole-erased n a e (blank style) xs order (omega (arith, inside, old.long)) refl refl old.whole);
      few = omega (arith, few, many);
      blank = is;
    }

pub kept-filled : (n : ℕ) (v : Written) (style : Style) (xs new : List Cell) → length xs ≡ n → new ≡ replicate (length xs) (blank style)
    → v.past ≤ n → IsBlankBeside v.first v.past new → Kept n v new
kept-filled n v style xs new long put few is = record {
  long = ap length put ∙ (length-replicate (length xs) (blank style) ∙ long);
  whole = subst (IsWhole n) (sym put) (whole-new (length xs) n style);
  few = few;
  blank = is;
}

pub new-row : (f n : ℕ) (cells : List Cell) → cells ≡ replicate n (blank plain)
    → (0 ≤ length cells) × IsWhole (length cells) cells × IsBlankBeside f 0 cells
new-row f n cells are = (omega arith, subst (IsWhole (length cells)) (sym are) (whole-new n (length cells) plain), subst (IsBlankBeside f 0) (sym are) (blank-new f n))

-- a test that two are not equal fails
pub not-other : (a b : Bool) → not (beq a b) ≡ false → a ≡ b
not-other true true is = refl
not-other false false is = refl
not-other true false is = absurd (false≢true (sym is))
not-other false true is = absurd (false≢true (sym is))
