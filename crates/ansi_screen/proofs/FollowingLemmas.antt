-- Cells that differ from others in what is noted alone become those, where that is copied.
use Rattle.std.proofs.Common.{◌≡◌, inl, inr, ℕ, zero, suc, ◌+◌, ◌-◌, ◌*◌, ◌/◌, ◌%◌, ◌<◌, ◌≤◌, Bool, true, false, List, ◌++◌, length, get_or, take, drop, refl, ap, sym, ◌∙◌, subst, arith}
use Rattle.std.specs.Prelude.{min, max, nat_lt}
use Rattle.std.proofs.lemmas.List.{same_lists, places, get_or-take, get_or-drop, get_or_default, length-take-le, length-drop, drop_at}
use Rattle.std.proofs.lemmas.Nat.{div_below, le-div}
use Rattle.std.proofs.lemmas.Bool.{cases_Bool}
use Rattle.std.proofs.Math.Nat.{mod-lt, mod-eq-sub-div-mul, div-mul-le_self, mul-le-mul_right, suc-mul}
use borrow.Author.Tests.{ltb-true, ltb-false}
use Rattle.ansi_style.specs.Style.{plain}
use Rattle.ansi_screen.specs.declared.cell.Cell.{Cell}
use Rattle.ansi_screen.specs.declared.damage.Span.{Span}
use Rattle.ansi_screen.specs.Cells.{blank, cell_at}
use Rattle.ansi_screen.specs.Damage.{no_span, span_at, IsOutside, KeepsColumns, AreEmptyBeside}
use Rattle.ansi_screen.specs.Following.{copied}
use Rattle.ansi_screen.specs.Grid.{IsBeside, IsBlankBeside}

-- Where a row kept its columns, and beside some both are blank, other cells than those between are the same.
module _ (left right from past first written : ℕ) (cells others : List Cell) (long : length cells ≡ length others) (within : right ≤ length cells)
    (kept : KeepsColumns left right others cells) (blanks : IsBlankBeside first written cells) (others_blank : IsBlankBeside first written others)
    (start : from ≡ max left first) (last : past ≡ min right written) where
  in-front : (k : ℕ) (d : Cell) → k < left → get_or cells k d ≡ get_or others k d
  in-front k d before = sym (get_or-take left cells k d before) ∙ (ap (λ l. get_or l k d) kept.front ∙ get_or-take left others k d before)

  at-back : (k : ℕ) (d : Cell) → right ≤ k → get_or cells k d ≡ get_or others k d
  at-back k d after =
      let there : right + (k - right) ≡ k = omega arith in
      subst (λ n. get_or cells n d ≡ get_or others n d) there
      (sym (get_or-drop right cells (k - right) d) ∙ (ap (λ l. get_or l (k - right) d) kept.back ∙ get_or-drop right others (k - right) d))

  at-blanks : (k : ℕ) (d : Cell) → k < length cells → IsBeside first written k → get_or cells k d ≡ get_or others k d
  at-blanks k d inside beside =
      get_or_default cells k d (blank plain) inside ∙ (blanks k beside ∙ (sym (others_blank k beside)
      ∙ get_or_default others k (blank plain) d (omega (arith, long))))

  before-same : (k : ℕ) (d : Cell) → k < length cells → k < from → get_or cells k d ≡ get_or others k d
  before-same k d inside before = elim (cases_Bool (nat_lt k left)) [
    | inl is ↦ in-front k d (ltb-true k left is)
    | inr is ↦ at-blanks k d inside (inl (omega (arith, start, before, ltb-false k left is)))
  ]

  past-same : (k : ℕ) (d : Cell) → k < length cells → past ≤ k → get_or cells k d ≡ get_or others k d
  past-same k d inside reached = elim (cases_Bool (nat_lt k right)) [
    | inl is ↦ at-blanks k d inside (inr (omega (arith, last, ltb-true k right is)))
    | inr is ↦ at-back k d (ltb-false k right is)
  ]

  abbrev between : List Cell
  between = take from cells ++ (take (past - from) (drop from others) ++ drop (past - from) (drop from cells))

  between-front : (k : ℕ) (d : Cell) → from ≤ past → k < from → get_or between k d ≡ get_or cells k d
  between-front k d some before = let few : past ≤ length cells = omega (arith, last) in grind (arith, places)

  between-among : (k : ℕ) (d : Cell) → from ≤ k → k < past → get_or between k d ≡ get_or others k d
  between-among k d reached to = let few : past ≤ length others = omega (arith, last, long) in grind (arith, places)

  between-back : (k : ℕ) (d : Cell) → from ≤ past → past ≤ k → get_or between k d ≡ get_or cells k d
  between-back k d some reached = let few : past ≤ length cells = omega (arith, last) in let few_too : past ≤ length others = omega (arith, last, long) in grind (arith, places)

  between-at : (k : ℕ) (d : Cell) (t u : Bool) → nat_lt k from ≡ t → nat_lt k past ≡ u → from ≤ past → k < length cells → get_or between k d ≡ get_or others k d
  between-at k d true u before is some inside = let less : k < from = ltb-true k from before in between-front k d some less ∙ before-same k d inside less
  between-at k d false true before is some inside = between-among k d (ltb-false k from before) (ltb-true k past is)
  between-at k d false false before is some inside =
      let reached : past ≤ k = ltb-false k past is in between-back k d some reached ∙ past-same k d inside reached

  between-long : from ≤ past → length between ≡ length cells
  between-long some = let few : past ≤ length cells = omega (arith, last) in let few_too : past ≤ length others = omega (arith, last, long) in grind (arith, places)

  pub copied-between : from ≤ past → between ≡ others
  copied-between some =
      same_lists between others (between-long some ∙ long) (λ k d h. between-at k d _ _ refl refl some (omega (arith, between-long some, h)))

  -- the same, where nothing is between
  pub copied-nothing : past ≤ from → cells ≡ others
  copied-nothing none = same_lists cells others long (λ k d h. elim (cases_Bool (nat_lt k from)) [
    | inl is ↦ before-same k d h (ltb-true k from is)
    | inr is ↦ past-same k d h (omega (arith, none, ltb-false k from is))
  ])

-- no column is noted where no span is
none-noted : (column : ℕ) → IsOutside no_span column
none-noted zero = inl (omega arith)
none-noted (suc column) = inr (omega arith)

-- What is not noted of a row is kept of it.
module _ (w h : ℕ) (spans : List Span) (news olds : List Cell) (filled : length news ≡ h * w) (long : length news ≡ length olds)
    (kept : (row column : ℕ) → row < h → column < w → IsOutside (span_at spans row) column
    → cell_at (row * w + column) news ≡ cell_at (row * w + column) olds) where
  place-inside : (row column : ℕ) → row < h → column < w → row * w + column < length news
  place-inside row column below inside =
      let past : suc row * w ≤ h * w = mul-le-mul_right {m = suc row} {n = h} w below in
      omega (arith, past, suc-mul row w, filled)

  kept-any : (row column : ℕ) (d : Cell) → row < h → column < w → IsOutside (span_at spans row) column
      → get_or news (row * w + column) d ≡ get_or olds (row * w + column) d
  kept-any row column d below inside out =
      let there : row * w + column < length news = place-inside row column below inside in
      get_or_default news (row * w + column) d (blank plain) there ∙ (kept row column below inside out
      ∙ get_or_default olds (row * w + column) (blank plain) d (omega (arith, there, long)))

  row-at : (row column : ℕ) (d : Cell) (cells : List Cell) → column < w
      → get_or (take w (drop (row * w) cells)) column d ≡ get_or cells (row * w + column) d
  row-at row column d cells inside = get_or-take w (drop (row * w) cells) column d inside ∙ get_or-drop (row * w) cells column d

  column-same : (row column : ℕ) (d : Cell) → row < h → column < w → IsOutside (span_at spans row) column
      → get_or (take w (drop (row * w) news)) column d ≡ get_or (take w (drop (row * w) olds)) column d
  column-same row column d below inside out =
      row-at row column d news inside ∙ (kept-any row column d below inside out ∙ sym (row-at row column d olds inside))

  row-long : (row : ℕ) (cells : List Cell) → row < h → length cells ≡ length news → length (take w (drop (row * w) cells)) ≡ w
  row-long row cells below same =
      let past : suc row * w ≤ h * w = mul-le-mul_right {m = suc row} {n = h} w below in
      length-take-le w (drop (row * w) cells) (omega (arith, past, suc-mul row w, filled, same, length-drop (row * w) cells))

  pub keeps-columns : (row left right : ℕ) → row < h → ((column : ℕ) → column < left → IsOutside (span_at spans row) column)
      → ((column : ℕ) → column < w → right ≤ column → IsOutside (span_at spans row) column)
      → KeepsColumns left right (take w (drop (row * w) olds)) (take w (drop (row * w) news))
  keeps-columns row left right below before after =
      let new : List Cell = take w (drop (row * w) news) in
      let old : List Cell = take w (drop (row * w) olds) in
      let wide : length new ≡ w = row-long row news below refl in
      let wide_too : length old ≡ w = row-long row olds below (sym long) in
      record {
        front = same_lists (take left new) (take left old) (grind (arith, places)) (λ k d less.
            let fewer : k < left = grind (arith, places) in
            let inside : k < w = grind (arith, places) in
            get_or-take left new k d fewer ∙ (column-same row k d below inside (before k fewer) ∙ sym (get_or-take left old k d fewer)));
        back = same_lists (drop right new) (drop right old) (grind (arith, places)) (λ k d less.
            let inside : right + k < w = omega (arith, less, length-drop right new, wide) in
            get_or-drop right new k d ∙ (column-same row (right + k) d below inside (after (right + k) inside (omega arith)) ∙ sym (get_or-drop right old k d)));
      }

  -- All of a row of which nothing is noted.
  pub keeps-row : (row : ℕ) → row < h → span_at spans row ≡ no_span → take w (drop (row * w) news) ≡ take w (drop (row * w) olds)
  keeps-row row below none =
      let out : (column : ℕ) → IsOutside (span_at spans row) column = λ column. subst (λ (s : Span). IsOutside s column) (sym none) (none-noted column) in
      (keeps-columns row 0 0 below (λ column before. out column) (λ column inside past. out column)).back

  -- and each place in it
  pub keeps-place : (k : ℕ) (d : Cell) → 0 < w → k < length news → span_at spans (k / w) ≡ no_span → get_or news k d ≡ get_or olds k d
  keeps-place k d some inside none =
      let row : k / w < h = div_below k w h some (omega (arith, inside, filled)) in
      let there : k / w * w + k % w ≡ k = omega (arith, mod-eq-sub-div-mul k w, div-mul-le_self k w) in
      let out : IsOutside (span_at spans (k / w)) (k % w) = subst (λ (s : Span). IsOutside s (k % w)) (sym none) (none-noted (k % w)) in
      subst (λ n. get_or news n d ≡ get_or olds n d) there (kept-any (k / w) (k % w) d row (mod-lt k some) out)

-- Rows that are copied up to one, where those before the first are the same already, and those from the last on.
module _ (w h first past : ℕ) (spans : List Span) (cells others : List Cell) (some : 0 < w) (filled : length cells ≡ h * w)
    (long : length cells ≡ length others) (empty : AreEmptyBeside first past spans)
    (kept : (row column : ℕ) → row < h → column < w → IsOutside (span_at spans row) column
    → cell_at (row * w + column) cells ≡ cell_at (row * w + column) others) where
  copied-front : (end k : ℕ) (d : Cell) → k < end → get_or (copied 0 end others cells) k d ≡ get_or others k d
  copied-front end k d before = grind (arith, places)

  copied-rest : (end k : ℕ) (d : Cell) → end ≤ k → end ≤ length cells → get_or (copied 0 end others cells) k d ≡ get_or cells k d
  copied-rest end k d reached inside = grind (arith, places)

  copied-long : (end : ℕ) → end ≤ length cells → length (copied 0 end others cells) ≡ length cells
  copied-long end inside = grind (arith, places)

  row-end : (row : ℕ) → row ≤ h → row * w ≤ length cells
  row-end row within = subst (λ n. row * w ≤ n) (sym filled) (mul-le-mul_right {m = row} {n = h} w within)

  begun : first ≤ h → copied 0 (first * w) others cells ≡ cells
  begun within = same_lists (copied 0 (first * w) others cells) cells (copied-long (first * w) (row-end first within)) (λ k d less.
      let inside : k < length cells = omega (arith, less, copied-long (first * w) (row-end first within)) in
      elim (cases_Bool (nat_lt k (first * w))) [
        | inl is ↦ copied-front (first * w) k d (ltb-true k (first * w) is)
            ∙ sym (keeps-place w h spans cells others filled long kept k d some inside (empty.above (k / w) (div_below k w first some (ltb-true k (first * w) is))))
        | inr is ↦ copied-rest (first * w) k d (ltb-false k (first * w) is) (row-end first within)
      ])

  ended : (row : ℕ) → past ≤ row → row ≤ h → copied 0 (row * w) others cells ≡ others
  ended row reached within = same_lists (copied 0 (row * w) others cells) others (copied-long (row * w) (row-end row within) ∙ long) (λ k d less.
      let inside : k < length cells = omega (arith, less, copied-long (row * w) (row-end row within)) in
      elim (cases_Bool (nat_lt k (row * w))) [
        | inl is ↦ copied-front (row * w) k d (ltb-true k (row * w) is)
        | inr is ↦ copied-rest (row * w) k d (ltb-false k (row * w) is) (row-end row within)
            ∙ keeps-place w h spans cells others filled long kept k d some inside (empty.below (k / w) (omega (arith, reached, le-div row k w some (ltb-false k (row * w) is))))
      ])

  pub copied-begun : first ≤ h → copied (0 * w) (first * w) others cells ≡ cells
  copied-begun within = let none : 0 * w ≡ 0 = omega arith in ap (λ n. copied n (first * w) others cells) none ∙ begun within

  pub copied-ended : (row : ℕ) → past ≤ row → row ≤ h → copied (0 * w) (row * w) others cells ≡ others
  copied-ended row reached within = let none : 0 * w ≡ 0 = omega arith in ap (λ n. copied n (row * w) others cells) none ∙ ended row reached within

  -- The next row is as it was.
  pub next-row : (row : ℕ) → row < h → take w (drop (row * w) (copied (0 * w) (row * w) others cells)) ≡ take w (drop (row * w) cells)
  next-row row below =
      let end : row * w ≤ length cells = row-end row (omega arith) in
      let all : row * w - 0 ≡ row * w = omega arith in
      let none : 0 * w ≡ 0 = omega arith in
      rw (none, all) (ap (take w) (drop_at (take (row * w) others) (drop (row * w) cells) (row * w) (length-take-le (row * w) others (omega (arith, end, long)))))
