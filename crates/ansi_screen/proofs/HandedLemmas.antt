-- Rows that a grid hands out: they are kept, and blank ones stand in their places.
use Rattle.std.proofs.Common.{◌≡◌, ℕ, suc, ◌+◌, ◌-◌, ◌*◌, ◌<◌, ◌≤◌, List, ◌++◌, length, take, drop, refl, ap, sym, ◌∙◌, subst, arith}
use Rattle.std.specs.Prelude.{min, replicate}
use Rattle.std.proofs.lemmas.List.{take_at, drop_at, drop-drop, drop-take, length-take-le, length-replicate}
use Rattle.std.proofs.Math.Nat.{mul-le-mul_right}
use Rattle.std.proofs.Math.Seq.{take-append-add, drop-append-add}
use Rattle.ansi_style.specs.declared.style.Style.{Style}
use Rattle.ansi_screen.specs.declared.cell.Cell.{Cell}
use Rattle.ansi_screen.specs.Cells.{blank, rows_of, within, erased, moved_back}
use Rattle.ansi_screen.specs.Grid.{Grid, with_list}
use Rattle.ansi_screen.specs.History.{Kept, kept_after, kept_after_all}
use Rattle.ansi_screen.proofs.HistoryLemmas.{kept-more}
use Rattle.ansi_screen.proofs.MovedLemmas.{erased-is, fill-more, least-mul}

-- What stands behind the first cells stays where these become blank.
behind-erased : (a : ℕ) (space : Cell) (cells : List Cell) → a ≤ length cells → drop a (within 0 a (erased space) cells) ≡ drop a cells
behind-erased a space cells inside =
    ap (drop a) (erased-is 0 a space cells (omega arith) inside)
    ∙ drop_at (replicate (a - 0) space) (drop a cells) a (length-replicate (a - 0) space ∙ omega arith)

-- A row more is blank,
pub blank-more : (row : ℕ) (style : Style) (g now new : Grid) → length g.cells ≡ g.height * g.width → row < g.height
    → now ≡ with_list (within 0 (row * g.width) (erased (blank style)) g.cells) g
    → new ≡ with_list (within (row * now.width) (row * now.width + now.width) (erased (blank style)) now.cells) now
    → new ≡ with_list (within 0 ((row + 1) * g.width) (erased (blank style)) g.cells) g
blank-more row style g now new filled inside so_far put =
    let none : 0 * g.width ≡ 0 = omega arith in
    subst (λ n. new ≡ with_list (within n ((row + 1) * g.width) (erased (blank style)) g.cells) g) none
    (fill-more 0 row 0 style g now new filled (omega arith) inside
    (subst (λ n. now ≡ with_list (within n (row * g.width) (erased (blank style)) g.cells) g) (sym none) so_far) put)

-- and is kept as it was: the rows before it, which are blank now, do not reach it.
pub handed-more : (row : ℕ) (space : Cell) (g now : Grid) (before kept new : Kept) → length g.cells ≡ g.height * g.width → row < g.height
    → now ≡ with_list (within 0 (row * g.width) (erased space) g.cells) g
    → kept ≡ kept_after_all (rows_of row g.width g.cells) before
    → new ≡ kept_after (take now.width (drop (row * now.width) now.cells)) kept
    → new ≡ kept_after_all (rows_of (row + 1) g.width g.cells) before
handed-more row space g now before kept new filled inside so_far are put =
    let w : ℕ = g.width in
    let own : List Cell = take w (drop (row * w) g.cells) in
    let next : suc row ≡ row + 1 = omega arith in
    let below : row * w ≤ g.height * w = mul-le-mul_right {m = row} {n = g.height} w (omega (arith, inside)) in
    put
    ∙ ap (λ (f : Grid). kept_after (take f.width (drop (row * f.width) f.cells)) kept) so_far
    ∙ ap (λ l. kept_after (take w l) kept) (behind-erased (row * w) space g.cells (omega (arith, below, filled)))
    ∙ ap (kept_after own) are
    ∙ sym (kept-more (rows_of row w g.cells) own before)
    ∙ ap (λ n. kept_after_all (rows_of n w g.cells) before) next

-- Cells whose first are blank, and then come last: they moved back.
erased-back : (b k n : ℕ) (space : Cell) (cells : List Cell) → b ≤ length cells → k ≡ min n b
    → within 0 b (λ run. drop k run ++ take k run) (within 0 k (erased space) cells) ≡ within 0 b (moved_back n space) cells
erased-back b k n space cells inside least =
    let new : List Cell = replicate k space in
    let behind : List Cell = drop k cells in
    let kept : List Cell = take (b - k) behind in
    let rest : List Cell = drop b cells in
    let fits : k ≤ b = omega (arith, least) in
    let many : length new ≡ k = length-replicate k space in
    let end : b ≡ length new + (b - k) = omega (arith, many, fits) in
    let same : k - 0 ≡ k = omega arith in
    let all : b - 0 ≡ b = omega arith in
    let is : within 0 k (erased space) cells ≡ new ++ behind =
    erased-is 0 k space cells (omega arith) (omega (arith, fits, inside)) ∙ ap (λ m. replicate m space ++ behind) same in
    let run : take b (new ++ behind) ≡ new ++ kept = ap (λ m. take m (new ++ behind)) end ∙ take-append-add new behind (b - k) in
    let past : drop b (new ++ behind) ≡ rest =
    ap (λ m. drop m (new ++ behind)) end
    ∙ (drop-append-add new behind (b - k) ∙ (drop-drop (b - k) k cells ∙ ap (λ m. drop m cells) (omega (arith, fits)))) in
    let turned : drop k (new ++ kept) ++ take k (new ++ kept) ≡ kept ++ new =
    ap (λ l. l ++ take k (new ++ kept)) (drop_at new kept k many) ∙ ap (λ l. kept ++ l) (take_at new kept k many) in
    let old : List Cell = take b cells in
    let few : length old ≡ b = length-take-le b cells inside in
    let exact : min n (length old) ≡ k = ap (min n) few ∙ sym least in
    let moved : drop k old ≡ kept = ap (λ m. drop k (take m cells)) (omega (arith, fits)) ∙ drop-take k (b - k) cells in
    ap (within 0 b (λ run. drop k run ++ take k run)) is
    ∙ rw (all, run, past, turned, exact, moved) refl

-- Rows are handed out, and the blank ones come after the others.
pub move-out : (g one two : Grid) (last count n : ℕ) (space : Cell) → length g.cells ≡ g.height * g.width → last ≤ g.height → n ≡ min count last
    → one ≡ with_list (within 0 (n * g.width) (erased space) g.cells) g
    → two ≡ with_list (within (0 * one.width) (last * one.width) (λ run. drop (n * one.width) run ++ take (n * one.width) run) one.cells) one
    → two ≡ with_list (within 0 (last * g.width) (moved_back (count * g.width) space) g.cells) g
move-out g one two last count n space filled inside least is then_is =
    let w : ℕ = g.width in
    let b : ℕ = last * w in
    let k : ℕ = n * w in
    let none : 0 * w ≡ 0 = omega arith in
    let below : b ≤ g.height * w = mul-le-mul_right {m = last} {n = g.height} w inside in
    let few : k ≡ min (count * w) b = ap (λ m. m * w) least ∙ least-mul count last w in
    then_is
    ∙ ap (λ (f : Grid). with_list (within (0 * f.width) (last * f.width) (λ run. drop (n * f.width) run ++ take (n * f.width) run) f.cells) f) is
    ∙ ap (λ l. with_list l g) (ap (λ m. within m b (λ run. drop k run ++ take k run) (within 0 k (erased space) g.cells)) none
    ∙ erased-back b k (count * w) space g.cells (omega (arith, below, filled)) few)
