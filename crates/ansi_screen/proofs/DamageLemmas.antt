-- What an edit can change is noted.
use Rattle.std.proofs.Common.{◌≡◌, ◌≢◌, ◌⊎◌, inl, inr, ℕ, suc, ◌+◌, ◌-◌, ◌*◌, ◌<◌, ◌≤◌, Bool, true, false, ◌&&◌, List, [], ◌∷◌, ◌++◌, length, take, drop, set, refl, ap, sym, ◌∙◌, subst, arith}
use Rattle.std.specs.Prelude.{Option, None, Some, min, nat_lt, replicate, slice_set}
use Rattle.std.proofs.lemmas.List.{get_or-take, get_or-drop, get_or-set_same, get_or-set_other, length-set, length-replicate, length-append, length-take-le, length-drop, length-map, same_lists, get_or_default, get_or-replicate, take-replicate, drop-replicate, replicate-append-replicate, places}
use Rattle.std.proofs.lemmas.Bool.{cases_Bool}
use Rattle.std.proofs.Math.Nat.{suc-mul, mul-le-mul_right}
use borrow.Author.Tests.{ltb-true, ltb-false}
use Rattle.ansi_style.specs.Style.{plain}
use Rattle.ansi_style.specs.declared.style.Style.{Style}
use Rattle.ansi_screen.specs.declared.cell.Cell.{Cell}
use Rattle.ansi_screen.specs.declared.cell.Part.TheVariants.{Whole}
use Rattle.ansi_screen.specs.declared.damage.Span.{Span}
use Rattle.ansi_screen.specs.Cells.{blank, printed_cell, emptied, is_right, cell_at, cut, within, change, erased, moved_back, moved_on, with_mark, marked_before, going_on, deleted, inserted}
use Rattle.ansi_screen.specs.Print.{glyph}
use Rattle.ansi_screen.specs.Runs.{glyphs, with_glyphs}
use Rattle.ansi_screen.specs.Edits.{with_cells}
use Rattle.ansi_screen.specs.Display.{IsSized, most_columns}
use Rattle.ansi_screen.specs.State.{State, changed}
use Rattle.ansi_screen.specs.Damage.{Noted, HasHistory, no_span, whole_span, span_at, joined, IsOutside, IsNoted, AreEmptyBeside}
use Rattle.ansi_screen.specs.Grid.{Grid, with_list}
use Rattle.ansi_screen.specs.History.{Kept, kept_after, with_left}
use Rattle.ansi_screen.specs.Reachable.{RowsBegin}
use Rattle.ansi_screen.proofs.EditLemmas.{same-erased, same-deleted}
use Rattle.ansi_screen.proofs.PairLemmas.{length-cut, length-run, length-back, length-on, clear-cut_other}
use Rattle.ansi_screen.proofs.RunLemmas.{put-run}
use Rattle.ansi_screen.proofs.RowLemmas.{IsFree, Same, same-refl, same-trans, same-set, same-cut, same-within, same-wider, same-change, same-inserted, same-going_on, marked-between}
use Rattle.ansi_screen.proofs.WholeLemmas.{length-glyph}

-- the same cells before a place and from another one on
same-front : (start end k : ℕ) (xs ys : List Cell) → Same start end xs ys → k < start → cell_at k xs ≡ cell_at k ys
same-front start end k xs ys same before =
    sym (get_or-take start xs k (blank plain) before)
    ∙ (ap (λ l. cell_at k l) same.front ∙ get_or-take start ys k (blank plain) before)

same-behind : (start end k : ℕ) (xs ys : List Cell) → Same start end xs ys → end ≤ k → cell_at k xs ≡ cell_at k ys
same-behind start end k xs ys same past =
    let there : end + (k - end) ≡ k = omega arith in
    let at : cell_at (end + (k - end)) xs ≡ cell_at (end + (k - end)) ys =
    sym (get_or-drop end xs (k - end) (blank plain))
    ∙ (ap (λ l. cell_at (k - end) l) same.behind ∙ get_or-drop end ys (k - end) (blank plain)) in
    subst (λ n. cell_at n xs ≡ cell_at n ys) there at

-- a cut changes the two cells beside it
cut-beside_at : (place : ℕ) (cells : List Cell) (t : Bool) → (nat_lt 0 place && is_right (cell_at place cells).part) ≡ t
    → Same (place - 1) (place + 1) (cut place cells) cells
unfolding cut
cut-beside_at place cells false is = rw is (same-refl (place - 1) (place + 1) cells)
cut-beside_at place cells true is =
    let left : Cell = emptied (cell_at (place - 1) cells) in
    let first : List Cell = set cells (place - 1) left in
    rw is (same-trans (place - 1) (place + 1) (set first place (emptied (cell_at place cells))) first cells
    (same-set (place - 1) (place + 1) place first (emptied (cell_at place cells)) (omega arith) (omega arith))
    (same-set (place - 1) (place + 1) (place - 1) cells left (omega arith) (omega arith)))

cut-beside : (from to place : ℕ) (cells : List Cell) → from ≤ place - 1 → place + 1 ≤ to → Same from to (cut place cells) cells
cut-beside from to place cells first last =
    same-wider (place - 1) (place + 1) from to (cut place cells) cells (cut-beside_at place cells _ refl) first last

-- so a change between two places changes no more than the cells beside these
change-beside : (start end : ℕ) (how : List Cell → List Cell) (cells : List Cell) → start ≤ end → end ≤ length cells
    → length (how (take (end - start) (drop start (cut start (cut end cells))))) ≡ end - start
    → Same (start - 1) (end + 1) (change start end how cells) cells
change-beside start end how cells order inside long =
    let once : List Cell = cut end cells in
    let both : List Cell = cut start once in
    same-trans (start - 1) (end + 1) (within start end how both) both cells
    (same-within (start - 1) (end + 1) start end how both (omega arith) order (omega arith) (omega (arith, length-cut start once, length-cut end cells)) long)
    (same-trans (start - 1) (end + 1) both once cells (cut-beside (start - 1) (end + 1) start once (omega arith) (omega arith))
    (cut-beside (start - 1) (end + 1) end cells (omega arith) (omega arith)))

-- a row is above another, the same, or below it
before-row : (width row other column : ℕ) → other < row → column < width → other * width + column < row * width
before-row width row other column above inside =
    let past : suc other * width ≤ row * width = mul-le-mul_right {m = suc other} {n = row} width above in
    let next : suc other * width ≡ other * width + width = suc-mul other width in
    omega arith

behind-row : (width row other : ℕ) → row < other → row * width + width ≤ other * width
behind-row width row other below =
    let past : suc row * width ≤ other * width = mul-le-mul_right {m = suc row} {n = other} width below in
    let next : suc row * width ≡ row * width + width = suc-mul row width in
    omega arith

-- No column is outside a whole span, and of joined spans it is outside of each.
none-outside : (width column : ℕ) → width ≤ most_columns → column < width → IsOutside whole_span column → ⊥
none-outside width column narrow in_row (inl before) = omega arith
none-outside width column narrow in_row (inr past) = omega arith

out-first : (left right column : ℕ) (span : Span) → IsOutside (joined left right span) column → IsOutside span column
out-first left right column span (inl before) = inl (omega arith)
out-first left right column span (inr past) = inr (omega arith)

out-second : (left right column : ℕ) (span : Span) → IsOutside (joined left right span) column → (column + 1 < left) ⊎ (right < column)
out-second left right column span (inl before) = inl (omega arith)
out-second left right column span (inr past) = inr (omega arith)

-- Spans to which columns of a row were joined; and those of which several rows are whole.
abbrev with_columns : (row left right : ℕ) → List Span → List Span
with_columns row left right spans = set spans row (joined left right (span_at spans row))

abbrev with_rows : (first past : ℕ) → List Span → List Span
with_rows first past spans = take first spans ++ (replicate (past - first) whole_span ++ drop past spans)

length-rows : (first past : ℕ) (spans : List Span) → first ≤ past → past ≤ length spans → length (with_rows first past spans) ≡ length spans
length-rows first past spans order inside =
    omega (
      arith,
      length-append (take first spans) (replicate (past - first) whole_span ++ drop past spans),
      length-append (replicate (past - first) whole_span) (drop past spans),
      length-replicate (past - first) whole_span,
      length-take-le first spans (omega arith),
      length-drop past spans,
    )

rows-above : (first past other : ℕ) (spans : List Span) → first ≤ past → past ≤ length spans → other < first
    → span_at (with_rows first past spans) other ≡ span_at spans other
rows-above first past other spans order inside above = grind (arith, places)

rows-below : (first past other : ℕ) (spans : List Span) → first ≤ past → past ≤ length spans → past ≤ other
    → span_at (with_rows first past spans) other ≡ span_at spans other
rows-below first past other spans order inside below = grind (arith, places)

rows-among : (first past other : ℕ) (spans : List Span) → first ≤ past → past ≤ length spans → first ≤ other → other < past
    → span_at (with_rows first past spans) other ≡ whole_span
rows-among first past other spans order inside from to = grind (arith, places)

at-span : (column : ℕ) (a b : Span) → a ≡ b → IsOutside a column → IsOutside b column
at-span column a b same = subst (λ (s : Span). IsOutside s column) same

-- What is outside the wider spans is outside the narrower ones, and there new cells are as the old ones.
pub record Writes (width height : ℕ) (olds news : List Span) (old new : List Cell) : Type 0 where
  pub narrower : (row column : ℕ) → row < height → column < width → IsOutside (span_at news row) column → IsOutside (span_at olds row) column
  pub kept : (row column : ℕ) → row < height → column < width → IsOutside (span_at news row) column
      → cell_at (row * width + column) new ≡ cell_at (row * width + column) old
  pub long : length new ≡ length old
  pub spans : length news ≡ length olds

module _ (width height row left right : ℕ) (spans : List Span) (old new : List Cell) (inside : row < length spans)
    (same : Same (row * width) (row * width + width) new old) (beside : Same (row * width + left - 1) (row * width + right + 1) new old) where
  abbrev wider : List Span
  wider = with_columns row left right spans

  -- of each other row, above it or below it
  else-row : (other column : ℕ) → other ≢ row → IsOutside (span_at wider other) column → IsOutside (span_at spans other) column
  else-row other column differs = at-span column (span_at wider other) (span_at spans other) (get_or-set_other spans row other (joined left right (span_at spans row)) no_span differs)

  this-row : (column : ℕ) → IsOutside (span_at wider row) column → IsOutside (joined left right (span_at spans row)) column
  this-row column = at-span column (span_at wider row) (joined left right (span_at spans row)) (get_or-set_same spans row (joined left right (span_at spans row)) no_span inside)

  kept-beside : (column : ℕ) → (column + 1 < left) ⊎ (right < column) → cell_at (row * width + column) new ≡ cell_at (row * width + column) old
  kept-beside column (inl before) = same-front (row * width + left - 1) (row * width + right + 1) (row * width + column) new old beside (omega arith)
  kept-beside column (inr past) = same-behind (row * width + left - 1) (row * width + right + 1) (row * width + column) new old beside (omega arith)

  narrower-in : (other column : ℕ) (t u : Bool) → nat_lt other row ≡ t → nat_lt row other ≡ u → IsOutside (span_at wider other) column → IsOutside (span_at spans other) column
  narrower-in other column true u above is out =
      let less : other < row = ltb-true other row above in else-row other column (λ e. omega arith) out
  narrower-in other column false true above is out =
      let more : row < other = ltb-true row other is in else-row other column (λ e. omega arith) out
  narrower-in other column false false above is out =
      let least : row ≤ other = ltb-false other row above in
      let most : other ≤ row = ltb-false row other is in
      let here : row ≡ other = omega arith in
      subst (λ n. IsOutside (span_at wider n) column → IsOutside (span_at spans n) column) here
      (λ o. out-first left right column (span_at spans row) (this-row column o)) out

  kept-in : (other column : ℕ) (t u : Bool) → nat_lt other row ≡ t → nat_lt row other ≡ u → column < width → IsOutside (span_at wider other) column
      → cell_at (other * width + column) new ≡ cell_at (other * width + column) old
  kept-in other column true u above is in_row out =
      let less : other < row = ltb-true other row above in
      same-front (row * width) (row * width + width) (other * width + column) new old same (before-row width row other column less in_row)
  kept-in other column false true above is in_row out =
      let more : row < other = ltb-true row other is in
      let past : row * width + width ≤ other * width = behind-row width row other more in
      same-behind (row * width) (row * width + width) (other * width + column) new old same (omega arith)
  kept-in other column false false above is in_row out =
      let least : row ≤ other = ltb-false other row above in
      let most : other ≤ row = ltb-false row other is in
      let here : row ≡ other = omega arith in
      subst (λ n. IsOutside (span_at wider n) column → cell_at (n * width + column) new ≡ cell_at (n * width + column) old) here
      (λ o. kept-beside column (out-second left right column (span_at spans row) (this-row column o))) out

  pub writes-columns : Writes width height spans (with_columns row left right spans) old new
  writes-columns = record {
    narrower = λ other column below in_row out. narrower-in other column _ _ refl refl out;
    kept = λ other column below in_row out. kept-in other column _ _ refl refl in_row out;
    long = same.long;
    spans = length-set spans row (joined left right (span_at spans row));
  }

module _ (width height first past : ℕ) (spans : List Span) (old new : List Cell) (narrow : width ≤ most_columns) (order : first ≤ past)
    (inside : past ≤ length spans) (same : Same (first * width) (past * width) new old) where
  abbrev whole : List Span
  whole = with_rows first past spans

  among : (other column : ℕ) → first ≤ other → other < past → column < width → IsOutside (span_at whole other) column → ⊥
  among other column from to in_row out =
      none-outside width column narrow in_row (at-span column (span_at whole other) whole_span (rows-among first past other spans order inside from to) out)

  narrower-out : (other column : ℕ) (t u : Bool) → nat_lt other first ≡ t → nat_lt other past ≡ u → column < width → IsOutside (span_at whole other) column
      → IsOutside (span_at spans other) column
  narrower-out other column true u above is in_row out =
      at-span column (span_at whole other) (span_at spans other) (rows-above first past other spans order inside (ltb-true other first above)) out
  narrower-out other column false true above is in_row out = absurd (among other column (ltb-false other first above) (ltb-true other past is) in_row out)
  narrower-out other column false false above is in_row out =
      at-span column (span_at whole other) (span_at spans other) (rows-below first past other spans order inside (ltb-false other past is)) out

  kept-out : (other column : ℕ) (t u : Bool) → nat_lt other first ≡ t → nat_lt other past ≡ u → column < width → IsOutside (span_at whole other) column
      → cell_at (other * width + column) new ≡ cell_at (other * width + column) old
  kept-out other column true u above is in_row out =
      same-front (first * width) (past * width) (other * width + column) new old same (before-row width first other column (ltb-true other first above) in_row)
  kept-out other column false true above is in_row out = absurd (among other column (ltb-false other first above) (ltb-true other past is) in_row out)
  kept-out other column false false above is in_row out =
      let more : past * width ≤ other * width = mul-le-mul_right {m = past} {n = other} width (ltb-false other past is) in
      same-behind (first * width) (past * width) (other * width + column) new old same (omega arith)

  pub writes-rows : Writes width height spans (with_rows first past spans) old new
  writes-rows = record {
    narrower = λ other column below in_row out. narrower-out other column _ _ refl refl in_row out;
    kept = λ other column below in_row out. kept-out other column _ _ refl refl in_row out;
    long = same.long;
    spans = length-rows first past spans order inside;
  }

-- what marks, goes on, deletes and inserts changes no other cells than these and those beside them
marked-beside : (from to mark place : ℕ) (cells : List Cell) (t : Bool) → is_right (cell_at (place - 1) cells).part ≡ t → 0 < place
    → from ≤ place - 2 → place ≤ to → Same from to (marked_before mark place cells) cells
unfolding marked_before
marked-beside from to mark place cells true is some before behind =
    rw is (same-set from to (place - 2) cells (with_mark mark (cell_at (place - 2) cells)) before (omega arith))
marked-beside from to mark place cells false is some before behind =
    rw is (same-set from to (place - 1) cells (with_mark mark (cell_at (place - 1) cells)) (omega arith) (omega arith))

going_on-beside : (from to : ℕ) (on : Bool) (end : ℕ) (cells : List Cell) → from + 1 ≤ end → end ≤ to → 0 < end
    → Same from to (going_on on end cells) cells
unfolding going_on
going_on-beside from to on end cells before behind some =
    same-set from to (end - 1) cells (record (cell_at (end - 1) cells) { goes_on = on }) (omega arith) (omega arith)

deleted-beside : (n start end : ℕ) (gap : Cell) (cells : List Cell) → start ≤ end → end ≤ length cells
    → Same (start - 1) (end + 1) (deleted n start end gap cells) cells
deleted-beside n start end gap cells order inside =
    let place : ℕ = start + min n (end - start) in
    let once : List Cell = cut place cells in
    let both : List Cell = cut start (cut end once) in
    let inside_once : end ≤ length once = omega (arith, length-cut place cells) in
    let inside_both : end ≤ length both = omega (arith, length-cut start (cut end once), length-cut end once) in
    same-trans (start - 1) (end + 1) _ once cells
    (change-beside start end (moved_back n gap) once order inside_once
    (length-back n gap (take (end - start) (drop start both)) ∙ length-run start end both inside_both))
    (cut-beside (start - 1) (end + 1) place cells (omega arith) (omega arith))

inserted-beside : (n start end : ℕ) (gap : Cell) (cells : List Cell) → start ≤ end → end ≤ length cells
    → Same (start - 1) (end + 1) (inserted n start end gap cells) cells
inserted-beside n start end gap cells order inside =
    let place : ℕ = end - min n (end - start) in
    let once : List Cell = cut place cells in
    let both : List Cell = cut start (cut end once) in
    let inside_once : end ≤ length once = omega (arith, length-cut place cells) in
    let inside_both : end ≤ length both = omega (arith, length-cut start (cut end once), length-cut end once) in
    same-trans (start - 1) (end + 1) _ once cells
    (change-beside start end (moved_on n gap) once order inside_once
    (length-on n gap (take (end - start) (drop start both)) ∙ length-run start end both inside_both))
    (cut-beside (start - 1) (end + 1) place cells (omega arith) (omega arith))

run-erased : (start end : ℕ) (gap : Cell) (cells : List Cell) → end ≤ length cells
    → length (erased gap (take (end - start) (drop start (cut start (cut end cells))))) ≡ end - start
run-erased start end gap cells inside =
    let both : List Cell = cut start (cut end cells) in
    length-replicate (length (take (end - start) (drop start both))) gap
    ∙ length-run start end both (omega (arith, length-cut start (cut end cells), length-cut end cells))

row-inside : (row width height : ℕ) → row < height → row * width + width ≤ height * width
row-inside row width height below =
    let past : suc row * width ≤ height * width = mul-le-mul_right {m = suc row} {n = height} width below in
    let next : suc row * width ≡ row * width + width = suc-mul row width in
    omega arith

-- Edits of a row, of which columns are noted.
module _ (width height row : ℕ) (spans : List Span) (cells : List Cell) (begin : RowsBegin width cells)
    (filled : length cells ≡ height * width) (below : row < height) (long : length spans ≡ height) where
  inside : row < length spans
  inside = omega arith

  fits : row * width + width ≤ length cells
  fits = omega (arith, row-inside row width height below)

  next-free : IsFree (row * width + width) cells
  next-free = subst (λ n. IsFree n cells) (suc-mul row width) (begin (suc row))

  pub writes-change : (start end : ℕ) (how : List Cell → List Cell) → start ≤ end → end ≤ width
      → length (how (take (row * width + end - (row * width + start)) (drop (row * width + start) (cut (row * width + start) (cut (row * width + end) cells))))) ≡ row * width + end - (row * width + start)
      → Writes width height spans (with_columns row start end spans) cells (change (row * width + start) (row * width + end) how cells)
  writes-change start end how order last run_long =
      writes-columns width height row start end spans cells (change (row * width + start) (row * width + end) how cells) inside
      (same-change (row * width) (row * width + width) (row * width + start) (row * width + end) how cells (omega arith) (omega arith) (omega arith) fits (begin row) next-free run_long)
      (change-beside (row * width + start) (row * width + end) how cells (omega arith) (omega (arith, fits)) run_long)

  -- EL, ECH
  pub writes-erased : (start end : ℕ) (gap : Cell) → start ≤ end → end ≤ width
      → Writes width height spans (with_columns row start end spans) cells (change (row * width + start) (row * width + end) (erased gap) cells)
  writes-erased start end gap order last =
      writes-change start end (erased gap) order last (run-erased (row * width + start) (row * width + end) gap cells (omega (arith, fits)))

  -- a character
  pub writes-glyph : (n c start : ℕ) (style : Style) (link : ℕ) → 1 ≤ n → n ≤ 2 → start + n ≤ width
      → Writes width height spans (with_columns row start (start + n) spans) cells
      (change (row * width + start) (row * width + start + n) (λ run. glyph n c style link) cells)
  writes-glyph n c start style link some few last =
      let place : row * width + (start + n) ≡ row * width + start + n = omega arith in
      subst (λ k. Writes width height spans (with_columns row start (start + n) spans) cells (change (row * width + start) k (λ run. glyph n c style link) cells)) place
      (writes-change start (start + n) (λ run. glyph n c style link) (omega arith) last (length-glyph n c style link _ refl some few ∙ omega arith))

  -- characters of one column each
  pub writes-glyphs : (text : List ℕ) (start : ℕ) (style : Style) (link : ℕ) → 0 < length text → start + length text ≤ width
      → Writes width height spans (with_columns row start (start + length text) spans) cells (with_glyphs (row * width + start) text style link cells)
  writes-glyphs text start style link some last =
      let place : ℕ = row * width + start in
      let end : ℕ = place + length text in
      let from : ℕ = row * width in
      let to : ℕ = row * width + width in
      let first : List Cell = cut (place + 1) cells in
      let second : List Cell = cut place first in
      let third : List Cell = cut end second in
      let new : List Cell = glyphs text style link in
      let long_third : length third ≡ length cells = length-cut end second ∙ (length-cut place first ∙ length-cut (place + 1) cells) in
      let new_long : length new ≡ end - place = length-map text (λ c. printed_cell c style link Whole) ∙ omega arith in
      let there : within place end (λ run. new) third ≡ with_glyphs place text style link cells =
      put-run text place style link cells first second third new some (omega (arith, fits)) refl refl refl refl in
      let free_second : (k : ℕ) → IsFree k cells → IsFree k first = λ k free. clear-cut_other (place + 1) k cells free in
      let free_third : (k : ℕ) → IsFree k cells → IsFree k second = λ k free. clear-cut_other place k first (free_second k free) in
      subst (Writes width height spans (with_columns row start (start + length text) spans) cells) there
      (writes-columns width height row start (start + length text) spans cells (within place end (λ run. new) third) inside
      (same-trans from to _ third cells (same-within from to place end (λ run. new) third (omega arith) (omega arith) (omega arith) (omega (arith, fits, long_third)) new_long)
      (same-trans from to third second cells (same-cut from to end second (omega arith) (omega arith) (free_third from (begin row)) (free_third to next-free))
      (same-trans from to second first cells (same-cut from to place first (omega arith) (omega arith) (free_second from (begin row)) (free_second to next-free))
      (same-cut from to (place + 1) cells (omega arith) (omega arith) (begin row) next-free))))
      (same-trans (row * width + start - 1) (row * width + (start + length text) + 1) _ third cells
      (same-within (row * width + start - 1) (row * width + (start + length text) + 1) place end (λ run. new) third (omega arith) (omega arith) (omega arith) (omega (arith, fits, long_third)) new_long)
      (same-trans (row * width + start - 1) (row * width + (start + length text) + 1) third second cells (cut-beside (row * width + start - 1) (row * width + (start + length text) + 1) end second (omega arith) (omega arith))
      (same-trans (row * width + start - 1) (row * width + (start + length text) + 1) second first cells (cut-beside (row * width + start - 1) (row * width + (start + length text) + 1) place first (omega arith) (omega arith))
      (cut-beside (row * width + start - 1) (row * width + (start + length text) + 1) (place + 1) cells (omega arith) (omega arith))))))

  -- whether the row goes on
  pub writes-going_on : (on : Bool) → 0 < width
      → Writes width height spans (with_columns row (width - 1) width spans) cells (going_on on (row * width + width) cells)
  writes-going_on on some =
      writes-columns width height row (width - 1) width spans cells (going_on on (row * width + width) cells) inside
      (same-going_on on (row * width) (row * width + width) cells (omega arith))
      (going_on-beside (row * width + (width - 1) - 1) (row * width + width + 1) on (row * width + width) cells (omega arith) (omega arith) (omega arith))

  -- a mark of the character before a column
  pub writes-marked : (mark column : ℕ) → 0 < column → column ≤ width
      → Writes width height spans (with_columns row (column - 1) column spans) cells (marked_before mark (row * width + column) cells)
  writes-marked mark column some last =
      writes-columns width height row (column - 1) column spans cells (marked_before mark (row * width + column) cells) inside
      (marked-between (row * width) (row * width + width) mark (row * width + column) cells _ refl (omega arith) (omega arith) (begin row))
      (marked-beside (row * width + (column - 1) - 1) (row * width + column + 1) mark (row * width + column) cells _ refl (omega arith) (omega arith) (omega arith))

  -- DCH, ICH
  pub writes-deleted : (n start : ℕ) (gap : Cell) → start ≤ width
      → Writes width height spans (with_columns row start width spans) cells (deleted n (row * width + start) (row * width + width) gap cells)
  writes-deleted n start gap last =
      writes-columns width height row start width spans cells (deleted n (row * width + start) (row * width + width) gap cells) inside
      (same-deleted (row * width) (row * width + width) (row * width + start) gap cells (omega arith) (begin row) next-free n (omega arith) fits)
      (deleted-beside n (row * width + start) (row * width + width) gap cells (omega arith) fits)

  pub writes-inserted : (n start : ℕ) (gap : Cell) → start ≤ width
      → Writes width height spans (with_columns row start width spans) cells (inserted n (row * width + start) (row * width + width) gap cells)
  writes-inserted n start gap last =
      writes-columns width height row start width spans cells (inserted n (row * width + start) (row * width + width) gap cells) inside
      (same-inserted (row * width) (row * width + width) (row * width + start) n gap cells (omega arith) (omega arith) fits (begin row) next-free)
      (inserted-beside n (row * width + start) (row * width + width) gap cells (omega arith) fits)

-- Rows that move, or are blank.
module _ (width height first past : ℕ) (spans : List Span) (cells : List Cell) (narrow : width ≤ most_columns)
    (filled : length cells ≡ height * width) (order : first ≤ past) (below : past ≤ height) (long : length spans ≡ height) where
  end-inside : past * width ≤ length cells
  end-inside = subst (λ n. past * width ≤ n) (sym filled) (mul-le-mul_right {m = past} {n = height} width below)

  pub writes-within : (how : List Cell → List Cell)
      → length (how (take (past * width - first * width) (drop (first * width) cells))) ≡ past * width - first * width
      → Writes width height spans (with_rows first past spans) cells (within (first * width) (past * width) how cells)
  writes-within how run_long =
      let ordered : first * width ≤ past * width = mul-le-mul_right {m = first} {n = past} width order in
      writes-rows width height first past spans cells (within (first * width) (past * width) how cells) narrow order (omega arith)
      (same-within (first * width) (past * width) (first * width) (past * width) how cells (omega arith) ordered (omega arith) end-inside run_long)

  run-long : length (take (past * width - first * width) (drop (first * width) cells)) ≡ past * width - first * width
  run-long = length-run (first * width) (past * width) cells end-inside

  pub writes-up : (n : ℕ) (gap : Cell)
      → Writes width height spans (with_rows first past spans) cells (within (first * width) (past * width) (moved_back n gap) cells)
  writes-up n gap = writes-within (moved_back n gap) (length-back n gap (take (past * width - first * width) (drop (first * width) cells)) ∙ run-long)

  pub writes-down : (n : ℕ) (gap : Cell)
      → Writes width height spans (with_rows first past spans) cells (within (first * width) (past * width) (moved_on n gap) cells)
  writes-down n gap = writes-within (moved_on n gap) (length-on n gap (take (past * width - first * width) (drop (first * width) cells)) ∙ run-long)

  pub writes-blanks : (gap : Cell)
      → Writes width height spans (with_rows first past spans) cells (within (first * width) (past * width) (erased gap) cells)
  writes-blanks gap = writes-within (erased gap) (length-replicate (length (take (past * width - first * width) (drop (first * width) cells))) gap ∙ run-long)

-- The first row begins with the first cell.
pub from-first : (width height past : ℕ) (spans news : List Span) (run : List Cell → List Cell) (cells : List Cell)
    → Writes width height spans news cells (within (0 * width) (past * width) run cells)
    → Writes width height spans news cells (within 0 (past * width) run cells)
from-first width height past spans news run cells writes =
    let none : 0 * width ≡ 0 = omega arith in
    subst (λ n. Writes width height spans news cells (within n (past * width) run cells)) none writes

-- All cells are erased.
pub writes-all : (width height rows : ℕ) (spans : List Span) (cells : List Cell) (gap : Cell) → width ≤ most_columns → length cells ≡ height * width → rows ≡ height
    → length spans ≡ height → RowsBegin width cells
    → Writes width height spans (with_rows 0 rows spans) cells (change 0 (length cells) (erased gap) cells)
writes-all width height rows spans cells gap narrow filled high long begin =
    let none : 0 * width ≡ 0 = omega arith in
    let whole : rows * width ≡ length cells = ap (λ n. n * width) high ∙ sym filled in
    let first : IsFree 0 cells = subst (λ n. IsFree n cells) none (begin 0) in
    let last : IsFree (length cells) cells = subst (λ n. IsFree n cells) (sym filled) (begin height) in
    let all : List Cell = change 0 (length cells) (erased gap) cells in
    let same : Same 0 (length cells) all cells = same-erased 0 (length cells) 0 gap cells (omega arith) first last (length cells) (omega arith) (omega arith) (omega arith) in
    writes-rows width height 0 rows spans cells all narrow (omega arith) (omega (arith, high, long))
    (subst (λ n. Same n (rows * width) all cells) (sym none) (subst (λ n. Same 0 n all cells) (sym whole) same))

-- A screen whose cells were written, as it was noted.
pub wrote : (noted behind : Noted) (d : State) (cells : List Cell) → IsNoted noted d → behind.is_framed ≡ noted.is_framed
    → Writes d.display.width d.display.height noted.spans behind.spans d.display.cells cells → IsNoted behind (changed (with_cells cells) d)
wrote noted behind d cells was framed writes =
    let s : IsSized d.display = was.sized in
    record {
      sized = record { two_columns = s.two_columns; columns_limit = s.columns_limit; a_row = s.a_row; rows_limit = s.rows_limit; cells_fill = writes.long ∙ s.cells_fill; hidden_fill = s.hidden_fill; tabs_fill = s.tabs_fill; cursor_row = s.cursor_row; cursor_column = s.cursor_column; saved_row = s.saved_row; saved_column = s.saved_column; hidden_row = s.hidden_row; hidden_column = s.hidden_column; margins = s.margins; margins_within = s.margins_within };
      kept = was.kept;
      long = writes.spans ∙ was.long;
      damage = record {
        long = writes.long ∙ was.damage.long;
        cells = λ row column below in_row out. writes.kept row column below in_row out
            ∙ was.damage.cells row column below in_row (writes.narrower row column below in_row out);
        frame = λ none. was.damage.frame (sym framed ∙ none);
      };
    }

-- where all is noted, these rows are
pub noted-again : (n first past : ℕ) (x : Span) (spans : List Span) → spans ≡ replicate n x → first ≤ past → past ≤ length spans
    → spans ≡ take first spans ++ (replicate (past - first) x ++ drop past spans)
noted-again n first past x spans all order inside =
    let few : past ≤ n = omega (arith, ap length all, length-replicate n x) in
    let parts : first + (past - first + (n - past)) ≡ n = omega arith in
    rw (
      all,
      take-replicate first n x (omega arith),
      drop-replicate past n x,
      replicate-append-replicate (past - first) (n - past) x,
      replicate-append-replicate first (past - first + (n - past)) x,
      parts,
    ) refl

-- Where the spans between are empty too, all are.
all-empty : (n : ℕ) (spans : List Span) → length spans ≡ n → ((row : ℕ) → row < n → span_at spans row ≡ no_span) → spans ≡ replicate n no_span
all-empty n spans long are =
    same_lists spans (replicate n no_span) (long ∙ sym (length-replicate n no_span))
    (λ k d below. get_or_default spans k d no_span below ∙ (are k (omega (arith, long)) ∙ sym (get_or-replicate n k no_span d (omega (arith, long)))))

pub forgotten-rest : (first past : ℕ) (spans : List Span) → AreEmptyBeside first past spans → past ≤ first → spans ≡ replicate (length spans) no_span
forgotten-rest first past spans empty none =
    all-empty (length spans) spans refl (λ row below. elim (cases_Bool (nat_lt row first)) [
      | inl is ↦ empty.above row (ltb-true row first is)
      | inr is ↦ empty.below row (omega (arith, none, ltb-false row first is))
    ])

-- the cursor in another column
pub in-column : (noted : Noted) (column : ℕ) (d : State) → column ≤ d.display.width → IsNoted noted d
    → IsNoted noted (changed (λ e. record e { cursor = record e.cursor { column = column } }) d)
in-column noted column d inside was =
    let s : IsSized d.display = was.sized in
    record {
      sized = record { two_columns = s.two_columns; columns_limit = s.columns_limit; a_row = s.a_row; rows_limit = s.rows_limit; cells_fill = s.cells_fill; hidden_fill = s.hidden_fill; tabs_fill = s.tabs_fill; cursor_row = s.cursor_row; cursor_column = inside; saved_row = s.saved_row; saved_column = s.saved_column; hidden_row = s.hidden_row; hidden_column = s.hidden_column; margins = s.margins; margins_within = s.margins_within };
      kept = was.kept;
      long = was.long;
      damage = was.damage;
    }

-- rows of another width, which is the same
pub kept-width : (width other : ℕ) (history : Option Kept) → other ≡ width → HasHistory width history → HasHistory other history
kept-width width other history same kept = subst (λ n. HasHistory n history) (sym same) kept

-- What is kept of rows that left has the columns that it had.
pub left-history : (width : ℕ) (rows : List (List Cell)) (history : Option Kept) → HasHistory width history → HasHistory width (with_left rows history)
left-history width [] history has = has
left-history width (row ∷ rows) None has = left-history width rows None has
left-history width (row ∷ rows) (Some kept) has = left-history width rows (Some (kept_after row kept)) has

-- other rows that left are kept
keeping-others : (noted : Noted) (history : Option Kept) (d : State) → HasHistory d.display.width history → IsNoted noted d
    → IsNoted noted (record d { history = history })
keeping-others noted history d has was =
    let s : IsSized d.display = was.sized in
    record {
      sized = record { two_columns = s.two_columns; columns_limit = s.columns_limit; a_row = s.a_row; rows_limit = s.rows_limit; cells_fill = s.cells_fill; hidden_fill = s.hidden_fill; tabs_fill = s.tabs_fill; cursor_row = s.cursor_row; cursor_column = s.cursor_column; saved_row = s.saved_row; saved_column = s.saved_column; hidden_row = s.hidden_row; hidden_column = s.hidden_column; margins = s.margins; margins_within = s.margins_within };
      kept = has;
      long = was.long;
      damage = was.damage;
    }

-- A screen with the cells of a grid; and one whose cells were written, as it was noted.
abbrev pub on_grid : Grid → State → State
on_grid g d = changed (λ e. record e { width = g.width; height = g.height; cells = g.cells }) d

module _ (noted behind : Noted) (g new hidden : Grid) (v d : State) (is : v ≡ d)
    (was : (hidden.width ≡ g.width) × (hidden.height ≡ g.height) × IsNoted noted (on_grid g v)) (cells : List Cell) (now : new ≡ with_list cells g) where
  abbrev Stays : Type 0
  Stays = (hidden.width ≡ new.width) × (hidden.height ≡ new.height) × IsNoted behind (on_grid new v)

  on-new : IsNoted behind (changed (with_cells cells) (on_grid g v)) → Stays
  on-new stays =
      subst (λ (f : Grid). (hidden.width ≡ f.width) × (hidden.height ≡ f.height) × IsNoted behind (on_grid f v)) (sym now) (was.0, was.1, stays)

  pub edits-row : (row left right : ℕ) → behind ≡ record noted { spans = slice_set noted.spans row (joined left right (span_at noted.spans row)) }
      → Writes g.width g.height noted.spans (with_columns row left right noted.spans) g.cells cells → Stays
  edits-row row left right is_noted writes =
      on-new (wrote noted behind (on_grid g v) cells was.2 (ap (λ (n : Noted). n.is_framed) is_noted)
      (subst (λ l. Writes g.width g.height noted.spans l g.cells cells) (sym (ap (λ (n : Noted). n.spans) is_noted)) writes))

  pub edits-rows : (first past : ℕ) → behind ≡ record noted { spans = take first noted.spans ++ (replicate (past - first) whole_span ++ drop past noted.spans) }
      → Writes g.width g.height noted.spans (with_rows first past noted.spans) g.cells cells → Stays
  edits-rows first past is_noted writes =
      on-new (wrote noted behind (on_grid g v) cells was.2 (ap (λ (n : Noted). n.is_framed) is_noted)
      (subst (λ l. Writes g.width g.height noted.spans l g.cells cells) (sym (ap (λ (n : Noted). n.spans) is_noted)) writes))

  -- and the cursor in another column
  pub puts-row : (row left right column : ℕ) → column ≤ g.width → behind ≡ record noted { spans = slice_set noted.spans row (joined left right (span_at noted.spans row)) }
      → Writes g.width g.height noted.spans (with_columns row left right noted.spans) g.cells cells
      → (hidden.width ≡ new.width) × (hidden.height ≡ new.height) × IsNoted behind (changed (λ e. record e { cursor = record e.cursor { column = column } }) (on_grid new v))
  puts-row row left right column inside is_noted writes =
      let stays : Stays = edits-row row left right is_noted writes in
      let fits : column ≤ new.width = subst (λ (f : Grid). column ≤ f.width) (sym now) inside in
      (stays.0, stays.1, in-column behind column (on_grid new v) fits stays.2)

  -- and rows left
  pub leaves-rows : (past : ℕ) (rows : List (List Cell)) (history : Option Kept)
      → behind ≡ record noted { spans = take 0 noted.spans ++ (replicate (past - 0) whole_span ++ drop past noted.spans) }
      → Writes g.width g.height noted.spans (with_rows 0 past noted.spans) g.cells cells → history ≡ with_left rows v.history
      → (hidden.width ≡ new.width) × (hidden.height ≡ new.height) × IsNoted behind (record (on_grid new v) { history = history })
  leaves-rows past rows history is_noted writes left =
      let stays : Stays = edits-rows 0 past is_noted writes in
      let same : new.width ≡ g.width = ap (λ (f : Grid). f.width) now in
      let has : HasHistory new.width history =
      kept-width g.width new.width history same (subst (λ h. HasHistory g.width h) (sym left) (left-history g.width rows v.history was.2.kept)) in
      (stays.0, stays.1, keeping-others behind history (on_grid new v) has stays.2)

-- Where all is noted, any cells and any frame will do.
pub all-noted : (rows : ℕ) (behind : Noted) (new : State) → behind ≡ record { spans = replicate rows whole_span; is_framed = true }
    → rows ≡ new.display.height → IsSized new.display → HasHistory new.display.width new.history → length new.display.cells ≡ length new.shown.cells → IsNoted behind new
all-noted rows behind new noted high sized kept same = record {
  sized = sized;
  kept = kept;
  long = rw noted (length-replicate rows whole_span ∙ high);
  damage = rw (noted, high) (record {
    long = same;
    cells = λ row column below inside out. absurd (none-outside new.display.width column sized.columns_limit inside
        (subst (λ (s : Span). IsOutside s column) (get_or-replicate new.display.height row whole_span no_span below) out));
    frame = λ is. cc is;
  });
}
