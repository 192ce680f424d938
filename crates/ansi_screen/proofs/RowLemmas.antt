-- Edits of a row: cells that differ between two places at most, and what a character that has room leaves.
use Rattle.std.proofs.Common.{◌≡◌, ℕ, zero, suc, ◌+◌, ◌-◌, ◌*◌, ◌<◌, ◌≤◌, Bool, true, false, ◌&&◌, List, [], ◌∷◌, ◌++◌, length, take, drop, set, refl, ap, sym, ◌∙◌, subst, arith}
use Rattle.std.specs.Prelude.{min, nat_lt, ◌==◌, slice_index, if◌then◌else◌}
use Rattle.std.specs.List.{AllByRecursion}
use Rattle.std.proofs.lemmas.Bool.{and_parts, false≢true, le-ltb, leb-true}
use Rattle.std.proofs.lemmas.List.{append_assoc, length-set, length-take-le, length-append, take-append-le, take-append-drop, take-take, take_at, take-set-le, drop_at, drop-drop, drop-set-lt, get_or_append_left, set-append_left}
use Rattle.std.proofs.Math.Nat.{suc-mul}
use borrow.Author.Tests.{ltb-true, eqb-false}
use Rattle.anstyle_parse.specs.Stream.Bytes.{is_within}
use Rattle.ansi_style.specs.Style.{plain}
use Rattle.ansi_screen.specs.declared.cell.Cell.{Cell}
use Rattle.ansi_screen.specs.Cells.{blank, emptied, is_right, cell_at, cut, within, change, moved_on, inserted, with_mark, marked_before, going_on}
use Rattle.ansi_screen.specs.Display.{Display, here, row_start, row_end}
use Rattle.ansi_screen.specs.Edits.{space, with_cells, inserted_characters}
use Rattle.ansi_screen.specs.Widths.{is_shown, is_among, columns}
use Rattle.ansi_screen.specs.Print.{glyph, wrapped, with_room, with_cells_of, with_glyph, put, marked, shown, line_drawing, drawn, draws, printed}
use Rattle.ansi_screen.specs.Reachable.{IsScreen}
use Rattle.ansi_screen.proofs.PairLemmas.{length-cut, length-run, length-within, length-on, right-on, within-place, clear-cut, clear-cut_other}
use Rattle.ansi_screen.proofs.WholeLemmas.{length-glyph, right-same, length-marked, length-going_on}
use Rattle.ansi_screen.proofs.RangeLemmas.{no_column-below, two_columns-below}
use Rattle.ansi_screen.proofs.KeptLemmas.{kept-going_on, row_end-inside}
use Rattle.ansi_screen.proofs.KeptCalls.{columns-few, kept-inserted}

-- lists of cells that differ between two places at most
pub record Same (start end : ℕ) (xs ys : List Cell) : Type 0 where
  pub front : take start xs ≡ take start ys
  pub behind : drop end xs ≡ drop end ys
  pub long : length xs ≡ length ys

pub same-refl : (start end : ℕ) (xs : List Cell) → Same start end xs xs
same-refl start end xs = record { front = refl; behind = refl; long = refl }

pub same-sym : (start end : ℕ) (xs ys : List Cell) → Same start end xs ys → Same start end ys xs
same-sym start end xs ys a = record { front = sym a.front; behind = sym a.behind; long = sym a.long }

pub same-trans : (start end : ℕ) (xs ys zs : List Cell) → Same start end xs ys → Same start end ys zs
    → Same start end xs zs
same-trans start end xs ys zs a b = record { front = a.front ∙ b.front; behind = a.behind ∙ b.behind; long = a.long ∙ b.long }

-- cells of either of two displays
pub same-if : (t : Bool) (lo hi : ℕ) (cells : List Cell) (a b : Display) → (t ≡ true → Same lo hi a.cells cells) → (t ≡ false → Same lo hi b.cells cells)
    → Same lo hi (if t then a else b).cells cells
same-if true lo hi cells a b first second = first refl
same-if false lo hi cells a b first second = second refl

-- no right half stands there
abbrev pub IsFree : ℕ → List Cell → Type 0
IsFree place cells = is_right (cell_at place cells).part ≡ false

-- edits between two such places
pub same-set : (start end place : ℕ) (cells : List Cell) (x : Cell) → start ≤ place → place < end
    → Same start end (set cells place x) cells
same-set start end place cells x from to = record {
  front = take-set-le start cells place x from;
  behind = drop-set-lt end cells place x to;
  long = length-set cells place x;
}

cut-between : (start end place : ℕ) (cells : List Cell) (t : Bool)
    → (nat_lt 0 place && is_right (cell_at place cells).part) ≡ t
    → start ≤ place → place ≤ end → IsFree start cells → IsFree end cells → Same start end (cut place cells) cells
unfolding cut
cut-between start end place cells false is from to free free_end = rw is (same-refl start end cells)
cut-between start end place cells true is from to free free_end =
    let parts : (nat_lt 0 place ≡ true) × (is_right (cell_at place cells).part ≡ true) = and_parts _ _ is in
    let some : 0 < place = ltb-true 0 place parts.0 in
    let not_at : (k : ℕ) → IsFree k cells → place ≡ k → ⊥ =
    λ k free_at e. false≢true (sym free_at ∙ (ap (λ j. is_right (cell_at j cells).part) (sym e) ∙ parts.1)) in
    let not_start : place ≡ start → ⊥ = not_at start free in
    let not_end : place ≡ end → ⊥ = not_at end free_end in
    let left : Cell = emptied (cell_at (place - 1) cells) in
    let right : Cell = emptied (cell_at place cells) in
    rw is (same-trans start end (set (set cells (place - 1) left) place right) (set cells (place - 1) left) cells
    (same-set start end place (set cells (place - 1) left) right from (omega arith))
    (same-set start end (place - 1) cells left (omega arith) (omega arith)))

pub same-cut : (start end place : ℕ) (cells : List Cell) → start ≤ place → place ≤ end → IsFree start cells
    → IsFree end cells → Same start end (cut place cells) cells
same-cut start end place cells from to free free_end = cut-between start end place cells _ refl from to free free_end

pub same-within : (start end from to : ℕ) (how : List Cell → List Cell) (cells : List Cell) → start ≤ from → from ≤ to
    → to ≤ end → to ≤ length cells
    → length (how (take (to - from) (drop from cells))) ≡ to - from → Same start end (within from to how cells) cells
same-within start end from to how cells first order last inside long =
    let run : List Cell = how (take (to - from) (drop from cells)) in
    let rest : List Cell = drop (to - from) (drop from cells) in
    let front_long : length (take from cells) ≡ from = length-take-le from cells (omega arith) in
    let to_end : from + (end - from) ≡ end = omega arith in
    let past_run : to - from + (end - to) ≡ end - from = omega arith in
    record {
      front = take-append-le start (take from cells) (run ++ rest) (omega arith) ∙ take-take start from cells first;
      behind = ap (λ k. drop k (within from to how cells)) (sym to_end)
          ∙ (sym (drop-drop (end - from) from (within from to how cells))
          ∙ (ap (drop (end - from)) (drop_at (take from cells) (run ++ rest) from front_long)
          ∙ (ap (λ k. drop k (run ++ rest)) (sym past_run)
          ∙ (sym (drop-drop (end - to) (to - from) (run ++ rest))
          ∙ (ap (drop (end - to)) (drop_at run rest (to - from) long)
          ∙ (drop-drop (end - to) (to - from) (drop from cells)
          ∙ (ap (λ k. drop k (drop from cells)) past_run
          ∙ (drop-drop (end - from) from cells ∙ ap (λ k. drop k cells) to_end))))))));
      long = length-within from to how cells order inside long;
    }

pub same-cuts : (start end from to : ℕ) (cells : List Cell) → start ≤ from → from ≤ to → to ≤ end → IsFree start cells
    → IsFree end cells
    → Same start end (cut from (cut to cells)) cells
same-cuts start end from to cells first order last free free_end =
    same-trans start end (cut from (cut to cells)) (cut to cells) cells
    (same-cut start end from (cut to cells) first (omega arith) (clear-cut_other to start cells free) (clear-cut_other to end cells free_end))
    (same-cut start end to cells (omega arith) last free free_end)

pub same-change : (start end from to : ℕ) (how : List Cell → List Cell) (cells : List Cell) → start ≤ from → from ≤ to
    → to ≤ end → end ≤ length cells
    → IsFree start cells → IsFree end cells
    → length (how (take (to - from) (drop from (cut from (cut to cells))))) ≡ to - from
    → Same start end (change from to how cells) cells
same-change start end from to how cells first order last inside free free_end long =
    let both : List Cell = cut from (cut to cells) in
    same-trans start end (within from to how both) both cells
    (same-within start end from to how both first order last (omega (arith, length-cut from (cut to cells), length-cut to cells)) long)
    (same-cuts start end from to cells first order last free free_end)

pub same-inserted : (start end from n : ℕ) (gap : Cell) (cells : List Cell) → start ≤ from → from ≤ end
    → end ≤ length cells
    → IsFree start cells → IsFree end cells → Same start end (inserted n from end gap cells) cells
same-inserted start end from n gap cells first order inside free free_end =
    let place : ℕ = end - min n (end - from) in
    let once : List Cell = cut place cells in
    let both : List Cell = cut from (cut end once) in
    let inside_once : end ≤ length once = omega (arith, length-cut place cells) in
    let inside_both : end ≤ length both = omega (arith, length-cut from (cut end once), length-cut end once) in
    same-trans start end (change from end (moved_on n gap) once) once cells
    (same-change start end from end (moved_on n gap) once first order (omega arith) inside_once
    (clear-cut_other place start cells free) (clear-cut_other place end cells free_end)
    (length-on n gap (take (end - from) (drop from both)) ∙ length-run from end both inside_both))
    (same-cut start end place cells (omega arith) (omega arith) free free_end)

-- a mark goes to a cell before its place, and not past a place where no right half stands
pub marked-between : (start end mark place : ℕ) (cells : List Cell) (t : Bool)
    → is_right (cell_at (place - 1) cells).part ≡ t
    → start < place → place ≤ end → IsFree start cells → Same start end (marked_before mark place cells) cells
unfolding marked_before
marked-between start end mark place cells true is first last free =
    let not_start : place - 1 ≡ start → ⊥ = λ e. false≢true (sym free ∙ (ap (λ j. is_right (cell_at j cells).part) (sym e) ∙ is)) in
    rw is (same-set start end (place - 2) cells (with_mark mark (cell_at (place - 2) cells)) (omega arith) (omega arith))
marked-between start end mark place cells false is first last free =
    rw is (same-set start end (place - 1) cells (with_mark mark (cell_at (place - 1) cells)) (omega arith) (omega arith))

pub marked-behind : (end mark place : ℕ) (cells : List Cell) (t : Bool) → is_right (cell_at (place - 1) cells).part ≡ t
    → 0 < place → place ≤ end → drop end (marked_before mark place cells) ≡ drop end cells
unfolding marked_before
marked-behind end mark place cells true is some last =
    rw is (drop-set-lt end cells (place - 2) (with_mark mark (cell_at (place - 2) cells)) (omega arith))
marked-behind end mark place cells false is some last =
    rw is (drop-set-lt end cells (place - 1) (with_mark mark (cell_at (place - 1) cells)) (omega arith))

marked-append_at : (mark place : ℕ) (xs ys : List Cell) (t : Bool) → is_right (cell_at (place - 1) xs).part ≡ t
    → 0 < place → length xs ≡ place
    → marked_before mark place (xs ++ ys) ≡ marked_before mark place xs ++ ys
unfolding marked_before
marked-append_at mark place xs ys true is some long =
    let at : cell_at (place - 1) (xs ++ ys) ≡ cell_at (place - 1) xs = get_or_append_left xs ys (blank plain) (place - 1) (omega arith) in
    let before : cell_at (place - 2) (xs ++ ys) ≡ cell_at (place - 2) xs = get_or_append_left xs ys (blank plain) (place - 2) (omega arith) in
    rw (at, is, before) (set-append_left xs ys (place - 2) (with_mark mark (cell_at (place - 2) xs)) (omega arith))
marked-append_at mark place xs ys false is some long =
    let at : cell_at (place - 1) (xs ++ ys) ≡ cell_at (place - 1) xs = get_or_append_left xs ys (blank plain) (place - 1) (omega arith) in
    rw (at, is, at) (set-append_left xs ys (place - 1) (with_mark mark (cell_at (place - 1) xs)) (omega arith))

pub marked-front : (mark place : ℕ) (cells : List Cell) → 0 < place → place ≤ length cells
    → take place (marked_before mark place cells) ≡ marked_before mark place (take place cells)
marked-front mark place cells some inside =
    let long : length (take place cells) ≡ place = length-take-le place cells inside in
    ap (λ l. take place (marked_before mark place l)) (sym (take-append-drop place cells))
    ∙ (ap (take place) (marked-append_at mark place (take place cells) (drop place cells) _ refl some long)
    ∙ take_at (marked_before mark place (take place cells)) (drop place cells) place (length-marked mark place (take place cells) ∙ long))

pub marked-free : (mark place j : ℕ) (cells : List Cell) → IsFree j cells → IsFree j (marked_before mark place cells)
unfolding marked_before
marked-free mark place j cells free =
    let at : ℕ = if is_right (cell_at (place - 1) cells).part then place - 2 else place - 1 in
    right-same cells at j (with_mark mark (cell_at at cells)) refl free

-- the row does not go on
pub same-going_on : (on : Bool) (start end : ℕ) (cells : List Cell) → start < end → Same start end (going_on on end cells) cells
unfolding going_on
same-going_on on start end cells some =
    same-set start end (end - 1) cells (record (cell_at (end - 1) cells) { goes_on = on }) (omega arith) (omega arith)

pub going_on-free : (on : Bool) (end j : ℕ) (cells : List Cell) → IsFree j cells → IsFree j (going_on on end cells)
unfolding going_on
going_on-free on end j cells free = right-same cells (end - 1) j (record (cell_at (end - 1) cells) { goes_on = on }) refl free

-- what comes before a place determines what comes before it once the row does not go on that ends there
going_on-append : (on : Bool) (place : ℕ) (xs ys : List Cell) → 0 < place → length xs ≡ place
    → going_on on place (xs ++ ys) ≡ going_on on place xs ++ ys
unfolding going_on
going_on-append on place xs ys some long =
    let at : cell_at (place - 1) (xs ++ ys) ≡ cell_at (place - 1) xs = get_or_append_left xs ys (blank plain) (place - 1) (omega arith) in
    rw at (set-append_left xs ys (place - 1) (record (cell_at (place - 1) xs) { goes_on = on }) (omega arith))

going_on-front : (on : Bool) (place : ℕ) (cells : List Cell) → 0 < place → place ≤ length cells
    → take place (going_on on place cells) ≡ going_on on place (take place cells)
going_on-front on place cells some inside =
    let long : length (take place cells) ≡ place = length-take-le place cells inside in
    ap (λ l. take place (going_on on place l)) (sym (take-append-drop place cells))
    ∙ (ap (take place) (going_on-append on place (take place cells) (drop place cells) some long)
    ∙ take_at (going_on on place (take place cells)) (drop place cells) place (length-going_on on place (take place cells) ∙ long))

going_on-behind : (on : Bool) (place end : ℕ) (cells : List Cell) → 0 < place → place ≤ end → drop end (going_on on place cells) ≡ drop end cells
unfolding going_on
going_on-behind on place end cells some last = drop-set-lt end cells (place - 1) (record (cell_at (place - 1) cells) { goes_on = on }) (omega arith)

pub same-both : (on : Bool) (place end : ℕ) (xs ys : List Cell) → 0 < place → place ≤ end → place ≤ length xs → Same place end xs ys
    → Same place end (going_on on place xs) (going_on on place ys)
same-both on place end xs ys some last inside same = record {
  front = going_on-front on place xs some inside
      ∙ (ap (going_on on place) same.front ∙ sym (going_on-front on place ys some (omega (arith, same.long))));
  behind = going_on-behind on place end xs some last ∙ (same.behind ∙ sym (going_on-behind on place end ys some last));
  long = length-going_on on place xs ∙ (same.long ∙ sym (length-going_on on place ys));
}

-- wider
pub same-wider : (start end first last : ℕ) (xs ys : List Cell) → Same start end xs ys → first ≤ start → end ≤ last → Same first last xs ys
same-wider start end first last xs ys same from to =
    let split : end + (last - end) ≡ last = omega arith in
    record {
      front = sym (take-take first start xs from) ∙ (ap (take first) same.front ∙ take-take first start ys from);
      behind = ap (λ k. drop k xs) (sym split) ∙ (sym (drop-drop (last - end) end xs)
          ∙ (ap (drop (last - end)) same.behind ∙ (drop-drop (last - end) end ys ∙ ap (λ k. drop k ys) split)));
      long = same.long;
    }

-- a display with other cells and the cursor in another column
abbrev pub in_row : List Cell → ℕ → Display → Display
in_row cells column d = record d { cells = cells; cursor = record d.cursor { column = column } }

-- The line drawing set has characters of one column, as those that it stands for.
at-narrow : (characters : List ℕ) (i : ℕ) → AllByRecursion (λ c. columns c ≡ 1) characters → i < length characters
    → columns (slice_index characters i) ≡ 1
at-narrow [] i are inside = absurd (omega arith)
at-narrow (c ∷ characters) zero are inside = are.0
at-narrow (c ∷ characters) (suc i) are inside = at-narrow characters i are.1 (omega arith)

drawing-narrow : AllByRecursion (λ c. columns c ≡ 1) line_drawing
unfolding columns is_among
drawing-narrow = (
  refl,
  (
    refl,
    (
      refl,
      (
        refl,
        (
          refl,
          (
            refl,
            (
              refl,
              (
                refl,
                (
                  refl,
                  (
                    refl,
                    (
                      refl,
                      (
                        refl,
                        (
                          refl,
                          (
                            refl,
                            (
                              refl,
                              (
                                refl,
                                (refl, (refl, (refl, (refl, (refl, (refl, (refl, (refl, (refl, (refl, (refl, (refl, (refl, (refl, (refl, (refl, tt)))))))))))))))),
                              ),
                            ),
                          ),
                        ),
                      ),
                    ),
                  ),
                ),
              ),
            ),
          ),
        ),
      ),
    ),
  ),
)

ascii-narrow : (c : ℕ) → c < 0x300 → columns c ≡ 1
unfolding columns
ascii-narrow c small = rw (no_column-below c small, two_columns-below c (omega arith)) refl

drawn-by : (c : ℕ) (t : Bool) → is_within 0x5F 0x7E c ≡ t → columns (drawn c) ≡ columns c
unfolding drawn is_within
drawn-by c true is =
    let parts = and_parts _ _ is in
    let from : 0x5F ≤ c = leb-true 0x5F c parts.0 in
    let to : c ≤ 0x7E = leb-true c 0x7E parts.1 in
    rw is (at-narrow line_drawing (c - 0x5F) drawing-narrow (omega arith) ∙ sym (ascii-narrow c (omega arith)))
drawn-by c false is = rw is refl

pub drawn-if : (c : ℕ) (t : Bool) → columns (if t then drawn c else c) ≡ columns c
drawn-if c true = drawn-by c _ refl
drawn-if c false = refl

-- What a character that has room does to the cells of a display.
abbrev with_mark_by : Bool → ℕ → Display → List Cell → List Cell
with_mark_by first c d cells = if first then cells else marked_before c (here d) cells

abbrev pub room_by : Bool → ℕ → Display → List Cell → List Cell
room_by inserts n d cells =
    if inserts then inserted n (here d) (row_end d) (space d) (going_on false (row_end d) cells) else cells

abbrev pub over_by : Bool → ℕ → ℕ → Display → List Cell → List Cell
over_by inserts n c d cells = change (here d) (here d + n) (λ run. glyph n c d.cursor.style d.link) (room_by inserts n d cells)

abbrev pub put_by : Bool → ℕ → ℕ → Display → List Cell → List Cell
put_by inserts n c d cells = going_on (cell_at (row_end d - 1) (room_by inserts n d cells)).goes_on (row_end d) (over_by inserts n c d cells)

pub marked-by : (c : ℕ) (d : Display) (cells : List Cell) (t : Bool) → (d.cursor.column == 0) ≡ t
    → marked c (with_cells cells d) ≡ with_cells (with_mark_by t c d cells) d
unfolding marked
marked-by c d cells true is = rw is refl
marked-by c d cells false is = rw is refl

pub put-by : (n c : ℕ) (d : Display) (cells : List Cell) (t : Bool) → d.inserts ≡ t → d.cursor.column + n ≤ d.width
    → put n c (wrapped n (with_cells cells d)).display ≡ in_row (put_by t n c d cells) (d.cursor.column + n) d
unfolding put wrapped with_room with_glyph with_cells_of inserted_characters
put-by n c d cells true is fits =
    let room : nat_lt d.width (d.cursor.column + n) ≡ false = le-ltb d.width (d.cursor.column + n) fits in
    rw (room, room, is) refl
put-by n c d cells false is fits =
    let room : nat_lt d.width (d.cursor.column + n) ≡ false = le-ltb d.width (d.cursor.column + n) fits in
    rw (room, room, is) refl

-- where blanks are inserted no right half stands
inserted-free : (from end n : ℕ) (gap : Cell) (cells : List Cell) → 1 ≤ n → from < end → end ≤ length cells
    → is_right gap.part ≡ false
    → IsFree from cells → IsFree from (inserted n from end gap cells)
inserted-free from end n gap cells some order inside whole free =
    let place : ℕ = end - min n (end - from) in
    let once : List Cell = cut place cells in
    let both : List Cell = cut from (cut end once) in
    let inside_both : end ≤ length both = omega (arith, length-cut from (cut end once), length-cut end once, length-cut place cells) in
    let run : List Cell = take (end - from) (drop from both) in
    let long : length run ≡ end - from = length-run from end both inside_both in
    within-place from end from (moved_on n gap) both (omega arith) inside_both (length-on n gap run ∙ long)
    (clear-cut_other from from (cut end once) (clear-cut_other end from once (clear-cut_other place from cells free)))
    (λ reached less. right-on n (from - from) gap run _ refl whole (λ past in_run. absurd (omega arith)) (omega arith))

-- no pair goes over the end of a row
pub row_end-free : (d : Display) → IsScreen d → IsFree (row_end d) d.cells
row_end-free d s =
    let next : (d.cursor.row + 1) * d.width ≡ row_end d = omega (arith, suc-mul d.cursor.row d.width) in
    subst (λ k. IsFree k d.cells) next (s.whole.rows_begin (d.cursor.row + 1))

-- a character of one column or two that is put where it has room
module _ (n c : ℕ) (d : Display) (cells : List Cell) (screen : IsScreen (with_cells cells d))
    (some : 1 ≤ n) (few : n ≤ 2) (fits : d.cursor.column + n ≤ d.width) where
  room-screen : (t : Bool) → IsScreen (with_cells (room_by t n d cells) d)
  unfolding inserted_characters
  room-screen true = kept-inserted n (with_cells cells d) screen (omega arith)
  room-screen false = screen

  room-same : (start : ℕ) (t : Bool) → start ≤ here d → IsFree start cells
      → Same start (row_end d) (room_by t n d cells) cells
  room-same start true from free =
      let before : List Cell = going_on false (row_end d) cells in
      let s : IsScreen (with_cells before d) = kept-going_on false (with_cells cells d) screen in
      same-trans start (row_end d) (inserted n (here d) (row_end d) (space d) before) before cells
      (same-inserted start (row_end d) (here d) n (space d) before from (omega arith) (row_end-inside (with_cells before d) s)
      (going_on-free false (row_end d) start cells free) (row_end-free (with_cells before d) s))
      (same-going_on false start (row_end d) cells (omega arith))
  room-same start false from free = same-refl start (row_end d) cells

  pub room-free : (t : Bool) → IsFree (here d) cells → IsFree (here d) (room_by t n d cells)
  room-free true free =
      let before : List Cell = going_on false (row_end d) cells in
      let s : IsScreen (with_cells before d) = kept-going_on false (with_cells cells d) screen in
      inserted-free (here d) (row_end d) n (space d) before some (omega arith) (row_end-inside (with_cells before d) s) refl
      (going_on-free false (row_end d) (here d) cells free)
  room-free false free = free

  glyph-long : length (glyph n c d.cursor.style d.link) ≡ here d + n - here d
  glyph-long = length-glyph n c d.cursor.style d.link _ refl some few ∙ omega arith

  pub over-same : (start : ℕ) (t : Bool) → start ≤ here d → IsFree start cells → IsFree start (room_by t n d cells)
      → Same start (row_end d) (over_by t n c d cells) cells
  over-same start t from free free_then =
      let there : List Cell = room_by t n d cells in
      let s : IsScreen (with_cells there d) = room-screen t in
      same-trans start (row_end d) (over_by t n c d cells) there cells
      (same-change start (row_end d) (here d) (here d + n) (λ run. glyph n c d.cursor.style d.link) there from (omega arith) (omega arith)
      (row_end-inside (with_cells there d) s) free_then (row_end-free (with_cells there d) s) glyph-long)
      (room-same start t from free)

  pub over-front : (t : Bool) → IsFree (here d) cells
      → take (here d + n) (over_by t n c d cells) ≡ take (here d) cells ++ glyph n c d.cursor.style d.link
  over-front t free =
      let there : List Cell = room_by t n d cells in
      let s : IsScreen (with_cells there d) = room-screen t in
      let both : List Cell = cut (here d) (cut (here d + n) there) in
      let same : Same (here d) (row_end d) both there =
      same-cuts (here d) (row_end d) (here d) (here d + n) there (omega arith) (omega arith) (omega arith) (room-free t free)
      (row_end-free (with_cells there d) s) in
      let inside : row_end d ≤ length there = row_end-inside (with_cells there d) s in
      let run : List Cell = glyph n c d.cursor.style d.link in
      let rest : List Cell = drop (here d + n - here d) (drop (here d) both) in
      let front_long : length (take (here d) both) ≡ here d = length-take-le (here d) both (omega (arith, same.long)) in
      let long : length (take (here d) both ++ run) ≡ here d + n = omega (arith, length-append (take (here d) both) run, glyph-long) in
      ap (take (here d + n)) (sym (append_assoc (take (here d) both) run rest))
      ∙ (take_at (take (here d) both ++ run) rest (here d + n) long
      ∙ ap (λ l. l ++ run) (same.front ∙ (room-same (here d) t (omega arith) free).front))

  pub over-free : (t : Bool) → IsFree (here d + n) (over_by t n c d cells)
  over-free t =
      let there : List Cell = room_by t n d cells in
      let s : IsScreen (with_cells there d) = room-screen t in
      let inside : row_end d ≤ length there = row_end-inside (with_cells there d) s in
      let both : List Cell = cut (here d) (cut (here d + n) there) in
      within-place (here d) (here d + n) (here d + n) (λ run. glyph n c d.cursor.style d.link) both (omega arith)
      (omega (arith, length-cut (here d) (cut (here d + n) there), length-cut (here d + n) there)) glyph-long
      (clear-cut_other (here d) (here d + n) (cut (here d + n) there) (clear-cut (here d + n) there s.whole.paired))
      (λ reached less. absurd (omega arith))

  put-same : (start : ℕ) (t : Bool) → start ≤ here d → IsFree start cells → IsFree start (room_by t n d cells)
      → Same start (row_end d) (put_by t n c d cells) cells
  put-same start t from free free_then =
      same-trans start (row_end d) (put_by t n c d cells) (over_by t n c d cells) cells
      (same-going_on (cell_at (row_end d - 1) (room_by t n d cells)).goes_on start (row_end d) (over_by t n c d cells) (omega (arith, from, some, fits)))
      (over-same start t from free free_then)

  pub over-inside : (t : Bool) → IsFree (here d) cells → row_end d ≤ length (over_by t n c d cells)
  over-inside t free = omega (arith, (over-same (here d) t (omega arith) free (room-free t free)).long, row_end-inside (with_cells cells d) screen)

-- What a character that has room leaves of a display: other cells in the cursor's row, and another column.
pub record Wrote (room : ℕ) (d e : Display) : Type 0 where
  pub cells : List Cell
  pub column : ℕ
  pub is : e ≡ in_row cells column d
  pub same : Same (row_start d) (row_end d) cells d.cells
  pub fits : column ≤ d.cursor.column + room

marked-wrote : (room c : ℕ) (d : Display) (t : Bool) → (d.cursor.column == 0) ≡ t → IsScreen d
    → Wrote room d (marked c d)
marked-wrote room c d true is s = record {
  cells = d.cells;
  column = d.cursor.column;
  is = marked-by c d d.cells true is;
  same = same-refl (row_start d) (row_end d) d.cells;
  fits = omega arith;
}
marked-wrote room c d false is s =
    let some : d.cursor.column ≡ 0 → ⊥ = eqb-false d.cursor.column 0 is in
    let inside : d.cursor.column ≤ d.width = s.sized.cursor_column in
    record {
      cells = marked_before c (here d) d.cells;
      column = d.cursor.column;
      is = marked-by c d d.cells false is;
      same = marked-between (row_start d) (row_end d) c (here d) d.cells _ refl (omega arith) (omega arith) (s.whole.rows_begin d.cursor.row);
      fits = omega arith;
    }

put-wrote : (n c : ℕ) (d : Display) → IsScreen d → 1 ≤ n → n ≤ 2 → d.cursor.column + n ≤ d.width
    → Wrote n d (put n c (wrapped n d).display)
put-wrote n c d s some few fits = record {
  cells = put_by d.inserts n c d d.cells;
  column = d.cursor.column + n;
  is = put-by n c d d.cells d.inserts refl fits;
  same = put-same n c d d.cells s some few fits (row_start d) d.inserts (omega arith) (s.whole.rows_begin d.cursor.row)
      ((room-screen n c d d.cells s some few fits d.inserts).whole.rows_begin d.cursor.row);
  fits = omega arith;
}

shown-wrote : (c : ℕ) (d : Display) (t : Bool) → (columns c == 0) ≡ t → IsScreen d
    → d.cursor.column + columns c ≤ d.width → Wrote (columns c) d (shown c d).display
unfolding shown
shown-wrote c d true is s fits = rw is (marked-wrote (columns c) c d _ refl s)
shown-wrote c d false is s fits =
    let some : columns c ≡ 0 → ⊥ = eqb-false (columns c) 0 is in
    rw is (put-wrote (columns c) c d s (omega arith) (columns-few c _ _ refl refl) fits)

pub printed-wrote : (c : ℕ) (d : Display) (t : Bool) → is_shown c ≡ t → IsScreen d
    → d.cursor.column + columns c ≤ d.width → Wrote (columns c) d (printed c d).display
unfolding printed
printed-wrote c d true is s fits =
    let character : ℕ = if draws d.cursor.charsets then drawn c else c in
    let same : columns character ≡ columns c = drawn-if c (draws d.cursor.charsets) in
    rw is (subst (λ k. Wrote k d (shown character d).display) same (shown-wrote character d _ refl s (omega arith)))
printed-wrote c d false is s fits =
    rw is (record { cells = d.cells; column = d.cursor.column; is = refl; same = same-refl (row_start d) (row_end d) d.cells; fits = omega arith })
