-- What is the same is not drawn.
use Rattle.std.proofs.Common.{◌≡◌, ℕ, zero, suc, ◌+◌, ◌-◌, ◌<◌, Bool, true, false, List, [], ◌∷◌, ◌++◌, length, take, drop, refl, ap, ap₂, ◌∙◌, arith, append-nil}
use Rattle.std.specs.Prelude.{◌&&◌, ◌||◌, not, ◌==◌, nat_lt, if◌then◌else◌}
use Rattle.std.specs.Bool.{beq}
use Rattle.std.proofs.lemmas.Bool.{and_parts, eq-eqb, ne_eqb}
use Rattle.std.proofs.lemmas.List.{length-drop, drop-drop}
use borrow.Author.Tests.{ltb-false}
use Rattle.ansi_style.proofs.EqualityLemmas.{are_equal-refl}
use Rattle.ansi_style.specs.declared.style.Style.{Style}
use Rattle.ansi_screen.specs.declared.cell.Cell.{Cell}
use Rattle.ansi_screen.specs.declared.cell.Marks.{Marks}
use Rattle.ansi_screen.specs.declared.cell.Marks.TheVariants.{Unmarked, One, Two}
use Rattle.ansi_screen.specs.declared.cell.Part.{Part}
use Rattle.ansi_screen.specs.declared.cell.Part.TheVariants.{Empty, Whole, Left, Right}
use Rattle.ansi_screen.specs.declared.place.Place.{Place}
use Rattle.ansi_screen.specs.Cells.{is_right}
use Rattle.ansi_screen.specs.Display.{Display, row_cells}
use Rattle.screen_draw.specs.declared.changes.Brush.{Brush}
use Rattle.screen_draw.specs.Draw.{is_erased, style_calls, margins_calls}
use Rattle.screen_draw.specs.Alike.{are_same_marks, are_same_parts, are_alike, all_two, are_same_places, has_same_frame, has_same_margins, looks_same, lacks_print, is_steady}
use Rattle.screen_draw.specs.Update.{move_calls, erased_run, half_columns, is_done, change_calls, brush_behind, row_calls, brush_after, begun_at, place_behind, rows_calls, wants_wrap, cursor_changes, mode_changes, changes_from, changes_calls, cleared_calls, update_calls}
use Rattle.screen_draw.specs.Draw.{shown_screen_calls}
use Rattle.screen_draw.proofs.AlikeLemmas.{flag-refl}
use Rattle.screen_draw.proofs.FrameLemmas.{Steady, steady-is}

number-refl : (n : ℕ) → (n == n) ≡ true
number-refl n = eq-eqb n n refl

marks-refl : (a : Marks) → are_same_marks a a ≡ true
marks-refl Unmarked = refl
marks-refl (One a) = number-refl a
marks-refl (Two a b) = let first : (a == a) ≡ true = number-refl a in rw first (number-refl b)

parts-refl : (a : Part) → are_same_parts a a ≡ true
parts-refl Empty = refl
parts-refl Whole = refl
parts-refl Left = refl
parts-refl Right = refl

alike-refl : (a : Cell) → are_alike a a ≡ true
unfolding are_alike
alike-refl a =
    let c : (a.character == a.character) ≡ true = number-refl a.character in
    let p : are_same_parts a.part a.part ≡ true = parts-refl a.part in
    let m : are_same_marks a.marks a.marks ≡ true = marks-refl a.marks in
    rw (c, p, m) (are_equal-refl a.style)

all-refl : {A : Type 0} (test : A → A → Bool) → ((x : A) → test x x ≡ true) → (xs : List A) → all_two test xs xs ≡ true
all-refl test same [] = refl
all-refl test same (x ∷ xs) = let first : test x x ≡ true = same x in rw first (all-refl test same xs)

places-refl : (a : Place) → are_same_places a a ≡ true
unfolding are_same_places
places-refl a =
    let r : (a.row == a.row) ≡ true = number-refl a.row in
    let k : (a.column == a.column) ≡ true = number-refl a.column in
    let t = are_equal-refl a.style in
    let o : beq a.is_relative a.is_relative ≡ true = flag-refl a.is_relative in
    let g0 : beq a.charsets.g0_draws a.charsets.g0_draws ≡ true = flag-refl a.charsets.g0_draws in
    let g1 : beq a.charsets.g1_draws a.charsets.g1_draws ≡ true = flag-refl a.charsets.g1_draws in
    rw (r, k, t, o, g0, g1) (flag-refl a.charsets.uses_g1)

or-true : (t : Bool) → (t || true) ≡ true
or-true true = refl
or-true false = refl

pub frame-refl : (a : Display) → has_same_frame a a ≡ true
unfolding has_same_frame
frame-refl a =
    let alternate : beq a.is_alternate a.is_alternate ≡ true = flag-refl a.is_alternate in
    let hidden : all_two are_alike a.hidden a.hidden ≡ true = all-refl are_alike alike-refl a.hidden in
    let either : (not a.is_alternate || true) ≡ true = or-true (not a.is_alternate) in
    let saved : are_same_places a.saved a.saved ≡ true = places-refl a.saved in
    let hidden_saved : are_same_places a.hidden_saved a.hidden_saved ≡ true = places-refl a.hidden_saved in
    rw (alternate, hidden, either, saved, hidden_saved) (all-refl beq flag-refl a.tabs)

margins-refl : (a : Display) → has_same_margins a a ≡ true
margins-refl a = let top : (a.top == a.top) ≡ true = number-refl a.top in rw top (number-refl a.bottom)

looks-refl : (a : Display) → looks_same a a ≡ true
unfolding looks_same
looks-refl a =
    let frame : has_same_frame a a ≡ true = frame-refl a in
    let margins : has_same_margins a a ≡ true = margins-refl a in
    let wraps : beq a.wraps a.wraps ≡ true = flag-refl a.wraps in
    let inserts : beq a.inserts a.inserts ≡ true = flag-refl a.inserts in
    let visible : beq a.is_visible a.is_visible ≡ true = flag-refl a.is_visible in
    let cursor : are_same_places a.cursor a.cursor ≡ true = places-refl a.cursor in
    rw (frame, margins, wraps, inserts, visible, cursor) (all-refl are_alike alike-refl a.cells)

not-false : (t : Bool) → not t ≡ false → t ≡ true
not-false true is = refl
not-false false is = cc is

not-true : (t : Bool) → not t ≡ true → t ≡ false
not-true false is = refl
not-true true is = cc is

-- a cell
done-alike : (brush : Brush) (old new : Cell) → are_alike old new ≡ true → is_done brush old new ≡ true
unfolding is_done
done-alike brush old new alike =
    let right : (is_right new.part || true) ≡ true = or-true (is_right new.part) in
    rw (alike, right) (or-true (nat_lt 0 brush.erased))

pub alike-nothing : (row column : ℕ) (brush : Brush) (old new : Cell) (olds behind : List Cell) → are_alike old new ≡ true → change_calls row column brush old new olds behind ≡ []
unfolding change_calls
alike-nothing row column brush old new olds behind alike = let done : is_done brush old new ≡ true = done-alike brush old new alike in rw done refl

-- rows
stays : (row column : ℕ) (place : Place) (old new : Cell) (news : List Cell) → are_alike old new ≡ true → brush_behind row column (begun_at place) old new news ≡ begun_at place
unfolding brush_behind
stays row column place old new news alike = let done : is_done (begun_at place) old new ≡ true = done-alike (begun_at place) old new alike in rw done refl

-- a cell that is erased already
pub erased-nothing : (row column : ℕ) (brush : Brush) (old new : Cell) (olds cells : List Cell) → nat_lt 0 brush.erased ≡ true
    → (change_calls row column brush old new olds cells ≡ [])
    × (record brush { erased = brush.erased - 1 } ≡ brush_behind row column brush old new cells)
unfolding is_done change_calls brush_behind
erased-nothing row column brush old new olds cells some = (rw some refl, rw some refl)

-- one that is like the old one, or a right half
pub alike-stays : (row column : ℕ) (brush : Brush) (old new : Cell) (olds cells : List Cell) → nat_lt 0 brush.erased ≡ false
    → not (is_right new.part || are_alike old new) ≡ false
    → (change_calls row column brush old new olds cells ≡ []) × (brush ≡ brush_behind row column brush old new cells)
unfolding is_done change_calls brush_behind
alike-stays row column brush old new olds cells none same =
    let left : brush.erased ≡ brush.erased - 1 = let few = ltb-false 0 brush.erased none in omega arith in
    let is : (is_right new.part || are_alike old new) ≡ true = not-false (is_right new.part || are_alike old new) same in
    (rw (none, is) refl, rw (none, is) (ap (λ n. record brush { erased = n }) left))

-- one that is to be drawn
pub differs-undone : (brush : Brush) (old new : Cell) → nat_lt 0 brush.erased ≡ false → not (is_right new.part || are_alike old new) ≡ true
    → is_done brush old new ≡ false
unfolding is_done
differs-undone brush old new none differs = rw none (not-true (is_right new.part || are_alike old new) differs)

-- the brush behind it
abbrev drawn_brush : (row column : ℕ) → Style → (erased : ℕ) → Brush → Brush
drawn_brush row column style erased brush = record brush {
  place = record brush.place { row = row; column = column; style = style };
  erased = erased;
}

painted-by : (row column : ℕ) (brush : Brush) (new : Cell) (cells : List Cell) (moved erased : ℕ) (t : Bool)
    → moved ≡ (if t then 0 else half_columns new.part) → erased ≡ (if t then erased_run new.style cells else 0)
    → drawn_brush row (column + moved) new.style erased brush
    ≡ (if t then drawn_brush row column new.style (erased_run new.style cells) brush
    else drawn_brush row (column + half_columns new.part) new.style 0 brush)
painted-by row column brush new cells moved erased true goes run =
    let at : column + moved ≡ column = omega (arith, goes) in
    ap₂ (λ (k n : ℕ). drawn_brush row k new.style n brush) at run
painted-by row column brush new cells moved erased false goes run =
    ap₂ (λ (k n : ℕ). drawn_brush row (column + k) new.style n brush) goes run

pub painted-brush : (row column : ℕ) (brush : Brush) (old new : Cell) (cells : List Cell) (moved erased : ℕ) → is_done brush old new ≡ false
    → moved ≡ (if is_erased new then 0 else half_columns new.part) → erased ≡ (if is_erased new then erased_run new.style cells else 0)
    → record brush { place = record brush.place { row = row; column = column + moved; style = new.style }; erased = erased }
    ≡ brush_behind row column brush old new cells
unfolding brush_behind
painted-brush row column brush old new cells moved erased differs goes run =
    rw differs (painted-by row column brush new cells moved erased (is_erased new) goes run)

pub row-alike : (row column : ℕ) (place : Place) (olds news : List Cell) → all_two are_alike olds news ≡ true
    → (row_calls row column (begun_at place) olds news ≡ []) × (brush_after row column (begun_at place) olds news ≡ begun_at place)
row-alike row column place [] news all = (refl, refl)
row-alike row column place (x ∷ xs) [] all = (refl, refl)
row-alike row column place (x ∷ xs) (y ∷ ys) all =
    let parts = and_parts (are_alike x y) (all_two are_alike xs ys) all in
    let none : change_calls row column (begun_at place) x y xs ys ≡ [] = alike-nothing row column (begun_at place) x y xs ys parts.0 in
    let same : brush_behind row column (begun_at place) x y ys ≡ begun_at place = stays row column place x y ys parts.0 in
    let (calls, brush) = row-alike row (suc column) place xs ys parts.1 in (
      ap (λ l. l ++ row_calls row (suc column) (brush_behind row column (begun_at place) x y ys) xs ys) none
          ∙ (ap (λ b. row_calls row (suc column) b xs ys) same ∙ calls),
      ap (λ b. brush_after row (suc column) b xs ys) same ∙ brush,
    )

-- the cells in front that are alike
front-alike : (n row column : ℕ) (place : Place) (olds news : List Cell) → length olds ≡ length news
    → all_two are_alike (take n olds) (take n news) ≡ true
    → (row_calls row column (begun_at place) olds news ≡ row_calls row (column + n) (begun_at place) (drop n olds) (drop n news))
    × (brush_after row column (begun_at place) olds news ≡ brush_after row (column + n) (begun_at place) (drop n olds) (drop n news))
front-alike zero row column place olds news long are =
    let none : column ≡ column + zero = omega arith in (
      ap (λ k. row_calls row k (begun_at place) olds news) none,
      ap (λ k. brush_after row k (begun_at place) olds news) none,
    )
front-alike (suc n) row column place [] [] long are = (refl, refl)
front-alike (suc n) row column place [] (y ∷ ys) long are = absurd (omega (arith, long))
front-alike (suc n) row column place (x ∷ xs) [] long are = absurd (omega (arith, long))
front-alike (suc n) row column place (x ∷ xs) (y ∷ ys) long are =
    let parts = and_parts (are_alike x y) (all_two are_alike (take n xs) (take n ys)) are in
    let none : change_calls row column (begun_at place) x y xs ys ≡ [] = alike-nothing row column (begun_at place) x y xs ys parts.0 in
    let same : brush_behind row column (begun_at place) x y ys ≡ begun_at place = stays row column place x y ys parts.0 in
    let less : length xs ≡ length ys = omega (arith, long) in
    let on : suc column + n ≡ column + suc n = omega arith in
    let (calls, brush) = front-alike n row (suc column) place xs ys less parts.1 in (
      ap (λ l. l ++ row_calls row (suc column) (brush_behind row column (begun_at place) x y ys) xs ys) none
          ∙ (ap (λ b. row_calls row (suc column) b xs ys) same
          ∙ (calls ∙ ap (λ k. row_calls row k (begun_at place) (drop n xs) (drop n ys)) on)),
      ap (λ b. brush_after row (suc column) b xs ys) same
          ∙ (brush ∙ ap (λ k. brush_after row k (begun_at place) (drop n xs) (drop n ys)) on),
    )

pub row-front : (n row : ℕ) (place : Place) (olds news : List Cell) → length olds ≡ length news
    → all_two are_alike (take n olds) (take n news) ≡ true
    → (row_calls row 0 (begun_at place) olds news ≡ row_calls row n (begun_at place) (drop n olds) (drop n news))
    × (brush_after row 0 (begun_at place) olds news ≡ brush_after row n (begun_at place) (drop n olds) (drop n news))
row-front n row place olds news long are =
    let none : 0 + n ≡ n = omega arith in
    let (calls, brush) = front-alike n row 0 place olds news long are in (
      calls ∙ ap (λ k. row_calls row k (begun_at place) (drop n olds) (drop n news)) none,
      brush ∙ ap (λ k. brush_after row k (begun_at place) (drop n olds) (drop n news)) none,
    )

-- cells that are kept, and then some that are alike
pub row-begins : (left n row : ℕ) (place : Place) (olds news : List Cell) → length olds ≡ length news → take left news ≡ take left olds
    → all_two are_alike (take n (drop left olds)) (take n (drop left news)) ≡ true
    → (row_calls row 0 (begun_at place) olds news ≡ row_calls row (left + n) (begun_at place) (drop (left + n) olds) (drop (left + n) news))
    × (brush_after row 0 (begun_at place) olds news ≡ brush_after row (left + n) (begun_at place) (drop (left + n) olds) (drop (left + n) news))
row-begins left n row place olds news long kept are =
    let same : all_two are_alike (take left olds) (take left news) ≡ true =
    ap (all_two are_alike (take left olds)) kept ∙ all-refl are_alike alike-refl (take left olds) in
    let first = row-front left row place olds news long same in
    let fewer : length (drop left olds) ≡ length (drop left news) = omega (arith, length-drop left olds, length-drop left news, long) in
    let (calls, brush) = front-alike n row left place (drop left olds) (drop left news) fewer are in
    let behind_olds : drop n (drop left olds) ≡ drop (left + n) olds = drop-drop n left olds in
    let behind_news : drop n (drop left news) ≡ drop (left + n) news = drop-drop n left news in (
      first.0 ∙ (calls ∙ (ap (λ l. row_calls row (left + n) (begun_at place) l (drop n (drop left news))) behind_olds
          ∙ ap (λ l. row_calls row (left + n) (begun_at place) (drop (left + n) olds) l) behind_news)),
      first.1 ∙ (brush ∙ (ap (λ l. brush_after row (left + n) (begun_at place) l (drop n (drop left news))) behind_olds
          ∙ ap (λ l. brush_after row (left + n) (begun_at place) (drop (left + n) olds) l) behind_news)),
    )

-- cells that are the same, whatever was drawn before them
done-place : (row column : ℕ) (brush : Brush) (x : Cell) (xs : List Cell) → (brush_behind row column brush x x xs).place ≡ brush.place
unfolding brush_behind
done-place row column brush x xs = let done : is_done brush x x ≡ true = done-alike brush x x (alike-refl x) in rw done refl

pub row-behind : (row column : ℕ) (brush : Brush) (xs : List Cell)
    → (row_calls row column brush xs xs ≡ []) × ((brush_after row column brush xs xs).place ≡ brush.place)
row-behind row column brush [] = (refl, refl)
row-behind row column brush (x ∷ xs) =
    let none : change_calls row column brush x x xs xs ≡ [] = alike-nothing row column brush x x xs xs (alike-refl x) in
    let rest = row-behind row (suc column) (brush_behind row column brush x x xs) xs in (
      ap (λ l. l ++ row_calls row (suc column) (brush_behind row column brush x x xs) xs xs) none ∙ rest.0,
      rest.1 ∙ done-place row column brush x xs,
    )

pub row-nothing : (row column : ℕ) (place : Place) (xs : List Cell) → (row_calls row column (begun_at place) xs xs ≡ []) × (brush_after row column (begun_at place) xs xs ≡ begun_at place)
row-nothing row column place xs = row-alike row column place xs xs (all-refl are_alike alike-refl xs)

-- of the same cells, wherever the cursor stood
module _ (d : Display) (place : Place) where
  abbrev before : Display
  before = record d { cursor = place }

  rows-nothing : (n : ℕ) → (rows_calls n place before d ≡ []) × (place_behind n place before d ≡ place)
  rows-nothing zero = (refl, refl)
  rows-nothing (suc n) =
      let (calls, stands) = rows-nothing n in
      let cells : List Cell = row_cells n d in
      let (none, same) = row-nothing n 0 place cells in (
        ap (λ l. l ++ row_calls n 0 (begun_at (place_behind n place before d)) cells cells) calls
            ∙ (ap (λ p. row_calls n 0 (begun_at p) cells cells) stands ∙ none),
        ap (λ p. (brush_after n 0 (begun_at p) cells cells).place) stands ∙ ap (λ (b : Brush). b.place) same,
      )

  modes-nothing : (mode : ℕ) (t : Bool) → mode_changes mode t t ≡ []
  modes-nothing mode t = let same : beq t t ≡ true = flag-refl t in rw same refl

  changes-cursor : changes_calls before d ≡ cursor_changes place d
  changes-cursor =
      let (none, stands) = rows-nothing d.height in
      let wraps : mode_changes 7 d.wraps d.wraps ≡ [] = modes-nothing 7 d.wraps in
      let visible : mode_changes 25 d.is_visible d.is_visible ≡ [] = modes-nothing 25 d.is_visible in
      let margins : has_same_margins before d ≡ true = margins-refl d in
      ap (λ t. (if t then [] else margins_calls d) ++ changes_from (if t then place else record place { row = 0; column = 0 }) before d) margins
      ∙ (ap (λ l. l ++ (cursor_changes (place_behind d.height place before d) d ++ (mode_changes 7 d.wraps d.wraps ++ mode_changes 25 d.is_visible d.is_visible))) none
      ∙ (ap (λ p. cursor_changes p d ++ (mode_changes 7 d.wraps d.wraps ++ mode_changes 25 d.is_visible d.is_visible)) stands
      ∙ (ap (λ l. cursor_changes place d ++ (l ++ mode_changes 25 d.is_visible d.is_visible)) wraps
      ∙ (ap (λ l. cursor_changes place d ++ l) visible ∙ append-nil (cursor_changes place d)))))

-- a move alone
no-style : (p : Place) → style_calls p.style p.style ≡ []
no-style p = let same = are_equal-refl p.style in rw same refl

not-wanted : (place : Place) (d : Display) → (d.cursor.column == d.width) ≡ false → wants_wrap place d ≡ false
unfolding wants_wrap
not-wanted place d other = rw other refl

pub cursor-alone : (shown : Display) (row column : ℕ) → is_steady (record shown { cursor = record shown.cursor { row = row; column = column } }) shown ≡ true
    → shown.cursor.column < shown.width
    → update_calls (record shown { cursor = record shown.cursor { row = row; column = column } }) shown
    ≡ move_calls (record shown.cursor { row = row; column = column }) shown.cursor.row shown.cursor.column
cursor-alone shown row column steady inside =
    let place : Place = record shown.cursor { row = row; column = column } in
    let other : (shown.cursor.column == shown.width) ≡ false = ne_eqb shown.cursor.column shown.width (λ e. omega arith) in
    let wants : wants_wrap place shown ≡ false = not-wanted place shown other in
    let styled : style_calls place.style shown.cursor.style ≡ [] = no-style shown.cursor in
    let before : Display = record shown { cursor = place } in
    ap (λ (t : Bool). if t then changes_calls before shown else if looks_same before shown then [] else cleared_calls before ++ shown_screen_calls shown) steady
    ∙ (changes-cursor shown place
    ∙ (rw wants (ap (λ l. move_calls place shown.cursor.row shown.cursor.column ++ l) styled ∙ append-nil (move_calls place shown.cursor.row shown.cursor.column))))

-- nothing
none-of : (t : Bool) → (t && false) ≡ false
none-of true = refl
none-of false = refl

still : (d : Display) → lacks_print d ≡ false → wants_wrap d.cursor d ≡ false
unfolding wants_wrap
still d prints =
    let row : (d.cursor.row == d.cursor.row) ≡ true = number-refl d.cursor.row in
    let column : (d.cursor.column == d.cursor.column) ≡ true = number-refl d.cursor.column in
    rw (row, column, prints) (none-of (d.cursor.column == d.width))

no-move : (p : Place) → move_calls p p.row p.column ≡ []
unfolding move_calls
no-move p =
    let row : (p.row == p.row) ≡ true = number-refl p.row in
    let column : (p.column == p.column) ≡ true = number-refl p.column in
    rw (row, column) refl

nothing_at : (d : Display) (t : Bool) → is_steady d d ≡ t
    → (if t then changes_calls d d else if looks_same d d then [] else cleared_calls d ++ shown_screen_calls d) ≡ []
nothing_at d true steady =
    let is : Steady d d = steady-is d d steady in
    let wants : wants_wrap d.cursor d ≡ false = still d is.prints in
    let moved : move_calls d.cursor d.cursor.row d.cursor.column ≡ [] = no-move d.cursor in
    changes-cursor d d.cursor ∙ rw (wants, moved) (no-style d.cursor)
nothing_at d false steady = let same : looks_same d d ≡ true = looks-refl d in rw same refl

pub same-nothing : (shown : Display) → update_calls shown shown ≡ []
same-nothing shown = nothing_at shown _ refl
