-- The cursor: where a wrap is pending, the last character of its row is printed once more.
use Rattle.std.proofs.Common.{◌≡◌, ℕ, zero, suc, ◌+◌, ◌-◌, ◌*◌, ◌<◌, ◌≤◌, Bool, true, false, List, [], ◌∷◌, ◌++◌, length, take, drop, set, refl, ap, sym, ◌∙◌, arith, append_assoc, length-append}
use Rattle.std.specs.Prelude.{nat_eq, map, if◌then◌else◌, Option, None, Some}
use Rattle.std.proofs.lemmas.List.{length-take-le, get_or-drop}
use Rattle.std.proofs.Math.Nat.{mul-le-mul_right, suc-mul}
use borrow.Author.Tests.{eqb-true, eqb-false}
use Rattle.ansi_style.specs.declared.style.Style.{Style}
use Rattle.ansi_style.specs.Style.{plain}
use Rattle.ansi_screen.specs.declared.cell.Cell.{Cell}
use Rattle.ansi_screen.specs.declared.cell.Part.{Part}
use Rattle.ansi_screen.specs.declared.cell.Part.TheVariants.{Empty, Whole, Left, Right}
use Rattle.ansi_screen.specs.declared.place.Place.{Place}
use Rattle.ansi_screen.specs.Cells.{plain_cell, blank, is_right, cell_at}
use Rattle.ansi_screen.specs.Display.{Display, row_end, letters}
use Rattle.ansi_screen.specs.Print.{draws}
use Rattle.ansi_screen.specs.After.{State, after, after_all}
use Rattle.ansi_screen.specs.Reachable.{is_left, left_style, right_style, ArePaired, IsScreen, IsCell, HasContents}
use Rattle.ansi_screen.proofs.PairLemmas.{left-none, right-none}
use Rattle.ansi_screen.proofs.ContentLemmas.{cells-at}
use Rattle.screen_draw.specs.Draw.{is_erased, select, place_calls, wrap_calls, cursor_calls, last_cell, last_column}
use Rattle.screen_draw.specs.Redrawn.{printed_part, as_printed, as_drawn, drawn_cells}
use Rattle.screen_draw.proofs.CanvasLemmas.{on, set-front, after-style}
use Rattle.screen_draw.proofs.PaintLemmas.{character-narrow, character-wide, drawn-printed, drawn-none, front-none}
use Rattle.screen_draw.proofs.ScreenLemmas.{right-half}
use Rattle.screen_draw.proofs.SavedLemmas.{after-place_calls}
use Rattle.screen_draw.proofs.RestLemmas.{over}

-- lists, at a place
split-one : (n : ℕ) (xs : List Cell) → n < length xs → xs ≡ take n xs ++ (cell_at n xs ∷ drop (suc n) xs)
split-one n [] inside = absurd (omega arith)
split-one zero (x ∷ xs) inside = refl
split-one (suc n) (x ∷ xs) inside = ap (λ l. x ∷ l) (split-one n xs (omega arith))

split-two : (n : ℕ) (xs : List Cell) → suc n < length xs → xs ≡ take n xs ++ (cell_at n xs ∷ (cell_at (suc n) xs ∷ drop (suc (suc n)) xs))
split-two n [] inside = absurd (omega arith)
split-two n (x ∷ []) inside = absurd (omega arith)
split-two zero (x ∷ y ∷ xs) inside = refl
split-two (suc n) (x ∷ y ∷ xs) inside = ap (λ l. x ∷ l) (split-two n (y ∷ xs) (omega arith))

pub drawn-append : (xs ys : List Cell) → map as_drawn (xs ++ ys) ≡ map as_drawn xs ++ map as_drawn ys
drawn-append [] ys = refl
drawn-append (x ∷ xs) ys = ap (λ l. as_drawn x ∷ l) (drawn-append xs ys)

pub drawn-length : (xs : List Cell) → length (map as_drawn xs) ≡ length xs
drawn-length [] = refl
drawn-length (x ∷ xs) = ap suc (drawn-length xs)

-- a drawn cell is the half that it was
printed-right : (part : Part) → is_right (printed_part part) ≡ is_right part
printed-right Empty = refl
printed-right Whole = refl
printed-right Left = refl
printed-right Right = refl

pub drawn-right : (x : Cell) (t : Bool) → is_erased x ≡ t → is_right (as_drawn x).part ≡ is_right x.part
unfolding as_drawn
drawn-right x true is = rw is refl
drawn-right x false is = rw is (printed-right x.part)

pub first-drawn : (xs : List Cell) → is_right (cell_at 0 xs).part ≡ false → is_right (cell_at 0 (map as_drawn xs)).part ≡ false
first-drawn [] free = refl
first-drawn (x ∷ xs) free = drawn-right x _ refl ∙ free

pub left-erased : (cell : Cell) → cell.part ≡ Left → is_erased cell ≡ false
unfolding is_erased
left-erased cell part = rw part refl

-- halves, side by side
some-is : (x : Cell) (style : Style) (t : Bool) → is_right x.part ≡ t → right_style x ≡ Some style → is_right x.part ≡ true
some-is x style true is some = is
some-is x style false is some = let none : right_style x ≡ None = right-none x is in cc

right-follows : (behind : Option Style) (i : ℕ) (xs : List Cell) → ArePaired behind xs → is_left (cell_at i xs).part ≡ true → is_right (cell_at (suc i) xs).part ≡ true
right-follows behind i [] are left = cc left
right-follows behind zero (x ∷ []) are left =
    let some : left_style x ≡ Some x.style = rw left refl in
    let none : left_style x ≡ None = are.1 in
    cc
right-follows behind zero (x ∷ y ∷ xs) are left =
    let some : left_style x ≡ Some x.style = rw left refl in
    some-is y x.style _ refl (are.1.0 ∙ some)
right-follows behind (suc i) (x ∷ xs) are left = right-follows (left_style x) i xs are.1 left

left-of : (part : Part) → is_left part ≡ true → part ≡ Left
left-of Empty is = cc is
left-of Whole is = cc is
left-of Left is = refl
left-of Right is = cc is

left-half_at : (x : Cell) (style : Style) (t : Bool) → is_left x.part ≡ t → left_style x ≡ Some style → (x.part ≡ Left) × (style ≡ x.style)
left-half_at x style true is half =
    let some : left_style x ≡ Some x.style = rw is refl in
    let same : Some style ≡ Some x.style = sym half ∙ some in
    (left-of x.part is, cc)
left-half_at x style false is half = let none : left_style x ≡ None = left-none x is in cc

left-before : (behind : Option Style) (i : ℕ) (xs : List Cell) → ArePaired behind xs → is_right (cell_at (suc i) xs).part ≡ true
    → ((cell_at i xs).part ≡ Left) × ((cell_at (suc i) xs).style ≡ (cell_at i xs).style)
left-before behind i [] are half = cc half
left-before behind zero (x ∷ []) are half = cc half
left-before behind zero (x ∷ y ∷ xs) are half =
    let some : right_style y ≡ Some y.style = rw half refl in
    left-half_at x y.style _ refl (sym are.1.0 ∙ some)
left-before behind (suc i) (x ∷ xs) are half = left-before (left_style x) i xs are.1 half

not-left : (t : Bool) (i : ℕ) (xs : List Cell) → is_left (cell_at i xs).part ≡ t → ArePaired None xs → is_right (cell_at (suc i) xs).part ≡ false → is_left (cell_at i xs).part ≡ false
not-left true i xs is are free = let half : is_right (cell_at (suc i) xs).part ≡ true = right-follows None i xs are is in cc
not-left false i xs is are free = is

right-is : (part : Part) → is_right part ≡ true → part ≡ Right
right-is Empty is = cc is
right-is Whole is = cc is
right-is Left is = cc is
right-is Right is = refl

-- all but the cells, the cursor and the modes
abbrev pub full : Display → Display
full d = record (over d) { saved = d.saved; tabs = d.tabs; top = d.top; bottom = d.bottom }

-- the same with DECAWM and DECTCEM
abbrev pub full_by : Bool → Bool → Display → Display
full_by wraps is_visible d = record (full d) { wraps = wraps; is_visible = is_visible }

module _ (wraps is_visible : Bool) (d : Display) (screen : IsScreen d) (contents : HasContents d) where
  row-inside : d.cursor.row * d.width + d.width ≤ length d.cells
  row-inside =
      let below : d.cursor.row < d.height = screen.sized.cursor_row in
      let past : suc d.cursor.row * d.width ≤ d.height * d.width = mul-le-mul_right {m = suc d.cursor.row} {n = d.height} d.width below in
      let next : suc d.cursor.row * d.width ≡ d.cursor.row * d.width + d.width = suc-mul d.cursor.row d.width in
      let fill : length d.cells ≡ d.height * d.width = screen.sized.cells_fill in
      omega arith

  row-next : (place : ℕ) → place ≡ d.cursor.row * d.width + d.width → is_right (cell_at place d.cells).part ≡ false
  row-next place is =
      let next : suc d.cursor.row * d.width ≡ place = suc-mul d.cursor.row d.width ∙ sym is in
      ap (λ k. is_right (cell_at k d.cells).part) (sym next) ∙ screen.whole.rows_begin (suc d.cursor.row)

  behind-free : (place : ℕ) → place ≡ d.cursor.row * d.width + d.width → is_right (cell_at 0 (map as_drawn (drop place d.cells))).part ≡ false
  behind-free place is =
      let same : place + 0 ≡ place = omega arith in
      first-drawn (drop place d.cells)
      (ap (λ (x : Cell). is_right x.part) (get_or-drop place d.cells 0 (blank plain)) ∙ (ap (λ k. is_right (cell_at k d.cells).part) same ∙ row-next place is))

  abbrev pub Went : Place → ℕ → State → Type 0
  Went p column s = s.display ≡ on (full_by wraps is_visible d) (map as_drawn d.cells) (record p { row = d.cursor.row; column = column; is_relative = d.cursor.is_relative })

  abbrev pub Wrapped : Place → State → Type 0
  Wrapped p s =
      (style : Style) × (s.display ≡ on (full_by wraps is_visible d) (set (map as_drawn d.cells) (row_end d - 1) (as_printed (cell_at (row_end d - 1) d.cells)))
      (record p { row = d.cursor.row; column = d.cursor.column; is_relative = d.cursor.is_relative; style = style }))

  wrapped-narrow : (p : Place) (middle : State) → is_right (cell_at (row_end d - 1) d.cells).part ≡ false → d.cursor.column ≡ d.width → draws p.charsets ≡ false
      → Went p (d.width - 1) middle → Wrapped p (after_all (wrap_calls (Some (cell_at (row_end d - 1) d.cells))) middle)
  wrapped-narrow p middle right pending letter is =
      let wide : 2 ≤ d.width = screen.sized.two_columns in
      let inside : d.cursor.row * d.width + d.width ≤ length d.cells = row-inside in
      let n : ℕ = row_end d - 1 in
      let x : Cell = cell_at n d.cells in
      let front : List Cell = map as_drawn (take n d.cells) in
      let back : List Cell = map as_drawn (drop (suc n) d.cells) in
      let next : suc n ≡ d.cursor.row * d.width + d.width = omega arith in
      let long : length front ≡ n = drawn-length (take n d.cells) ∙ length-take-le n d.cells (omega arith) in
      let cells : map as_drawn d.cells ≡ front ++ (as_drawn x ∷ back) =
      ap (map as_drawn) (split-one n d.cells (omega arith)) ∙ drawn-append (take n d.cells) (x ∷ drop (suc n) d.cells) in
      let holds : IsCell x = cells-at d.cells n contents.cells in
      let left : is_left x.part ≡ false = not-left _ n d.cells refl screen.whole.paired (row-next (suc n) next) in
      let q : Place = record p { row = d.cursor.row; column = d.width - 1; is_relative = d.cursor.is_relative; style = x.style } in
      let styled : State = after (select x.style) middle in
      let at : styled.display ≡ on (full_by wraps is_visible d) (front ++ (as_drawn x ∷ back)) q =
      after-style x.style middle holds.colored
      ∙ (ap (λ (e : Display). record e { cursor = record e.cursor { style = x.style } }) is ∙ ap (λ l. on (full_by wraps is_visible d) l q) cells) in
      let end : d.width - 1 + 1 ≡ d.cursor.column = omega arith in
      let there : d.cursor.row * d.width + (d.width - 1) ≡ length front = omega arith in
      let set_is : set (map as_drawn d.cells) n (as_printed x) ≡ front ++ (as_printed x ∷ back) =
      ap (λ l. set l n (as_printed x)) cells ∙ (ap (λ k. set (front ++ (as_drawn x ∷ back)) k (as_printed x)) (sym long) ∙ set-front front back (as_drawn x) (as_printed x)) in (
        x.style,
        character-narrow (full_by wraps is_visible d) front back q letter refl refl there (behind-free (suc n) next) x (as_drawn x) styled at holds left right refl (omega arith) (drawn-right x _ refl ∙ right)
            (front-none (as_drawn x ∷ []) back _ (drawn-none x, tt) (omega arith))
            ∙ (ap (λ k. on (full_by wraps is_visible d) (front ++ (as_printed x ∷ back)) (record q { column = k })) end
            ∙ ap (λ l. on (full_by wraps is_visible d) l (record q { column = d.cursor.column })) (sym set_is)),
      )

  wrapped-wide : (p : Place) (middle : State) → is_right (cell_at (row_end d - 1) d.cells).part ≡ true → d.cursor.column ≡ d.width → draws p.charsets ≡ false
      → Went p (d.width - 2) middle → Wrapped p (after_all (wrap_calls (Some (cell_at (row_end d - 2) d.cells))) middle)
  wrapped-wide p middle half pending letter is =
      let wide : 2 ≤ d.width = screen.sized.two_columns in
      let inside : d.cursor.row * d.width + d.width ≤ length d.cells = row-inside in
      let n : ℕ = row_end d - 2 in
      let second : suc n ≡ row_end d - 1 = omega arith in
      let next : suc (suc n) ≡ d.cursor.row * d.width + d.width = omega arith in
      let x : Cell = cell_at n d.cells in
      let r : Cell = cell_at (suc n) d.cells in
      let right : is_right r.part ≡ true = ap (λ k. is_right (cell_at k d.cells).part) second ∙ half in
      let pair : (x.part ≡ Left) × (r.style ≡ x.style) = left-before None n d.cells screen.whole.paired right in
      let front : List Cell = map as_drawn (take n d.cells) in
      let back : List Cell = map as_drawn (drop (suc (suc n)) d.cells) in
      let long : length front ≡ n = drawn-length (take n d.cells) ∙ length-take-le n d.cells (omega arith) in
      let cells : map as_drawn d.cells ≡ front ++ (as_drawn x ∷ (as_drawn r ∷ back)) =
      ap (map as_drawn) (split-two n d.cells (omega arith)) ∙ drawn-append (take n d.cells) (x ∷ (r ∷ drop (suc (suc n)) d.cells)) in
      let holds : IsCell x = cells-at d.cells n contents.cells in
      let holds_right : IsCell r = cells-at d.cells (suc n) contents.cells in
      let free : is_right x.part ≡ false = ap is_right pair.0 in
      let q : Place = record p { row = d.cursor.row; column = d.width - 2; is_relative = d.cursor.is_relative; style = x.style } in
      let styled : State = after (select x.style) middle in
      let at : styled.display ≡ on (full_by wraps is_visible d) (front ++ (as_drawn x ∷ (as_drawn r ∷ back))) q =
      after-style x.style middle holds.colored
      ∙ (ap (λ (e : Display). record e { cursor = record e.cursor { style = x.style } }) is ∙ ap (λ l. on (full_by wraps is_visible d) l q) cells) in
      let end : d.width - 2 + 2 ≡ d.cursor.column = omega arith in
      let there : d.cursor.row * d.width + (d.width - 2) ≡ length front = omega arith in
      let before : List Cell = front ++ as_drawn x ∷ [] in
      let before_long : length before ≡ row_end d - 1 = omega (arith, length-append front (as_drawn x ∷ [])) in
      let right_is : as_printed r ≡ plain_cell 0x20 x.style Right = right-half r (right-is r.part right) pair.1 holds_right in
      let left_is : as_drawn x ≡ as_printed x = drawn-printed x (left-erased x pair.0) in
      let set_is : set (map as_drawn d.cells) (row_end d - 1) (as_printed (cell_at (row_end d - 1) d.cells)) ≡ front ++ (as_printed x ∷ (plain_cell 0x20 x.style Right ∷ back)) =
      ap (λ k. set (map as_drawn d.cells) (row_end d - 1) (as_printed (cell_at k d.cells))) (sym second)
      ∙ (ap (λ l. set l (row_end d - 1) (as_printed r)) (cells ∙ sym (append_assoc front (as_drawn x ∷ []) (as_drawn r ∷ back)))
      ∙ (ap (λ k. set (before ++ (as_drawn r ∷ back)) k (as_printed r)) (sym before_long)
      ∙ (set-front before back (as_drawn r) (as_printed r)
      ∙ (append_assoc front (as_drawn x ∷ []) (as_printed r ∷ back)
      ∙ (ap (λ y. front ++ (y ∷ (as_printed r ∷ back))) left_is ∙ ap (λ y. front ++ (as_printed x ∷ (y ∷ back))) right_is))))) in (
        x.style,
        character-wide (full_by wraps is_visible d) front back q letter refl refl there (behind-free (suc (suc n)) next) x (as_drawn x) (as_drawn r) styled at holds pair.0 refl (omega arith) (drawn-right x _ refl ∙ free)
            (front-none (as_drawn x ∷ (as_drawn r ∷ [])) back _ (drawn-none x, (drawn-none r, tt)) (omega arith))
            ∙ (ap (λ k. on (full_by wraps is_visible d) (front ++ (as_printed x ∷ (plain_cell 0x20 x.style Right ∷ back))) (record q { column = k })) end
            ∙ ap (λ l. on (full_by wraps is_visible d) l (record q { column = d.cursor.column })) (sym set_is)),
      )

  pub last_at : (p : Place) (middle : State) (u : Bool) → is_right (cell_at (row_end d - 1) d.cells).part ≡ u → d.cursor.column ≡ d.width → draws p.charsets ≡ false
      → Went p (if u then d.width - 2 else d.width - 1) middle
      → Wrapped p (after_all (wrap_calls (Some (if u then cell_at (row_end d - 2) d.cells else cell_at (row_end d - 1) d.cells))) middle)
  last_at p middle true half pending letter is = wrapped-wide p middle half pending letter is
  last_at p middle false right pending letter is = wrapped-narrow p middle right pending letter is

  pub column-inside : (u : Bool) → (if u then d.width - 2 else d.width - 1) < d.width
  column-inside true = let wide : 2 ≤ d.width = screen.sized.two_columns in omega arith
  column-inside false = let wide : 2 ≤ d.width = screen.sized.two_columns in omega arith

  cursor_at : (p : Place) (s : State) (t : Bool) → nat_eq d.cursor.column d.width ≡ t → s.display ≡ on (full_by wraps is_visible d) (map as_drawn d.cells) p → draws p.charsets ≡ false
      → (after_all (if t then place_calls d.top (last_column d) (Some (last_cell d)) d.cursor else place_calls d.top d.cursor.column None d.cursor) s).display
      ≡ on (full_by wraps is_visible d) (if t then set (map as_drawn d.cells) (row_end d - 1) (as_printed (cell_at (row_end d - 1) d.cells)) else map as_drawn d.cells) d.cursor
  cursor_at p s true pending is letter =
      after-place_calls (full_by wraps is_visible d) (map as_drawn d.cells) p d.cursor (last_column d) (Some (last_cell d)) s is screen.in_margins screen.sized.cursor_row
      (column-inside (is_right (cell_at (row_end d - 1) d.cells).part)) contents.cursor_colored
      (set (map as_drawn d.cells) (row_end d - 1) (as_printed (cell_at (row_end d - 1) d.cells)))
      (λ middle at. last_at p middle _ refl (eqb-true d.cursor.column d.width pending) letter at)
  cursor_at p s false other is letter =
      let no : d.cursor.column ≡ d.width → ⊥ = eqb-false d.cursor.column d.width other in
      let most : d.cursor.column ≤ d.width = screen.sized.cursor_column in
      after-place_calls (full_by wraps is_visible d) (map as_drawn d.cells) p d.cursor d.cursor.column None s is screen.in_margins screen.sized.cursor_row (omega arith) contents.cursor_colored
      (map as_drawn d.cells) (λ middle at. (p.style, at))

  pub after-cursor : (p : Place) (s : State) → s.display ≡ on (full_by wraps is_visible d) (map as_drawn d.cells) p → p.charsets ≡ letters
      → (after_all (cursor_calls d) s).display ≡ on (full_by wraps is_visible d) (drawn_cells d) d.cursor
  after-cursor p s is letter = cursor_at p s _ refl is (ap draws letter)
