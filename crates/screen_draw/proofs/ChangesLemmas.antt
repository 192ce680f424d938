-- What differs in cells, cursor and modes leads to the other screen, where the margins are its own.
use Rattle.std.proofs.Common.{◌≡◌, ℕ, zero, suc, ◌+◌, ◌-◌, ◌*◌, ◌<◌, ◌≤◌, Bool, true, false, List, [], ◌∷◌, ◌++◌, length, take, drop, set, refl, ap, sym, ◌∙◌, arith, append-nil, append_assoc}
use Rattle.std.specs.Prelude.{◌&&◌, not, ◌==◌, nat_eq, map, if◌then◌else◌, None, Some}
use Rattle.std.specs.Bool.{beq}
use Rattle.std.proofs.lemmas.Bool.{and_parts}
use Rattle.std.proofs.lemmas.List.{length-take-le, length-drop, get_or-drop, take-append-drop, take_all, drop_all}
use Rattle.std.proofs.Math.Seq.{drop-drop, take-add}
use Rattle.std.proofs.Math.Nat.{mul-le-mul_right, suc-mul}
use borrow.Author.Tests.{eqb-true, eqb-false}
use Rattle.anstyle_parse.specs.Stream.Call.{Call}
use Rattle.ansi_style.specs.declared.style.Style.{Style}
use Rattle.ansi_style.specs.Style.{plain}
use Rattle.ansi_screen.specs.declared.cell.Cell.{Cell}
use Rattle.ansi_screen.specs.declared.place.Place.{Place}
use Rattle.ansi_screen.specs.Cells.{blank, is_right, cell_at}
use Rattle.ansi_screen.specs.Display.{Display, row_cells, row_end}
use Rattle.ansi_screen.specs.Modes.{with_private_mode}
use Rattle.ansi_screen.specs.Print.{draws}
use Rattle.ansi_screen.specs.After.{State, after, after_all}
use Rattle.ansi_screen.specs.Reachable.{ArePaired, IsWhole, IsScreen, HasContents}
use Rattle.ansi_screen.proofs.PairLemmas.{paired-take, paired-drop, paired-first}
use Rattle.ansi_screen.proofs.ContentLemmas.{cells-take, cells-drop}
use Rattle.ansi_screen.proofs.LawLemmas.{after_all-append}
use Rattle.screen_draw.specs.Draw.{private_mode, position, select, style_calls, wrap_calls, last_cell, last_column}
use Rattle.screen_draw.specs.Redrawn.{as_printed, as_drawn, drawn_cells, redrawn}
use Rattle.screen_draw.specs.Alike.{lacks_print}
use Rattle.screen_draw.specs.Update.{move_calls, row_calls, begun_at, place_behind, rows_calls, wants_wrap, cursor_changes, mode_changes, changes_from}
use Rattle.screen_draw.proofs.AlikeLemmas.{flag-same}
use Rattle.screen_draw.proofs.BrokenLemmas.{own_style, broken, mended-first}
use Rattle.screen_draw.proofs.CanvasLemmas.{on, after-position, after-style}
use Rattle.screen_draw.proofs.CursorLemmas.{first-drawn, drawn-append, drawn-length, full_by, last_at, column-inside}
use Rattle.screen_draw.proofs.FrameLemmas.{Frame, Steady, same-hidden, printed-last}
use Rattle.screen_draw.proofs.RowLemmas.{Keeps, keeps-row, paint-row, after-move, after-style_change}
use Rattle.screen_draw.proofs.SelectedLemmas.{after-private}

-- rows of a screen
module _ (d : Display) (whole : IsWhole d.width d.cells) where
  row-free : (n place : ℕ) → place ≡ n * d.width + d.width → is_right (cell_at place d.cells).part ≡ false
  row-free n place is =
      let next : suc n * d.width ≡ place = suc-mul n d.width ∙ sym is in
      ap (λ k. is_right (cell_at k d.cells).part) (sym next) ∙ whole.rows_begin (suc n)

  pub row-paired : (n : ℕ) → ArePaired None (row_cells n d)
  row-paired n =
      let rest : List Cell = drop (n * d.width) d.cells in
      let paired : ArePaired None rest = paired-drop None (n * d.width) d.cells whole.paired (whole.rows_begin n) in
      paired-take None d.width rest paired
      (ap (λ (x : Cell). is_right x.part) (get_or-drop (n * d.width) d.cells d.width (blank plain)) ∙ row-free n (n * d.width + d.width) refl)

  pub rest-free : (n : ℕ) → is_right (cell_at 0 (drop (n * d.width + d.width) d.cells)).part ≡ false
  rest-free n =
      let place : ℕ = n * d.width + d.width in
      let same : place + 0 ≡ place = omega arith in
      ap (λ (x : Cell). is_right x.part) (get_or-drop place d.cells 0 (blank plain)) ∙ (ap (λ k. is_right (cell_at k d.cells).part) same ∙ row-free n place refl)

row-within : (n width height : ℕ) → n < height → n * width + width ≤ height * width
row-within n width height below =
    let past : suc n * width ≤ height * width = mul-le-mul_right {m = suc n} {n = height} width below in
    let next : suc n * width ≡ n * width + width = suc-mul n width in
    omega arith

-- the cursor stands there
stays-false : (t u : Bool) → not (t && (u && not true)) ≡ false → ⊥
stays-false true true not_so = cc not_so
stays-false true false not_so = cc not_so
stays-false false u not_so = cc not_so

stays-there : (t u : Bool) → not (t && (u && not false)) ≡ false → (t ≡ true) × (u ≡ true)
stays-there true true not_so = (refl, refl)
stays-there true false not_so = cc not_so
stays-there false u not_so = cc not_so

no-move : (p : Place) (row column : ℕ) → (p.row == row) ≡ true → (p.column == column) ≡ true → move_calls p row column ≡ []
unfolding move_calls
no-move p row column same there = rw (same, there) refl

-- a mode that may differ
after-mode_at : (mode : ℕ) (old new : Bool) (s : State) (t : Bool) → beq old new ≡ t → (d : Bool → Display) → ((u : Bool) (e : State) → e.display ≡ d old → (after (private_mode mode u) e).display ≡ d u)
    → s.display ≡ d old → (after_all (if t then [] else private_mode mode new ∷ []) s).display ≡ d new
after-mode_at mode old new s true same d does is = is ∙ ap d (flag-same old new same)
after-mode_at mode old new s false same d does is = does new s is

-- the cells, with the size of the other screen, and its picture
abbrev pub sized : Display → Display → Display
sized a b = record a { width = b.width; height = b.height }

module _ (other b : Display) (from : IsScreen (sized other b)) (has : HasContents (sized other b)) (to : IsScreen b) (gets : HasContents b)
    (is : Steady (sized other b) b) (top : other.top ≡ b.top) (bottom : other.bottom ≡ b.bottom) where
  abbrev a : Display
  a = sized other b

  abbrev base : Display
  base = full_by a.wraps a.is_visible b

  -- so many rows are drawn
  abbrev Drawn : ℕ → State → Type 0
  Drawn n s =
      (s.display ≡ on base (map as_drawn (take (n * b.width) b.cells) ++ map as_drawn (drop (n * b.width) a.cells)) (place_behind n a.cursor a b))
      × Keeps a.cursor (place_behind n a.cursor a b)

  row-drawn : (n : ℕ) (s : State) → n < b.height → Drawn n s
      → Drawn (suc n) (after_all (row_calls n 0 (begun_at (place_behind n a.cursor a b)) (row_cells n a) (row_cells n b)) s)
  row-drawn n s below (at, keeps) =
      let k : ℕ = n * b.width in
      let p : Place = place_behind n a.cursor a b in
      let olds : List Cell = row_cells n a in
      let news : List Cell = row_cells n b in
      let front : List Cell = map as_drawn (take k b.cells) in
      let back : List Cell = map as_drawn (drop (k + b.width) a.cells) in
      let inside : k + b.width ≤ b.height * b.width = row-within n b.width b.height below in
      let fill : length a.cells ≡ b.height * b.width = from.sized.cells_fill in
      let to_fill : length b.cells ≡ b.height * b.width = to.sized.cells_fill in
      let front_long : length front ≡ k = drawn-length (take k b.cells) ∙ length-take-le k b.cells (omega arith) in
      let olds_long : length olds ≡ b.width = length-take-le b.width (drop k a.cells) (omega (arith, length-drop k a.cells)) in
      let news_long : length news ≡ b.width = length-take-le b.width (drop k b.cells) (omega (arith, length-drop k b.cells)) in
      let next : suc n * b.width ≡ k + b.width = suc-mul n b.width in
      let split : drop k a.cells ≡ olds ++ drop (k + b.width) a.cells =
      sym (take-append-drop b.width (drop k a.cells)) ∙ ap (λ l. olds ++ l) (drop-drop b.width k a.cells) in
      let old_pairs : ArePaired None olds = row-paired a from.whole n in
      let whole_olds : map as_drawn (drop k a.cells) ≡ map as_drawn olds ++ back = ap (map as_drawn) split ∙ drawn-append olds (drop (k + b.width) a.cells) in
      let free_back : is_right (cell_at 0 back).part ≡ false = first-drawn (drop (k + b.width) a.cells) (rest-free a from.whole n) in
      let ready : s.display ≡ on base (front ++ (map as_drawn olds ++ back)) p = at ∙ ap (λ l. on base (front ++ l) p) whole_olds in
      let unbroken : map as_drawn olds ≡ broken (map as_drawn olds) = sym (mended-first own_style (map as_drawn olds) (first-drawn olds (paired-first olds old_pairs))) in
      let painted = paint-row base n below refl refl back free_back olds news front 0 None None p 0 s (row-paired b to.whole n) (cells-take b.width (drop k b.cells) (cells-drop k b.cells gets.cells))
      old_pairs (cells-take b.width (drop k a.cells) (cells-drop k a.cells has.cells))
      (record { awaits = tt; enough = omega arith; absolute = keeps.origin ∙ is.absolute; letter = ap draws keeps.sets ∙ is.letter })
      (record { long = olds_long ∙ sym news_long; wide = omega arith; there = omega arith })
      (own_style, ready ∙ ap (λ l. on base (front ++ (l ++ back)) p) unbroken) in
      let more : take (suc n * b.width) b.cells ≡ take k b.cells ++ news = ap (λ m. take m b.cells) next ∙ take-add k b.width b.cells in
      let q : Place = place_behind (suc n) a.cursor a b in
      let cells : front ++ (map as_drawn news ++ back) ≡ map as_drawn (take (suc n * b.width) b.cells) ++ map as_drawn (drop (suc n * b.width) a.cells) =
      sym (append_assoc front (map as_drawn news) back)
      ∙ (ap (λ l. l ++ back) (sym (drawn-append (take k b.cells) news) ∙ ap (map as_drawn) (sym more))
      ∙ ap (λ m. map as_drawn (take (suc n * b.width) b.cells) ++ map as_drawn (drop m a.cells)) (sym next)) in
      let kept = keeps-row n 0 (begun_at p) olds news in
      (painted ∙ ap (λ l. on base l q) cells, record { sets = kept.sets ∙ keeps.sets; origin = kept.origin ∙ keeps.origin })

  rows-drawn : (n : ℕ) (s : State) → n ≤ b.height → s.display ≡ on base (map as_drawn a.cells) a.cursor → Drawn n (after_all (rows_calls n a.cursor a b) s)
  rows-drawn zero s within at =
      let none : 0 * b.width ≡ 0 = omega arith in
      (at ∙ ap (λ k. on base (map as_drawn (take k b.cells) ++ map as_drawn (drop k a.cells)) a.cursor) (sym none), record { sets = refl; origin = refl })
  rows-drawn (suc n) s within at =
      let row : List Call = row_calls n 0 (begun_at (place_behind n a.cursor a b)) (row_cells n a) (row_cells n b) in
      let before : State = after_all (rows_calls n a.cursor a b) s in
      let (drawn, keeps) = row-drawn n before (omega arith) (rows-drawn n s (omega arith) at) in
      (ap (λ (e : State). e.display) (after_all-append (rows_calls n a.cursor a b) row s) ∙ drawn, keeps)

  all-drawn-rows : (s : State) → s.display ≡ on base (map as_drawn a.cells) a.cursor
      → ((after_all (rows_calls b.height a.cursor a b) s).display ≡ on base (map as_drawn b.cells) (place_behind b.height a.cursor a b)) × Keeps a.cursor (place_behind b.height a.cursor a b)
  all-drawn-rows s at =
      let (drawn, keeps) = rows-drawn b.height s (omega arith) at in
      let fill : length a.cells ≡ b.height * b.width = from.sized.cells_fill in
      let to_fill : length b.cells ≡ b.height * b.width = to.sized.cells_fill in
      let all : take (b.height * b.width) b.cells ≡ b.cells = take_all (b.height * b.width) b.cells (omega arith) in
      let none : drop (b.height * b.width) a.cells ≡ [] = drop_all (b.height * b.width) a.cells (omega arith) in
      let q : Place = place_behind b.height a.cursor a b in (
        drawn ∙ (ap (λ l. on base (map as_drawn l ++ map as_drawn (drop (b.height * b.width) a.cells)) q) all
            ∙ (ap (λ l. on base (map as_drawn b.cells ++ map as_drawn l) q) none ∙ ap (λ l. on base l q) (append-nil (map as_drawn b.cells)))),
        keeps,
      )

  -- the cursor, with the sets of the screen
  cursor-made : (p : Place) (style : Style) → Keeps a.cursor p → style ≡ b.cursor.style
      → record p { row = b.cursor.row; column = b.cursor.column; is_relative = b.cursor.is_relative; style = style } ≡ b.cursor
  cursor-made p style keeps same =
      ap (λ k. record p { row = b.cursor.row; column = b.cursor.column; is_relative = b.cursor.is_relative; style = k }) same
      ∙ ap (λ k. record b.cursor { charsets = k }) (keeps.sets ∙ is.sets)

  abbrev Placed : State → Type 0
  Placed s = s.display ≡ on base (drawn_cells b) b.cursor

  pending-drawn : b.cursor.column ≡ b.width → nat_eq b.cursor.column b.width ≡ true → (p : Place) (s : State) → Keeps a.cursor p → s.display ≡ on base (map as_drawn b.cells) p
      → Placed (after_all (position b.cursor.row (last_column b) ∷ (wrap_calls (Some (last_cell b)) ++ select b.cursor.style ∷ [])) s)
  pending-drawn pending test p s keeps at =
      let origin : p.is_relative ≡ false = keeps.origin ∙ is.absolute in
      let same : p.is_relative ≡ b.cursor.is_relative = origin ∙ sym is.to_absolute in
      let u : Bool = is_right (cell_at (row_end b - 1) b.cells).part in
      let middle : State = after (position b.cursor.row (last_column b)) s in
      let relative : s.display.cursor.is_relative ≡ false = ap (λ (d : Display). d.cursor.is_relative) at ∙ origin in
      let height : s.display.height ≡ b.height = ap (λ (d : Display). d.height) at in
      let width : s.display.width ≡ b.width = ap (λ (d : Display). d.width) at in
      let below : b.cursor.row < b.height = to.sized.cursor_row in
      let inside : last_column b < b.width = column-inside a.wraps a.is_visible b to gets u in
      let went : middle.display ≡ on base (map as_drawn b.cells) (record p { row = b.cursor.row; column = last_column b; is_relative = b.cursor.is_relative }) =
      after-position b.cursor.row b.cursor.row (last_column b) s (rw relative refl) (rw height below) (rw width inside)
      ∙ (ap (λ (d : Display). record d { cursor = record d.cursor { row = b.cursor.row; column = last_column b } }) at
      ∙ ap (λ o. on base (map as_drawn b.cells) (record p { row = b.cursor.row; column = last_column b; is_relative = o })) same) in
      let (style, wrapped) = last_at a.wraps a.is_visible b to gets p middle u refl pending (ap draws keeps.sets ∙ is.letter) went in
      let wrap : List Call = wrap_calls (Some (last_cell b)) in
      let printed : State = after_all wrap middle in
      let n : ℕ = row_end b - 1 in
      let cells : drawn_cells b ≡ set (map as_drawn b.cells) n (as_printed (cell_at n b.cells)) = rw test refl in
      ap (λ (e : State). e.display) (after_all-append wrap (select b.cursor.style ∷ []) middle)
      ∙ (after-style b.cursor.style printed gets.cursor_colored
      ∙ (ap (λ (d : Display). record d { cursor = record d.cursor { style = b.cursor.style } }) wrapped
      ∙ (ap (λ c. on base (set (map as_drawn b.cells) n (as_printed (cell_at n b.cells))) c) (cursor-made p b.cursor.style keeps refl) ∙ ap (λ l. on base l b.cursor) (sym cells))))

  -- where it stands there already, or is to stand before the row's end
  moved-drawn : (p : Place) (s : State) (t u v : Bool) → nat_eq b.cursor.column b.width ≡ t → lacks_print b ≡ v
      → (t && not ((p.row == b.cursor.row) && ((p.column == b.cursor.column) && not v))) ≡ false
      → Keeps a.cursor p → s.display ≡ on base (map as_drawn b.cells) p
      → Placed (after_all (move_calls p b.cursor.row b.cursor.column ++ style_calls p.style b.cursor.style) s)
  moved-drawn p s true u true pending lacks not_so keeps at = absurd (stays-false (p.row == b.cursor.row) (p.column == b.cursor.column) not_so)
  moved-drawn p s true u false pending lacks not_so keeps at =
      let there = stays-there (p.row == b.cursor.row) (p.column == b.cursor.column) not_so in
      let row : p.row ≡ b.cursor.row = eqb-true p.row b.cursor.row there.0 in
      let column : p.column ≡ b.cursor.column = eqb-true p.column b.cursor.column there.1 in
      let none : move_calls p b.cursor.row b.cursor.column ≡ [] = no-move p b.cursor.row b.cursor.column there.0 there.1 in
      let styled : (after_all (style_calls p.style b.cursor.style) s).display ≡ on base (map as_drawn b.cells) (record p { style = b.cursor.style }) =
      after-style_change base (map as_drawn b.cells) p b.cursor.style s gets.cursor_colored at in
      ap (λ (l : List Call). (after_all (l ++ style_calls p.style b.cursor.style) s).display) none
      ∙ (styled
      ∙ (ap (λ r. on base (map as_drawn b.cells) (record p { row = r; style = b.cursor.style })) row
      ∙ (ap (λ c. on base (map as_drawn b.cells) (record p { row = b.cursor.row; column = c; style = b.cursor.style })) column
      ∙ (ap (λ o. on base (map as_drawn b.cells) (record p { row = b.cursor.row; column = b.cursor.column; is_relative = o; style = b.cursor.style })) (keeps.origin ∙ (is.absolute ∙ sym is.to_absolute))
      ∙ (ap (λ c. on base (map as_drawn b.cells) c) (cursor-made p b.cursor.style keeps refl)
      ∙ ap (λ l. on base l b.cursor) (sym (printed-last b lacks)))))))
  moved-drawn p s false u v before lacks not_so keeps at =
      let other : b.cursor.column ≡ b.width → ⊥ = eqb-false b.cursor.column b.width before in
      let most : b.cursor.column ≤ b.width = to.sized.cursor_column in
      let cells : drawn_cells b ≡ map as_drawn b.cells = rw before refl in
      let there : Place = record p { row = b.cursor.row; column = b.cursor.column } in
      let moved : (after_all (move_calls p b.cursor.row b.cursor.column) s).display ≡ on base (map as_drawn b.cells) there =
      after-move base (map as_drawn b.cells) p b.cursor.row b.cursor.column s at (keeps.origin ∙ is.absolute) to.sized.cursor_row (omega arith) in
      ap (λ (e : State). e.display) (after_all-append (move_calls p b.cursor.row b.cursor.column) (style_calls p.style b.cursor.style) s)
      ∙ (after-style_change base (map as_drawn b.cells) there b.cursor.style (after_all (move_calls p b.cursor.row b.cursor.column) s) gets.cursor_colored moved
      ∙ (ap (λ o. on base (map as_drawn b.cells) (record p { row = b.cursor.row; column = b.cursor.column; is_relative = o; style = b.cursor.style })) (keeps.origin ∙ (is.absolute ∙ sym is.to_absolute))
      ∙ (ap (λ c. on base (map as_drawn b.cells) c) (cursor-made p b.cursor.style keeps refl)
      ∙ ap (λ l. on base l b.cursor) (sym cells))))

  cursor_at : (p : Place) (s : State) (t : Bool) → wants_wrap p b ≡ t → Keeps a.cursor p → s.display ≡ on base (map as_drawn b.cells) p
      → Placed (after_all (if t then position b.cursor.row (last_column b) ∷ (wrap_calls (Some (last_cell b)) ++ select b.cursor.style ∷ [])
      else move_calls p b.cursor.row b.cursor.column ++ style_calls p.style b.cursor.style) s)
  unfolding wants_wrap
  cursor_at p s true wants keeps at =
      let test : nat_eq b.cursor.column b.width ≡ true =
      (and_parts (b.cursor.column == b.width) (not ((p.row == b.cursor.row) && ((p.column == b.cursor.column) && not (lacks_print b)))) wants).0 in
      pending-drawn (eqb-true b.cursor.column b.width test) test p s keeps at
  cursor_at p s false wants keeps at = moved-drawn p s _ true _ refl refl wants keeps at

  after-cursor_changes : (p : Place) (s : State) → Keeps a.cursor p → s.display ≡ on base (map as_drawn b.cells) p → Placed (after_all (cursor_changes p b) s)
  after-cursor_changes p s keeps at = cursor_at p s _ refl keeps at

  -- DECAWM and DECTCEM
  abbrev made : Bool → Bool → Display
  made wraps is_visible = on (full_by wraps is_visible b) (drawn_cells b) b.cursor

  after-mode_changes : (s : State) → Placed s
      → (after_all (mode_changes 7 a.wraps b.wraps ++ mode_changes 25 a.is_visible b.is_visible) s).display ≡ made b.wraps b.is_visible
  unfolding with_private_mode
  after-mode_changes s at =
      let first : State = after_all (mode_changes 7 a.wraps b.wraps) s in
      ap (λ (e : State). e.display) (after_all-append (mode_changes 7 a.wraps b.wraps) (mode_changes 25 a.is_visible b.is_visible) s)
      ∙ after-mode_at 25 a.is_visible b.is_visible first _ refl (made b.wraps)
      (λ u e is_old. after-private 25 u e ∙ ap (λ (d : Display). record d { is_visible = u }) is_old)
      (after-mode_at 7 a.wraps b.wraps s _ refl (λ w. made w a.is_visible)
      (λ u e is_old. after-private 7 u e ∙ ap (λ (d : Display). record d { wraps = u }) is_old) at)

  -- the frame is that of the other screen
  begun : redrawn a ≡ on base (map as_drawn a.cells) a.cursor
  begun =
      let long : length a.hidden ≡ length b.hidden = from.sized.hidden_fill ∙ sym to.sized.hidden_fill in
      let frame : Frame a b = is.frame in
      let all : List Cell = map as_drawn a.cells in
      ap (λ l. record (redrawn a) { cells = l }) (printed-last a is.prints)
      ∙ (ap (λ l. record (redrawn a) { cells = all; hidden = l }) (same-hidden a b frame long has gets)
      ∙ (ap (λ t. record (redrawn a) { cells = all; hidden = map as_drawn b.hidden; is_alternate = t }) frame.alternate
      ∙ (ap (λ p. record (redrawn a) { cells = all; hidden = map as_drawn b.hidden; is_alternate = b.is_alternate; saved = p }) frame.saved
      ∙ (ap (λ p. record (redrawn a) { cells = all; hidden = map as_drawn b.hidden; is_alternate = b.is_alternate; saved = b.saved; hidden_saved = p }) frame.hidden_saved
      ∙ (ap (λ n. record (redrawn a) { cells = all; hidden = map as_drawn b.hidden; is_alternate = b.is_alternate; saved = b.saved; hidden_saved = b.hidden_saved; top = n }) top
      ∙ (ap (λ n. record (redrawn a) { cells = all; hidden = map as_drawn b.hidden; is_alternate = b.is_alternate; saved = b.saved; hidden_saved = b.hidden_saved; top = b.top; bottom = n }) bottom
      ∙ (ap (λ l. record (redrawn a) { cells = all; hidden = map as_drawn b.hidden; is_alternate = b.is_alternate; saved = b.saved; hidden_saved = b.hidden_saved; top = b.top; bottom = b.bottom; tabs = l }) frame.tabs
      ∙ ap (λ t. on (record base { inserts = t }) all a.cursor) is.replaces)))))))

  ended : made b.wraps b.is_visible ≡ redrawn b
  ended = ap (λ t. record (made b.wraps b.is_visible) { inserts = t }) (sym is.to_replaces)

  pub from-drawn : (s : State) → s.display ≡ redrawn a → (after_all (changes_from a.cursor a b) s).display ≡ redrawn b
  from-drawn s at =
      let rows : List Call = rows_calls b.height a.cursor a b in
      let p : Place = place_behind b.height a.cursor a b in
      let modes : List Call = mode_changes 7 a.wraps b.wraps ++ mode_changes 25 a.is_visible b.is_visible in
      let first : State = after_all rows s in
      let second : State = after_all (cursor_changes p b) first in
      let (drawn, keeps) = all-drawn-rows s (at ∙ begun) in
      ap (λ (e : State). e.display) (after_all-append rows (cursor_changes p b ++ modes) s ∙ after_all-append (cursor_changes p b) modes first)
      ∙ (after-mode_changes second (after-cursor_changes p first keeps drawn) ∙ ended)
