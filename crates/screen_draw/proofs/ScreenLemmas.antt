-- A list of cells is drawn on a blank screen, cell by cell.
use Rattle.std.proofs.Common.{◌≡◌, ℕ, suc, ◌+◌, ◌*◌, ◌<◌, ◌≤◌, Bool, true, false, List, [], ◌∷◌, ◌++◌, length, refl, ap, sym, ◌∙◌, arith, append_assoc, length-append}
use Rattle.std.specs.Prelude.{◌%◌, nat_lt, map, replicate, Option, None, Some}
use borrow.Author.Tests.{ltb-true, ltb-false}
use Rattle.anstyle_parse.specs.Stream.Call.{Call}
use Rattle.ansi_style.specs.declared.style.Style.{Style}
use Rattle.ansi_style.specs.Style.{plain}
use Rattle.ansi_screen.specs.declared.cell.Cell.{Cell}
use Rattle.ansi_screen.specs.declared.cell.Marks.TheVariants.{Unmarked}
use Rattle.ansi_screen.specs.declared.cell.Part.{Part}
use Rattle.ansi_screen.specs.declared.cell.Part.TheVariants.{Empty, Whole, Left, Right}
use Rattle.ansi_screen.specs.declared.place.Place.{Place}
use Rattle.ansi_screen.specs.Cells.{plain_cell, blank, is_right, cell_at}
use Rattle.ansi_screen.specs.Display.{Display}
use Rattle.ansi_screen.specs.Print.{draws}
use Rattle.ansi_screen.specs.After.{State, after, after_all}
use Rattle.ansi_screen.specs.Reachable.{is_left, left_style, right_style, ArePaired, FitsPart, IsCell, AreCells}
use Rattle.ansi_screen.proofs.PairLemmas.{none-right, left-none, right-none, right-replicate}
use Rattle.ansi_screen.proofs.GoingLemmas.{none-blanks, none-at}
use Rattle.ansi_screen.proofs.LawLemmas.{after_all-append}
use Rattle.screen_draw.specs.declared.cells.Pen.{Pen}
use Rattle.screen_draw.specs.Draw.{is_erased, is_fresh, character_calls, sequence, pen_behind, style_calls, there_calls, cell_calls, cells_calls}
use Rattle.screen_draw.specs.Redrawn.{printed_part, as_printed, as_drawn}
use Rattle.screen_draw.proofs.CanvasLemmas.{on}
use Rattle.screen_draw.proofs.PaintLemmas.{character-narrow, character-wide, erased-part, drawn-erased, drawn-printed, fresh-erased, erase-one}
use Rattle.screen_draw.proofs.CellsLemmas.{Stands, waiting, skipped, made-ready, row-ends}

-- the cells before a place are drawn, with the pen where it says
abbrev pub Painted : Display → List Cell → Option Style → ℕ → Pen → State → Type 0
Painted base front behind n pen s =
    (q : Place) × (s.display ≡ on base (front ++ waiting behind n) q) × Stands base (length front + skipped behind) pen q

-- the parts of a cell that is erased, and of one that is fresh
pub left-of : (part : Part) → is_left part ≡ true → part ≡ Left
left-of Empty is = cc is
left-of Whole is = cc is
left-of Left is = refl
left-of Right is = cc is

fresh-not : (cell : Cell) → is_erased cell ≡ false → is_fresh cell ≡ false
unfolding is_fresh
fresh-not cell is = rw is refl

add-none : (n : ℕ) → n + 0 ≡ n
add-none n = omega arith

-- a wide character has room where its right half begins no row
two-columns : (row column width place : ℕ) (t : Bool) → nat_lt (column + 1) width ≡ t → 0 < width → column < width → row * width + column ≡ place
    → ((place + 1) % width ≡ 0 → ⊥) → column + 2 ≤ width
two-columns row column width place true less some inside is other = let below : column + 1 < width = ltb-true (column + 1) width less in omega arith
two-columns row column width place false less some inside is other =
    let past : width ≤ column + 1 = ltb-false (column + 1) width less in
    absurd (other (row-ends row (column + 1) width (place + 1) some (omega arith) (omega arith)))

pub right-erased : (cell : Cell) → cell.part ≡ Right → is_erased cell ≡ false
unfolding is_erased
right-erased cell part = rw part refl

pub right-half : (cell : Cell) {style : Style} → cell.part ≡ Right → cell.style ≡ style → IsCell cell → as_printed cell ≡ plain_cell 0x20 style Right
right-half cell {style} part same holds =
    let fits : FitsPart Right cell.character cell.marks = rw part at holds.fits in
    ap (λ c. record cell { character = c; part = printed_part cell.part; link = 0; goes_on = false }) fits.0
    ∙ (ap (λ m. record cell { character = 0x20; marks = m; part = printed_part cell.part; link = 0; goes_on = false }) fits.1
    ∙ (ap (λ k. record cell { character = 0x20; marks = Unmarked; part = printed_part k; link = 0; goes_on = false }) part
    ∙ ap (λ t. record cell { character = 0x20; marks = Unmarked; style = t; part = Right; link = 0; goes_on = false }) same))

module _ (base : Display) (some : 0 < base.width) (replaces : base.inserts ≡ false) (unlinked : base.link ≡ 0) where
  -- where nothing is drawn
  fresh-step : (cell : Cell) (front : List Cell) (n : ℕ) (pen : Pen) (s : State) → is_fresh cell ≡ true → IsCell cell
      → Painted base front None (suc n) pen s
      → Painted base (front ++ as_drawn cell ∷ []) (left_style cell) n (pen_behind cell pen) (after_all (cell_calls base.width (length front) pen cell) s)
  unfolding cell_calls pen_behind
  fresh-step cell front n pen s is holds (q, at, stands) =
      let (erased, style) = fresh-erased cell is in
      let part : cell.part ≡ Empty = erased-part cell erased in
      let none : left_style cell ≡ None = left-none cell (ap is_left part) in
      let drawn : as_drawn cell ≡ blank plain = drawn-erased cell erased holds ∙ ap blank style in
      let cells : front ++ (blank plain ∷ replicate n (blank plain)) ≡ (front ++ as_drawn cell ∷ []) ++ replicate n (blank plain) =
      rw drawn (sym (append_assoc front (blank plain ∷ []) (replicate n (blank plain)))) in
      rw (is, none) (
        q,
        at ∙ ap (λ l. on base l q) cells,
        record { style = stands.style; letter = stands.letter; absolute = stands.absolute; column = stands.column; there = λ e. cc e },
      )

  -- ECH
  erased-step : (cell : Cell) (front : List Cell) (n : ℕ) (pen : Pen) (s : State) → is_fresh cell ≡ false → is_erased cell ≡ true → IsCell cell
      → length front < base.height * base.width
      → Painted base front None (suc n) pen s
      → Painted base (front ++ as_drawn cell ∷ []) (left_style cell) n (pen_behind cell pen) (after_all (cell_calls base.width (length front) pen cell) s)
  unfolding cell_calls pen_behind
  erased-step cell front n pen s other is holds inside (p, at, stands) =
      let part : cell.part ≡ Empty = erased-part cell is in
      let right : is_right cell.part ≡ false = ap is_right part in
      let none : left_style cell ≡ None = left-none cell (ap is_left part) in
      let there : Stands base (length front) pen p = rw (add-none (length front)) at stands in
      let (q, ready_at, ready) = made-ready base some (length front) inside (front ++ (blank plain ∷ replicate n (blank plain))) pen p cell s at there holds.colored in
      let to : List Call = there_calls base.width (length front) pen in
      let styled : List Call = style_calls pen.style cell.style in
      let middle : State = after_all styled (after_all to s) in
      let calls : (after_all (to ++ (styled ++ sequence (1 ∷ []) 0x58 ∷ [])) s).display ≡ (after (sequence (1 ∷ []) 0x58) middle).display =
      ap (λ (e : State). e.display) (after_all-append to (styled ++ sequence (1 ∷ []) 0x58 ∷ []) s ∙ after_all-append styled (sequence (1 ∷ []) 0x58 ∷ []) (after_all to s)) in
      let erased : (after (sequence (1 ∷ []) 0x58) middle).display ≡ on base (front ++ (blank q.style ∷ replicate n (blank plain))) q =
      erase-one base front (replicate n (blank plain)) q (blank plain) middle ready_at ready.there ready.inside refl (right-replicate n 0 (blank plain) refl) in
      let drawn : blank q.style ≡ as_drawn cell = ap blank ready.style_is ∙ sym (drawn-erased cell is holds) in
      let cells : front ++ (blank q.style ∷ replicate n (blank plain)) ≡ (front ++ as_drawn cell ∷ []) ++ replicate n (blank plain) =
      rw drawn (sym (append_assoc front (as_drawn cell ∷ []) (replicate n (blank plain)))) in
      rw (other, right, is, none) (
        q,
        calls ∙ (erased ∙ ap (λ l. on base l q) cells),
        record { style = ready.style_is; letter = ready.letter; absolute = ready.absolute; column = omega (arith, ready.inside); there = λ e. cc e },
      )

  -- a character of one column
  narrow-step : (cell : Cell) (front : List Cell) (n : ℕ) (pen : Pen) (s : State) → is_erased cell ≡ false → is_left cell.part ≡ false → is_right cell.part ≡ false → IsCell cell
      → length front < base.height * base.width
      → Painted base front None (suc n) pen s
      → Painted base (front ++ as_drawn cell ∷ []) (left_style cell) n (pen_behind cell pen) (after_all (cell_calls base.width (length front) pen cell) s)
  unfolding cell_calls pen_behind
  narrow-step cell front n pen s is left right holds inside (p, at, stands) =
      let other : is_fresh cell ≡ false = fresh-not cell is in
      let none : left_style cell ≡ None = left-none cell left in
      let there : Stands base (length front) pen p = rw (add-none (length front)) at stands in
      let (q, ready_at, ready) = made-ready base some (length front) inside (front ++ (blank plain ∷ replicate n (blank plain))) pen p cell s at there holds.colored in
      let to : List Call = there_calls base.width (length front) pen in
      let styled : List Call = style_calls pen.style cell.style in
      let middle : State = after_all styled (after_all to s) in
      let calls : (after_all (to ++ (styled ++ character_calls cell)) s).display ≡ (after_all (character_calls cell) middle).display =
      ap (λ (e : State). e.display) (after_all-append to (styled ++ character_calls cell) s ∙ after_all-append styled (character_calls cell) (after_all to s)) in
      let next : Place = record q { column = q.column + 1 } in
      let room : q.column + 1 ≤ base.width = omega (arith, ready.inside) in
      let printed : (after_all (character_calls cell) middle).display ≡ on base (front ++ (as_printed cell ∷ replicate n (blank plain))) next =
      character-narrow base front (replicate n (blank plain)) q (ap draws ready.letter) replaces unlinked ready.there (right-replicate n 0 (blank plain) refl)
      cell (blank plain) middle ready_at holds left right ready.style_is room refl (none-at _ (replicate (suc n) (blank plain)) (none-blanks (suc n) plain)) in
      let cells : front ++ (as_printed cell ∷ replicate n (blank plain)) ≡ (front ++ as_drawn cell ∷ []) ++ replicate n (blank plain) =
      rw (drawn-printed cell is) (sym (append_assoc front (as_printed cell ∷ []) (replicate n (blank plain)))) in
      rw (other, right, is, none) (
        next,
        calls ∙ (printed ∙ ap (λ l. on base l next) cells),
        record {
          style = ready.style_is;
          letter = ready.letter;
          absolute = ready.absolute;
          column = room;
          there = λ e. omega (arith, ready.there, length-append front (as_drawn cell ∷ []));
        },
      )

  -- a character of two
  wide-step : (cell : Cell) (front : List Cell) (n : ℕ) (pen : Pen) (s : State) → is_erased cell ≡ false → is_left cell.part ≡ true → is_right cell.part ≡ false → IsCell cell
      → length front < base.height * base.width → ((length front + 1) % base.width ≡ 0 → ⊥)
      → Painted base front None (suc (suc n)) pen s
      → Painted base (front ++ as_drawn cell ∷ []) (left_style cell) (suc n) (pen_behind cell pen) (after_all (cell_calls base.width (length front) pen cell) s)
  unfolding cell_calls pen_behind
  wide-step cell front n pen s is left right holds inside row (p, at, stands) =
      let other : is_fresh cell ≡ false = fresh-not cell is in
      let there : Stands base (length front) pen p = rw (add-none (length front)) at stands in
      let (q, ready_at, ready) = made-ready base some (length front) inside (front ++ (blank plain ∷ (blank plain ∷ replicate n (blank plain)))) pen p cell s at there holds.colored in
      let to : List Call = there_calls base.width (length front) pen in
      let styled : List Call = style_calls pen.style cell.style in
      let middle : State = after_all styled (after_all to s) in
      let calls : (after_all (to ++ (styled ++ character_calls cell)) s).display ≡ (after_all (character_calls cell) middle).display =
      ap (λ (e : State). e.display) (after_all-append to (styled ++ character_calls cell) s ∙ after_all-append styled (character_calls cell) (after_all to s)) in
      let next : Place = record q { column = q.column + 2 } in
      let room : q.column + 2 ≤ base.width = two-columns q.row q.column base.width (length front) _ refl some ready.inside ready.there row in
      let right_half : Cell = plain_cell 0x20 cell.style Right in
      let printed : (after_all (character_calls cell) middle).display ≡ on base (front ++ (as_printed cell ∷ (right_half ∷ replicate n (blank plain)))) next =
      character-wide base front (replicate n (blank plain)) q (ap draws ready.letter) replaces unlinked ready.there (right-replicate n 0 (blank plain) refl)
      cell (blank plain) (blank plain) middle ready_at holds (left-of cell.part left) ready.style_is room refl (none-at _ (replicate (suc (suc n)) (blank plain)) (none-blanks (suc (suc n)) plain)) in
      let cells : front ++ (as_printed cell ∷ (right_half ∷ replicate n (blank plain))) ≡ (front ++ as_drawn cell ∷ []) ++ (right_half ∷ replicate n (blank plain)) =
      rw (drawn-printed cell is) (sym (append_assoc front (as_printed cell ∷ []) (right_half ∷ replicate n (blank plain)))) in
      rw (other, right, is, left) (
        next,
        calls ∙ (printed ∙ ap (λ l. on base l next) cells),
        record {
          style = ready.style_is;
          letter = ready.letter;
          absolute = ready.absolute;
          column = room;
          there = λ e. omega (arith, ready.there, length-append front (as_drawn cell ∷ []));
        },
      )

  -- a right half came with its left one
  right-step : (cell : Cell) (style : Style) (front : List Cell) (n : ℕ) (pen : Pen) (s : State) → cell.part ≡ Right → cell.style ≡ style → IsCell cell
      → Painted base front (Some style) (suc n) pen s
      → Painted base (front ++ as_drawn cell ∷ []) (left_style cell) n (pen_behind cell pen) (after_all (cell_calls base.width (length front) pen cell) s)
  unfolding cell_calls pen_behind
  right-step cell style front n pen s part same holds (q, at, stands) =
      let erased : is_erased cell ≡ false = right-erased cell part in
      let other : is_fresh cell ≡ false = fresh-not cell erased in
      let right : is_right cell.part ≡ true = ap is_right part in
      let none : left_style cell ≡ None = left-none cell (ap is_left part) in
      let drawn : as_drawn cell ≡ plain_cell 0x20 style Right = drawn-printed cell erased ∙ right-half cell part same holds in
      let cells : front ++ (plain_cell 0x20 style Right ∷ replicate n (blank plain)) ≡ (front ++ as_drawn cell ∷ []) ++ replicate n (blank plain) =
      rw drawn (sym (append_assoc front (plain_cell 0x20 style Right ∷ []) (replicate n (blank plain)))) in
      rw (other, right, none) (
        q,
        at ∙ ap (λ l. on base l q) cells,
        record {
          style = stands.style;
          letter = stands.letter;
          absolute = stands.absolute;
          column = stands.column;
          there = λ e. stands.there e ∙ omega (arith, length-append front (as_drawn cell ∷ []));
        },
      )

-- what a left half awaits
right-of : (part : Part) → is_right part ≡ true → part ≡ Right
right-of Empty is = cc is
right-of Whole is = cc is
right-of Left is = cc is
right-of Right is = refl

pub half-of_at : (cell : Cell) (style : Style) (t : Bool) → is_right cell.part ≡ t → right_style cell ≡ Some style → (cell.part ≡ Right) × (cell.style ≡ style)
half-of_at cell style true is half =
    let some : right_style cell ≡ Some cell.style = rw is refl in
    let same : Some cell.style ≡ Some style = sym some ∙ half in
    (right-of cell.part is, cc)
half-of_at cell style false is half =
    let none : right_style cell ≡ None = right-none cell is in
    cc

shifted-place : (n i next : ℕ) → next ≡ suc n → n + suc i ≡ next + i
shifted-place n i next is = omega arith

pub left-some : (cell : Cell) → is_left cell.part ≡ true → left_style cell ≡ Some cell.style
left-some cell is = rw is refl

module _ (base : Display) (some : 0 < base.width) (replaces : base.inserts ≡ false) (unlinked : base.link ≡ 0) where
  -- any cell
  abbrev NextPainted : Cell → List Cell → List Cell → Pen → State → Type 0
  NextPainted cell cells front pen s =
      Painted base (front ++ as_drawn cell ∷ []) (left_style cell) (length cells) (pen_behind cell pen) (after_all (cell_calls base.width (length front) pen cell) s)

  step-wide : (cell : Cell) (cells front : List Cell) (pen : Pen) (s : State) → is_erased cell ≡ false → is_left cell.part ≡ true
      → ArePaired None (cell ∷ cells) → IsCell cell → length front < base.height * base.width
      → ((length front + 1) % base.width ≡ 0 → is_right (cell_at 1 (cell ∷ cells)).part ≡ false)
      → Painted base front None (suc (length cells)) pen s → NextPainted cell cells front pen s
  step-wide cell [] front pen s is left are holds inside row painted =
      let half : left_style cell ≡ Some cell.style = left-some cell left in
      let none : left_style cell ≡ None = are.1 in
      cc
  step-wide cell (x ∷ cells) front pen s is left are holds inside row painted =
      wide-step base some replaces unlinked cell front (length cells) pen s is left (none-right cell are.0) holds inside
      (λ ends.
      let free : right_style x ≡ None = right-none x (row ends) in
      let half : right_style x ≡ Some cell.style = are.1.0 ∙ left-some cell left in
      cc)
      painted

  step : (cell : Cell) (cells front : List Cell) (behind : Option Style) (pen : Pen) (s : State) (t u v : Bool) → is_fresh cell ≡ t → is_erased cell ≡ u → is_left cell.part ≡ v
      → ArePaired behind (cell ∷ cells) → IsCell cell → length front < base.height * base.width
      → ((length front + 1) % base.width ≡ 0 → is_right (cell_at 1 (cell ∷ cells)).part ≡ false)
      → Painted base front behind (suc (length cells)) pen s → NextPainted cell cells front pen s
  step cell cells front None pen s true u v fresh erased left are holds inside row painted = fresh-step base some replaces unlinked cell front (length cells) pen s fresh holds painted
  step cell cells front None pen s false true v fresh erased left are holds inside row painted =
      erased-step base some replaces unlinked cell front (length cells) pen s fresh erased holds inside painted
  step cell cells front None pen s false false false fresh erased left are holds inside row painted =
      narrow-step base some replaces unlinked cell front (length cells) pen s erased left (none-right cell are.0) holds inside painted
  step cell cells front None pen s false false true fresh erased left are holds inside row painted =
      step-wide cell cells front pen s erased left are holds inside row painted
  step cell cells front (Some style) pen s t u v fresh erased left are holds inside row painted =
      let half = half-of_at cell style _ refl are.0 in
      right-step base some replaces unlinked cell style front (length cells) pen s half.0 half.1 holds painted

  -- all of them
  pub paint : (cells front : List Cell) (behind : Option Style) (pen : Pen) (s : State) → ArePaired behind cells → AreCells cells
      → length front + length cells ≡ base.height * base.width
      → ((i : ℕ) → (length front + i) % base.width ≡ 0 → is_right (cell_at i cells).part ≡ false)
      → Painted base front behind (length cells) pen s
      → (q : Place) × ((after_all (cells_calls base.width (length front) pen cells) s).display ≡ on base (front ++ map as_drawn cells) q)
  paint [] front None pen s are holds fill rows (q, at, stands) = (q, at)
  paint [] front (Some style) pen s are holds fill rows painted = cc are
  paint (cell ∷ cells) front behind pen s are holds fill rows painted =
      let next : List Cell = front ++ as_drawn cell ∷ [] in
      let calls : List Call = cell_calls base.width (length front) pen cell in
      let long : length next ≡ suc (length front) = omega (arith, length-append front (as_drawn cell ∷ [])) in
      let one : NextPainted cell cells front pen s = step cell cells front behind pen s _ _ _ refl refl refl are holds.0 (omega arith) (rows 1) painted in
      let (q, at) = paint cells next (left_style cell) (pen_behind cell pen) (after_all calls s) are.1 holds.1 (omega arith)
      (λ i begins. rows (suc i) (ap (λ k. k % base.width) (shifted-place (length front) i (length next) long) ∙ begins)) one in (
        q,
        ap (λ (e : State). e.display) (after_all-append calls (cells_calls base.width (suc (length front)) (pen_behind cell pen) cells) s)
            ∙ (ap (λ k. (after_all (cells_calls base.width k (pen_behind cell pen) cells) (after_all calls s)).display) (sym long)
            ∙ (at ∙ ap (λ l. on base l q) (append_assoc front (as_drawn cell ∷ []) (map as_drawn cells)))),
      )
