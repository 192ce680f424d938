-- A row is drawn where it differs, whatever is not.
use Rattle.std.proofs.Common.{◌≡◌, ℕ, zero, suc, ◌+◌, ◌-◌, ◌*◌, ◌<◌, ◌≤◌, Bool, true, false, List, [], ◌∷◌, ◌++◌, length, take, drop, refl, ap, sym, ◌∙◌, arith, append_assoc, length-append}
use Rattle.std.specs.Prelude.{⊤, ◌&&◌, ◌||◌, nat_lt, nat_eq, map, replicate, if◌then◌else◌, Option, None, Some}
use Rattle.std.proofs.lemmas.Bool.{lt-ltb}
use Rattle.std.proofs.lemmas.List.{length-map}
use borrow.Author.Tests.{eqb-true}
use Rattle.anstyle_parse.specs.Stream.Call.{Call}
use Rattle.ansi_style.specs.declared.style.Style.{Style}
use Rattle.ansi_style.specs.Style.{are_equal}
use Rattle.ansi_style.proofs.EqualityLemmas.{are_equal-same}
use Rattle.ansi_screen.specs.declared.cell.Cell.{Cell}
use Rattle.ansi_screen.specs.declared.cell.Part.{Part}
use Rattle.ansi_screen.specs.declared.cell.Part.TheVariants.{Empty, Whole, Left, Right}
use Rattle.ansi_screen.specs.declared.place.Place.{Place}
use Rattle.ansi_screen.specs.Cells.{plain_cell, blank, is_right, cell_at}
use Rattle.ansi_screen.specs.Display.{Display}
use Rattle.ansi_screen.specs.Print.{draws}
use Rattle.ansi_screen.specs.After.{State, after, after_all}
use Rattle.ansi_screen.specs.Reachable.{is_left, left_style, ArePaired, HasColors, IsCell, AreCells}
use Rattle.ansi_screen.proofs.PairLemmas.{none-right, left-none, paired-first, right-not-left}
use Rattle.ansi_screen.proofs.LawLemmas.{after_all-append}
use Rattle.screen_draw.specs.declared.changes.Brush.{Brush}
use Rattle.screen_draw.specs.Draw.{is_erased, sequence, position, select, style_calls, character_calls}
use Rattle.screen_draw.specs.Redrawn.{as_printed, as_drawn}
use Rattle.screen_draw.specs.Alike.{are_alike}
use Rattle.screen_draw.specs.Update.{move_calls, erased_run, erased_columns, is_done, change_calls, half_columns, brush_behind, row_calls, brush_after}
use Rattle.screen_draw.proofs.AlikeLemmas.{Same, alike-same, alike-drawn}
use Rattle.screen_draw.proofs.BrokenLemmas.{mended, first_mended, own_style, broken, mended-free, mended-none, mended-same, mended-first, mended-append}
use Rattle.screen_draw.proofs.CanvasLemmas.{on, after-position, after-style}
use Rattle.screen_draw.proofs.PaintLemmas.{over-narrow, over-wide, erase-run, erased-part, drawn-erased, drawn-printed, drawn-none, all-drawn_none, front-none}
use Rattle.screen_draw.proofs.ScreenLemmas.{right-half, right-erased, half-of_at, left-some, left-of}
use Rattle.screen_draw.proofs.RestLemmas.{after-column}
use Rattle.screen_draw.proofs.CursorLemmas.{left-erased, drawn-right, first-drawn}

-- What stands behind the cells that are drawn: so many that are erased already, and then the old ones. Where the first
-- of these is a right half that has lost its left one, it is a space in the style that `lost` gives it.
abbrev pub covered : (Cell → Style) → ℕ → Style → List Cell → List Cell
covered lost zero style olds = first_mended lost (map as_drawn olds)
covered lost (suc n) style [] = []
covered lost (suc n) style (x ∷ xs) = blank style ∷ covered lost n style xs

-- and before them the right half of the last one
abbrev pub standing : (Cell → Style) → Option Style → ℕ → Style → List Cell → List Cell
standing lost None n style olds = covered lost n style olds
standing lost (Some half) n style [] = []
standing lost (Some half) n style (x ∷ xs) = plain_cell 0x20 half Right ∷ covered lost n style xs

-- nothing is erased already behind a left half
abbrev pub Awaits : Option Style → ℕ → Type 0
Awaits None n = ⊤
Awaits (Some half) n = n ≡ 0

-- old cells that stay
kept-behind : (lost : Cell → Style) (behind : Option Style) (style : Style) (xs : List Cell) → ArePaired behind xs → AreCells xs
    → standing lost behind 0 style xs ≡ map as_drawn xs
kept-behind lost None style xs are holds = mended-first lost (map as_drawn xs) (first-drawn xs (paired-first xs are))
kept-behind lost (Some half) style [] are holds = cc are
kept-behind lost (Some half) style (y ∷ ys) are holds =
    let pair = half-of_at y half _ refl are.0 in
    let not_left : is_left y.part ≡ false = right-not-left y.part (ap is_right pair.0) in
    let none : left_style y ≡ None = left-none y not_left in
    let paired : ArePaired None ys = rw none at are.1 in
    let drawn : as_drawn y ≡ plain_cell 0x20 half Right = drawn-printed y (right-erased y pair.0) ∙ right-half y pair.0 pair.1 holds.0 in
    rw (sym drawn) (ap (λ l. as_drawn y ∷ l) (mended-first lost (map as_drawn ys) (first-drawn ys (paired-first ys paired))))

-- the first of a run
record FirstOf (n : ℕ) (style : Style) (cell : Cell) (cells : List Cell) : Type 0 where
  pub erased : is_erased cell ≡ true
  pub style_is : cell.style ≡ style
  pub others : n ≤ erased_run style cells

run_at : (n : ℕ) (style : Style) (cell : Cell) (cells : List Cell) (t u : Bool) → is_erased cell ≡ t → are_equal cell.style style ≡ u
    → suc n ≤ (if t && u then suc (erased_run style cells) else 0) → FirstOf n style cell cells
run_at n style cell cells true true erased same enough = record { erased = erased; style_is = are_equal-same cell.style style same; others = omega arith }
run_at n style cell cells true false erased same enough = absurd (omega arith)
run_at n style cell cells false u erased same enough = absurd (omega arith)

run-first : (n : ℕ) (style : Style) (cell : Cell) (cells : List Cell) → suc n ≤ erased_run style (cell ∷ cells) → FirstOf n style cell cells
run-first n style cell cells enough = run_at n style cell cells _ _ refl refl enough

run-long_at : (style : Style) (cell : Cell) (cells : List Cell) (t : Bool) → erased_run style cells ≤ length cells
    → (if t then suc (erased_run style cells) else 0) ≤ suc (length cells)
run-long_at style cell cells true long = omega arith
run-long_at style cell cells false long = omega arith

run-long : (style : Style) (cells : List Cell) → erased_run style cells ≤ length cells
run-long style [] = omega arith
run-long style (cell ∷ cells) = run-long_at style cell cells (is_erased cell && are_equal cell.style style) (run-long style cells)

-- those that are erased at once
covered-is : (n : ℕ) (style : Style) (xs back : List Cell) → n ≤ length xs → is_right (cell_at 0 back).part ≡ false
    → covered own_style n style xs ++ back ≡ replicate n (blank style) ++ broken (map as_drawn (drop n xs) ++ back)
covered-is zero style xs back long free = sym (mended-append own_style (map as_drawn xs) back free)
covered-is (suc n) style [] back long free = absurd (omega arith)
covered-is (suc n) style (x ∷ xs) back long free = ap (λ l. blank style ∷ l) (covered-is n style xs back (omega arith) free)

-- and with them a right half behind
abbrev erased_style : Style → Cell → Style
erased_style style x = (blank style).style

covered-half : (n : ℕ) (style : Style) (behind : Option Style) (xs back : List Cell) → is_right (cell_at n xs).part ≡ true → ArePaired behind xs
    → is_right (cell_at 0 back).part ≡ false
    → covered (erased_style style) n style xs ++ back ≡ replicate (suc n) (blank style) ++ broken (map as_drawn (drop (suc n) xs) ++ back)
covered-half zero style behind [] back half are free = cc half
covered-half zero style behind (x ∷ xs) back half are free =
    let drawn : is_right (as_drawn x).part ≡ true = drawn-right x _ refl ∙ half in
    let none : left_style x ≡ None = left-none x (right-not-left x.part half) in
    let paired : ArePaired None xs = rw none at are.1 in
    let rest : broken (map as_drawn xs ++ back) ≡ map as_drawn xs ++ back =
    mended-append own_style (map as_drawn xs) back free ∙ ap (λ l. l ++ back) (mended-first own_style (map as_drawn xs) (first-drawn xs (paired-first xs paired))) in
    rw drawn (ap (λ l. blank style ∷ l) (sym rest))
covered-half (suc n) style behind [] back half are free = cc half
covered-half (suc n) style behind (x ∷ xs) back half are free = ap (λ l. blank style ∷ l) (covered-half n style (left_style x) xs back half are.1 free)

half-within : (n : ℕ) (xs : List Cell) → is_right (cell_at n xs).part ≡ true → n < length xs
half-within zero [] half = cc half
half-within zero (x ∷ xs) half = omega arith
half-within (suc n) [] half = cc half
half-within (suc n) (x ∷ xs) half = omega (arith, half-within n xs half)

drawn-split : (n : ℕ) (xs : List Cell) → map as_drawn xs ≡ map as_drawn (take n xs) ++ map as_drawn (drop n xs)
drawn-split zero xs = refl
drawn-split (suc n) [] = refl
drawn-split (suc n) (x ∷ xs) = ap (λ l. as_drawn x ∷ l) (drawn-split n xs)

drawn-long : (n : ℕ) (xs : List Cell) → n ≤ length xs → length (map as_drawn (take n xs)) ≡ n
drawn-long zero xs long = refl
drawn-long (suc n) [] long = absurd (omega arith)
drawn-long (suc n) (x ∷ xs) long = ap suc (drawn-long n xs (omega arith))

-- the cursor goes to a column of a row, wherever it stands
move_at : (base : Display) (cells : List Cell) (place : Place) (row column : ℕ) (s : State) (t u : Bool) → nat_eq place.row row ≡ t → nat_eq place.column column ≡ u
    → s.display ≡ on base cells place → place.is_relative ≡ false → row < base.height → column < base.width
    → (after_all (if t then (if u then [] else sequence ((column + 1) ∷ []) 0x47 ∷ []) else position row column ∷ []) s).display ≡ on base cells (record place { row = row; column = column })
move_at base cells place row column s true true same there is absolute below inside =
    is ∙ (ap (λ r. on base cells (record place { row = r })) (eqb-true place.row row same) ∙ ap (λ k. on base cells (record place { row = row; column = k })) (eqb-true place.column column there))
move_at base cells place row column s true false same there is absolute below inside =
    after-column column base cells place s is inside ∙ ap (λ r. on base cells (record place { row = r; column = column })) (eqb-true place.row row same)
move_at base cells place row column s false u same there is absolute below inside =
    let relative : s.display.cursor.is_relative ≡ false = ap (λ (d : Display). d.cursor.is_relative) is ∙ absolute in
    let width : s.display.width ≡ base.width = ap (λ (d : Display). d.width) is in
    let height : s.display.height ≡ base.height = ap (λ (d : Display). d.height) is in
    after-position row row column s (rw relative refl) (rw height below) (rw width inside)
    ∙ ap (λ (d : Display). record d { cursor = record d.cursor { row = row; column = column } }) is

pub after-move : (base : Display) (cells : List Cell) (place : Place) (row column : ℕ) (s : State)
    → s.display ≡ on base cells place → place.is_relative ≡ false → row < base.height → column < base.width
    → (after_all (move_calls place row column) s).display ≡ on base cells (record place { row = row; column = column })
unfolding move_calls
after-move base cells place row column s is absolute below inside = move_at base cells place row column s _ _ refl refl is absolute below inside

style_at : (base : Display) (cells : List Cell) (place : Place) (wanted : Style) (s : State) (t : Bool) → are_equal place.style wanted ≡ t → HasColors wanted
    → s.display ≡ on base cells place → (after_all (if t then [] else select wanted ∷ []) s).display ≡ on base cells (record place { style = wanted })
style_at base cells place wanted s true same colored is = is ∙ ap (λ (k : Style). on base cells (record place { style = k })) (are_equal-same place.style wanted same)
style_at base cells place wanted s false same colored is = after-style wanted s colored ∙ ap (λ (d : Display). record d { cursor = record d.cursor { style = wanted } }) is

pub after-style_change : (base : Display) (cells : List Cell) (place : Place) (wanted : Style) (s : State) → HasColors wanted → s.display ≡ on base cells place
    → (after_all (style_calls place.style wanted) s).display ≡ on base cells (record place { style = wanted })
after-style_change base cells place wanted s colored is = style_at base cells place wanted s _ refl colored is

one-column : (part : Part) → is_left part ≡ false → half_columns part ≡ 1
one-column Empty is = refl
one-column Whole is = refl
one-column Left is = cc is
one-column Right is = refl

module _ (base : Display) (row : ℕ) (below : row < base.height) (replaces : base.inserts ≡ false) (unlinked : base.link ≡ 0) (back : List Cell)
    (free_back : is_right (cell_at 0 back).part ≡ false) where
  abbrev pub Painted : List Cell → Option Style → Place → ℕ → List Cell → State → Type 0
  Painted front behind place n olds s =
      (lost : Cell → Style) × (s.display ≡ on base (front ++ (standing lost behind n place.style olds ++ back)) place)

  abbrev pub brush : Place → ℕ → Brush
  brush place n = record { place = place; erased = n }

  -- what one cell leaves
  abbrev Next : ℕ → Place → ℕ → Cell → Cell → List Cell → List Cell → List Cell → State → Type 0
  Next column place n old new olds news front s =
      let next : Brush = brush_behind row column (brush place n) old new news in
      Painted (front ++ as_drawn new ∷ []) (left_style new) next.place next.erased olds (after_all (change_calls row column (brush place n) old new olds news) s)

  -- erased with the cells before it
  step-erased : (column : ℕ) (place : Place) (n : ℕ) (old new : Cell) (olds news front : List Cell) (s : State) → IsCell new → suc n ≤ erased_run place.style (new ∷ news)
      → Painted front None place (suc n) (old ∷ olds) s → Next column place (suc n) old new olds news front s
  unfolding change_calls brush_behind is_done
  step-erased column place n old new olds news front s holds enough (lost, is) =
      let first : FirstOf n place.style new news = run-first n place.style new news enough in
      let some : nat_lt 0 (suc n) ≡ true = lt-ltb 0 (suc n) (omega arith) in
      let none : left_style new ≡ None = left-none new (ap is_left (erased-part new first.erased)) in
      let drawn : as_drawn new ≡ blank place.style = drawn-erased new first.erased holds ∙ ap blank first.style_is in
      let less : suc n - 1 ≡ n = omega arith in
      rw (some, none, less) (
        lost,
        is
            ∙ ap (λ l. on base l place)
            (rw (sym drawn) (sym (append_assoc front (as_drawn new ∷ []) (covered lost n place.style olds ++ back)))),
      )

  -- a right half came with its left one
  step-right : (column : ℕ) (place : Place) (half : Style) (old new : Cell) (olds news front : List Cell) (s : State) → IsCell new → new.part ≡ Right → new.style ≡ half
      → Painted front (Some half) place 0 (old ∷ olds) s → Next column place 0 old new olds news front s
  unfolding change_calls brush_behind is_done
  step-right column place half old new olds news front s holds part same (lost, is) =
      let right : is_right new.part ≡ true = ap is_right part in
      let none : left_style new ≡ None = left-none new (ap is_left part) in
      let drawn : as_drawn new ≡ plain_cell 0x20 half Right = drawn-printed new (right-erased new part) ∙ right-half new part same holds in
      rw (right, none) (
        lost,
        is
            ∙ ap (λ l. on base l place)
            (rw (sym drawn) (sym (append_assoc front (as_drawn new ∷ []) (covered lost 0 place.style olds ++ back)))),
      )

  -- a cell that stays
  step-kept : (column : ℕ) (place : Place) (old new : Cell) (olds news front : List Cell) (s : State) → is_right new.part ≡ false → are_alike old new ≡ true
      → ArePaired (left_style old) olds → AreCells olds
      → Painted front None place 0 (old ∷ olds) s → Next column place 0 old new olds news front s
  unfolding change_calls brush_behind is_done
  step-kept column place old new olds news front s right alike are holds (lost, is) =
      let same : Same old new = alike-same old new alike in
      let drawn : as_drawn old ≡ as_drawn new = alike-drawn old new alike in
      let free : is_right (as_drawn old).part ≡ false = drawn-right old _ refl ∙ (ap is_right same.part ∙ right) in
      let half : left_style old ≡ left_style new =
      ap (λ (p : Part). if is_left p then Some old.style else None) same.part ∙ ap (λ (t : Style). if is_left new.part then Some t else None) same.style in
      let behind : standing lost (left_style new) 0 place.style olds ≡ map as_drawn olds =
      ap (λ h. standing lost h 0 place.style olds) (sym half) ∙ kept-behind lost (left_style old) place.style olds are holds in
      let cells : front ++ ((mended lost (as_drawn old) ∷ map as_drawn olds) ++ back) ≡ (front ++ as_drawn new ∷ []) ++ (standing lost (left_style new) 0 place.style olds ++ back) =
      ap (λ x. front ++ ((x ∷ map as_drawn olds) ++ back)) (mended-same lost (as_drawn old) free ∙ drawn)
      ∙ (sym (append_assoc front (as_drawn new ∷ []) (map as_drawn olds ++ back)) ∙ ap (λ l. (front ++ as_drawn new ∷ []) ++ (l ++ back)) (sym behind)) in
      rw (right, alike) (lost, is ∙ ap (λ l. on base l place) cells)

  -- to a cell that differs, in its style
  made-at : (column : ℕ) (place : Place) (cells : List Cell) (new : Cell) (s : State) → place.is_relative ≡ false → column < base.width → HasColors new.style
      → s.display ≡ on base cells place
      → (after_all (style_calls place.style new.style) (after_all (move_calls place row column) s)).display ≡ on base cells (record place { row = row; column = column; style = new.style })
  made-at column place cells new s absolute inside colored is =
      after-style_change base cells (record place { row = row; column = column }) new.style (after_all (move_calls place row column) s) colored
      (after-move base cells place row column s is absolute below inside)

  calls-are : (column : ℕ) (place : Place) (new : Cell) (painted : List Call) (s : State)
      → after_all (move_calls place row column ++ (style_calls place.style new.style ++ painted)) s
      ≡ after_all painted (after_all (style_calls place.style new.style) (after_all (move_calls place row column) s))
  calls-are column place new painted s =
      after_all-append (move_calls place row column) (style_calls place.style new.style ++ painted) s
      ∙ after_all-append (style_calls place.style new.style) painted (after_all (move_calls place row column) s)

  -- ECH of a cell and some of those behind it
  erase-front : (m : ℕ) (first : Cell) (olds front : List Cell) (q : Place) (s : State) → m ≤ length olds → is_right first.part ≡ false
      → q.row * base.width + q.column ≡ length front → q.column + suc (length olds) ≤ base.width
      → s.display ≡ on base (front ++ ((first ∷ map as_drawn olds) ++ back)) q
      → (after (sequence (suc m ∷ []) 0x58) s).display ≡ on base (front ++ (replicate (suc m) (blank q.style) ++ broken (map as_drawn (drop m olds) ++ back))) q
  erase-front m first olds front q s enough free there room is =
      let run : List Cell = map as_drawn (take m olds) in
      let rest : List Cell = map as_drawn (drop m olds) ++ back in
      let long_run : length run ≡ m = drawn-long m olds enough in
      let cells : front ++ ((first ∷ map as_drawn olds) ++ back) ≡ front ++ ((first ∷ run) ++ rest) =
      ap (λ l. front ++ ((first ∷ l) ++ back)) (drawn-split m olds) ∙ ap (λ l. front ++ (first ∷ l)) (append_assoc run (map as_drawn (drop m olds)) back) in
      ap (λ n. (after (sequence (suc n ∷ []) 0x58) s).display) (sym long_run)
      ∙ (erase-run base front first run rest q s (is ∙ ap (λ l. on base l q) cells) there (omega arith) free
      ∙ ap (λ n. on base (front ++ (replicate (suc n) (blank q.style) ++ broken rest)) q) long_run)

  -- with the right half behind them
  erase-columns : (k : ℕ) (behind : Option Style) (first : Cell) (olds front : List Cell) (q : Place) (s : State) (t : Bool) → is_right (cell_at k olds).part ≡ t
      → ArePaired behind olds → k ≤ length olds → is_right first.part ≡ false → q.row * base.width + q.column ≡ length front → q.column + suc (length olds) ≤ base.width
      → s.display ≡ on base (front ++ ((first ∷ map as_drawn olds) ++ back)) q
      → (lost : Cell → Style) × ((after (sequence ((if t then suc (suc k) else suc k) ∷ []) 0x58) s).display
      ≡ on base (front ++ (blank q.style ∷ (covered lost k q.style olds ++ back))) q)
  erase-columns k behind first olds front q s true half are enough free there room is = (
    erased_style q.style,
    erase-front (suc k) first olds front q s (half-within k olds half) free there room is
        ∙ ap (λ l. on base (front ++ (blank q.style ∷ l)) q) (sym (covered-half k q.style behind olds back half are free_back)),
  )
  erase-columns k behind first olds front q s false half are enough free there room is = (
    own_style,
    erase-front k first olds front q s enough free there room is
        ∙ ap (λ l. on base (front ++ (blank q.style ∷ l)) q) (sym (covered-is k q.style olds back enough free_back)),
  )

  -- a run of erased cells
  step-run : (column : ℕ) (place : Place) (old new : Cell) (olds news front : List Cell) (s : State) → IsCell new
      → is_right new.part ≡ false → are_alike old new ≡ false → is_erased new ≡ true → place.is_relative ≡ false → ArePaired (left_style old) olds
      → length olds ≡ length news → column + suc (length news) ≡ base.width → row * base.width + column ≡ length front
      → Painted front None place 0 (old ∷ olds) s → Next column place 0 old new olds news front s
  unfolding change_calls brush_behind is_done
  step-run column place old new olds news front s holds right differs erased absolute pairs long fits there (lost, is) =
      let k : ℕ = erased_run new.style news in
      let painted : List Call = sequence (erased_columns new.style olds news ∷ []) 0x58 ∷ [] in
      let q : Place = record place { row = row; column = column; style = new.style } in
      let middle : State = after_all (style_calls place.style new.style) (after_all (move_calls place row column) s) in
      let first : Cell = mended lost (as_drawn old) in
      let ready : middle.display ≡ on base (front ++ ((first ∷ map as_drawn olds) ++ back)) q =
      made-at column place (front ++ ((first ∷ map as_drawn olds) ++ back)) new s absolute (omega arith) holds.colored is in
      let (left, gone) = erase-columns k (left_style old) first olds front q middle _ refl pairs (omega (arith, run-long new.style news)) (mended-free lost (as_drawn old))
      there (omega arith) ready in
      let none : left_style new ≡ None = left-none new (ap is_left (erased-part new erased)) in
      let drawn : as_drawn new ≡ blank new.style = drawn-erased new erased holds in
      let done : front ++ (blank new.style ∷ (covered left k new.style olds ++ back)) ≡ (front ++ as_drawn new ∷ []) ++ (covered left k new.style olds ++ back) =
      ap (λ x. front ++ (x ∷ (covered left k new.style olds ++ back))) (sym drawn) ∙ sym (append_assoc front (as_drawn new ∷ []) (covered left k new.style olds ++ back)) in
      let all : (after_all (move_calls place row column ++ (style_calls place.style new.style ++ painted)) s).display
      ≡ on base ((front ++ as_drawn new ∷ []) ++ (covered left k new.style olds ++ back)) q =
      ap (λ (e : State). e.display) (calls-are column place new painted s) ∙ (gone ∙ ap (λ l. on base l q) done) in
      rw (right, differs, erased, none) (left, all)

  -- a character of one column
  step-narrow : (column : ℕ) (place : Place) (old new : Cell) (olds news front : List Cell) (s : State) → IsCell new
      → is_right new.part ≡ false → are_alike old new ≡ false → is_erased new ≡ false → is_left new.part ≡ false → place.is_relative ≡ false → draws place.charsets ≡ false
      → length olds ≡ length news → column + suc (length news) ≡ base.width → row * base.width + column ≡ length front
      → Painted front None place 0 (old ∷ olds) s → Next column place 0 old new olds news front s
  unfolding change_calls brush_behind is_done
  step-narrow column place old new olds news front s holds right differs erased left absolute letter long fits there (lost, is) =
      let q : Place = record place { row = row; column = column; style = new.style } in
      let next : Place = record q { column = column + 1 } in
      let middle : State = after_all (style_calls place.style new.style) (after_all (move_calls place row column) s) in
      let first : Cell = mended lost (as_drawn old) in
      let rest : List Cell = map as_drawn olds ++ back in
      let ready : middle.display ≡ on base (front ++ (first ∷ rest)) q =
      made-at column place (front ++ (first ∷ rest)) new s absolute (omega arith) holds.colored is in
      let printed : (after_all (character_calls new) middle).display ≡ on base (front ++ (as_printed new ∷ broken rest)) next =
      over-narrow base front rest q letter replaces unlinked there new first middle ready holds left right refl (omega arith) (mended-free lost (as_drawn old))
      (front-none (first ∷ map as_drawn olds) back _ (mended-none lost (as_drawn old) (drawn-none old), all-drawn_none olds) (omega (arith, long, fits, length-map olds as_drawn))) in
      let none : left_style new ≡ None = left-none new left in
      let one : half_columns new.part ≡ 1 = one-column new.part left in
      let done : front ++ (as_printed new ∷ broken rest) ≡ (front ++ as_drawn new ∷ []) ++ (covered own_style 0 new.style olds ++ back) =
      ap (λ l. front ++ (as_printed new ∷ l)) (mended-append own_style (map as_drawn olds) back free_back)
      ∙ (ap (λ x. front ++ (x ∷ (covered own_style 0 new.style olds ++ back))) (sym (drawn-printed new erased))
      ∙ sym (append_assoc front (as_drawn new ∷ []) (covered own_style 0 new.style olds ++ back))) in
      let all : (after_all (move_calls place row column ++ (style_calls place.style new.style ++ character_calls new)) s).display
      ≡ on base ((front ++ as_drawn new ∷ []) ++ (covered own_style 0 new.style olds ++ back)) next =
      ap (λ (e : State). e.display) (calls-are column place new (character_calls new) s) ∙ (printed ∙ ap (λ l. on base l next) done) in
      rw (right, differs, erased, none, one) (own_style, all)

  -- a character of two
  step-wide : (column : ℕ) (place : Place) (old new other : Cell) (olds news front : List Cell) (s : State) → IsCell new
      → are_alike old new ≡ false → new.part ≡ Left → place.is_relative ≡ false → draws place.charsets ≡ false
      → length olds ≡ length news → column + suc (suc (length news)) ≡ base.width → row * base.width + column ≡ length front → (mate : Cell)
      → Painted front None place 0 (old ∷ (other ∷ olds)) s → Next column place 0 old new (other ∷ olds) (mate ∷ news) front s
  unfolding change_calls brush_behind is_done
  step-wide column place old new other olds news front s holds differs left absolute letter long fits there mate (lost, is) =
      let q : Place = record place { row = row; column = column; style = new.style } in
      let next : Place = record q { column = column + 2 } in
      let middle : State = after_all (style_calls place.style new.style) (after_all (move_calls place row column) s) in
      let first : Cell = mended lost (as_drawn old) in
      let rest : List Cell = map as_drawn olds ++ back in
      let half : Cell = plain_cell 0x20 new.style Right in
      let ready : middle.display ≡ on base (front ++ (first ∷ (as_drawn other ∷ rest))) q =
      made-at column place (front ++ (first ∷ (as_drawn other ∷ rest))) new s absolute (omega arith) holds.colored is in
      let printed : (after_all (character_calls new) middle).display ≡ on base (front ++ (as_printed new ∷ (half ∷ broken rest))) next =
      over-wide base front rest q letter replaces unlinked there new first (as_drawn other) middle ready holds left refl (omega arith) (mended-free lost (as_drawn old))
      (front-none (first ∷ (as_drawn other ∷ map as_drawn olds)) back _ (mended-none lost (as_drawn old) (drawn-none old), (drawn-none other, all-drawn_none olds))
      (omega (arith, long, fits, length-map olds as_drawn))) in
      let right : is_right new.part ≡ false = ap is_right left in
      let is_half : is_left new.part ≡ true = ap is_left left in
      let erased : is_erased new ≡ false = left-erased new left in
      let some : left_style new ≡ Some new.style = left-some new is_half in
      let two : half_columns new.part ≡ 2 = ap half_columns left in
      let done : front ++ (as_printed new ∷ (half ∷ broken rest)) ≡ (front ++ as_drawn new ∷ []) ++ ((half ∷ covered own_style 0 new.style olds) ++ back) =
      ap (λ l. front ++ (as_printed new ∷ (half ∷ l))) (mended-append own_style (map as_drawn olds) back free_back)
      ∙ (ap (λ x. front ++ (x ∷ (half ∷ (covered own_style 0 new.style olds ++ back)))) (sym (drawn-printed new erased))
      ∙ sym (append_assoc front (as_drawn new ∷ []) (half ∷ (covered own_style 0 new.style olds ++ back)))) in
      let all : (after_all (move_calls place row column ++ (style_calls place.style new.style ++ character_calls new)) s).display
      ≡ on base ((front ++ as_drawn new ∷ []) ++ ((half ∷ covered own_style 0 new.style olds) ++ back)) next =
      ap (λ (e : State). e.display) (calls-are column place new (character_calls new) s) ∙ (printed ∙ ap (λ l. on base l next) done) in
      rw (right, differs, erased, some, two) (own_style, all)

  -- whatever the cell
  pub record IsBrush (behind : Option Style) (place : Place) (n : ℕ) (news : List Cell) : Type 0 where
    pub awaits : Awaits behind n
    pub enough : n ≤ erased_run place.style news
    pub absolute : place.is_relative ≡ false
    pub letter : draws place.charsets ≡ false

  pub record Fits (column : ℕ) (olds news front : List Cell) : Type 0 where
    pub long : length olds ≡ length news
    pub wide : column + length news ≡ base.width
    pub there : row * base.width + column ≡ length front

  draw-wide : (column : ℕ) (place : Place) (old new : Cell) (olds news front : List Cell) (s : State) → IsCell new → new.part ≡ Left → are_alike old new ≡ false
      → ArePaired (left_style new) news → IsBrush None place 0 (new ∷ news) → Fits column (old ∷ olds) (new ∷ news) front
      → Painted front None place 0 (old ∷ olds) s → Next column place 0 old new olds news front s
  draw-wide column place old new olds [] front s holds left differs are made fits is =
      let some : left_style new ≡ Some new.style = left-some new (ap is_left left) in
      let none : left_style new ≡ None = are in
      cc
  draw-wide column place old new [] (mate ∷ news) front s holds left differs are made fits is = absurd (omega (arith, fits.long))
  draw-wide column place old new (other ∷ olds) (mate ∷ news) front s holds left differs are made fits is =
      step-wide column place old new other olds news front s holds differs left made.absolute made.letter (omega (arith, fits.long)) fits.wide fits.there mate is

  step : (column : ℕ) (behind : Option Style) (place : Place) (n : ℕ) (old new : Cell) (olds news front : List Cell) (s : State) (t u v : Bool)
      → are_alike old new ≡ t → is_erased new ≡ u → is_left new.part ≡ v → IsCell new → ArePaired behind (new ∷ news) → ArePaired (left_style old) olds → AreCells olds
      → IsBrush behind place n (new ∷ news) → Fits column (old ∷ olds) (new ∷ news) front
      → Painted front behind place n (old ∷ olds) s → Next column place n old new olds news front s
  step column (Some half) place (suc n) old new olds news front s t u v alike erased left holds are pairs whole made fits is = let none : suc n ≡ 0 = made.awaits in absurd (omega arith)
  step column (Some half) place zero old new olds news front s t u v alike erased left holds are pairs whole made fits is =
      let pair = half-of_at new half _ refl are.0 in
      step-right column place half old new olds news front s holds pair.0 pair.1 is
  step column None place (suc n) old new olds news front s t u v alike erased left holds are pairs whole made fits is =
      step-erased column place n old new olds news front s holds made.enough is
  step column None place zero old new olds news front s true u v alike erased left holds are pairs whole made fits is =
      step-kept column place old new olds news front s (none-right new are.0) alike pairs whole is
  step column None place zero old new olds news front s false true v alike erased left holds are pairs whole made fits is =
      step-run column place old new olds news front s holds (none-right new are.0) alike erased made.absolute pairs (omega (arith, fits.long)) fits.wide fits.there is
  step column None place zero old new olds news front s false false false alike erased left holds are pairs whole made fits is =
      step-narrow column place old new olds news front s holds (none-right new are.0) alike erased left made.absolute made.letter (omega (arith, fits.long)) fits.wide fits.there is
  step column None place zero old new olds news front s false false true alike erased left holds are pairs whole made fits is =
      draw-wide column place old new olds news front s holds (left-of new.part left) alike are.1 made fits is

  -- the brush behind it
  awaits-none : (behind : Option Style) → Awaits behind 0
  awaits-none None = tt
  awaits-none (Some half) = refl

  next-awaits : (behind : Option Style) (n : ℕ) → (n ≡ 0 → ⊥) → behind ≡ None → Awaits behind n
  next-awaits None n some none = tt
  next-awaits (Some half) n some none = cc none

  next_at : (column : ℕ) (place : Place) (new : Cell) (news : List Cell) (t u : Bool) → is_erased new ≡ u → place.is_relative ≡ false → draws place.charsets ≡ false
      → let next : Brush = if t then brush place 0
      else if u then record { place = record place { row = row; column = column; style = new.style }; erased = erased_run new.style news }
      else record { place = record place { row = row; column = column + half_columns new.part; style = new.style }; erased = 0 } in
      IsBrush (left_style new) next.place next.erased news
  next_at column place new news true u erased absolute letter = record { awaits = awaits-none (left_style new); enough = omega arith; absolute = absolute; letter = letter }
  next_at column place new news false true erased absolute letter =
      let none : left_style new ≡ None = left-none new (ap is_left (erased-part new erased)) in
      record { awaits = rw none tt; enough = omega arith; absolute = absolute; letter = letter }
  next_at column place new news false false erased absolute letter = record { awaits = awaits-none (left_style new); enough = omega arith; absolute = absolute; letter = letter }

  next-brush : (column : ℕ) (behind : Option Style) (place : Place) (n : ℕ) (old new : Cell) (news : List Cell) → IsBrush behind place n (new ∷ news)
      → let next : Brush = brush_behind row column (brush place n) old new news in IsBrush (left_style new) next.place next.erased news
  unfolding brush_behind is_done
  next-brush column behind place zero old new news made = next_at column place new news (is_right new.part || are_alike old new) _ refl made.absolute made.letter
  next-brush column behind place (suc n) old new news made =
      let first : FirstOf n place.style new news = run-first n place.style new news made.enough in
      let some : nat_lt 0 (suc n) ≡ true = lt-ltb 0 (suc n) (omega arith) in
      let less : suc n - 1 ≡ n = omega arith in
      let none : left_style new ≡ None = left-none new (ap is_left (erased-part new first.erased)) in
      rw (some, less, none) (record { awaits = tt; enough = first.others; absolute = made.absolute; letter = made.letter })

  covered-none : (lost : Cell → Style) (n : ℕ) (style : Style) → covered lost n style [] ≡ []
  covered-none lost zero style = refl
  covered-none lost (suc n) style = refl

  -- the whole row
  pub paint-row : (olds news front : List Cell) (column : ℕ) (behind old_behind : Option Style) (place : Place) (n : ℕ) (s : State)
      → ArePaired behind news → AreCells news → ArePaired old_behind olds → AreCells olds
      → IsBrush behind place n news → Fits column olds news front → Painted front behind place n olds s
      → (after_all (row_calls row column (brush place n) olds news) s).display
      ≡ on base (front ++ (map as_drawn news ++ back)) (brush_after row column (brush place n) olds news).place
  paint-row [] [] front column None old_behind place n s are holds pairs whole made fits (lost, is) =
      is ∙ ap (λ l. on base (front ++ (l ++ back)) place) (covered-none lost n place.style)
  paint-row [] [] front column (Some half) old_behind place n s are holds pairs whole made fits is = cc are
  paint-row [] (new ∷ news) front column behind old_behind place n s are holds pairs whole made fits is = absurd (omega (arith, fits.long))
  paint-row (old ∷ olds) [] front column behind old_behind place n s are holds pairs whole made fits is = absurd (omega (arith, fits.long))
  paint-row (old ∷ olds) (new ∷ news) front column behind old_behind place n s are holds pairs whole made fits is =
      let next : Brush = brush_behind row column (brush place n) old new news in
      let calls : List Call = change_calls row column (brush place n) old new olds news in
      let more : List Cell = front ++ as_drawn new ∷ [] in
      let one : Next column place n old new olds news front s =
      step column behind place n old new olds news front s _ _ _ refl refl refl holds.0 are pairs.1 whole.1 made fits is in
      let others : Fits (suc column) olds news more = record {
        long = omega (arith, fits.long);
        wide = omega (arith, fits.wide);
        there = omega (arith, fits.there, length-append front (as_drawn new ∷ []));
      } in
      let all : (after_all (row_calls row (suc column) next olds news) (after_all calls s)).display ≡ on base (more ++ (map as_drawn news ++ back)) (brush_after row (suc column) next olds news).place =
      paint-row olds news more (suc column) (left_style new) (left_style old) next.place next.erased (after_all calls s) are.1 holds.1 pairs.1 whole.1
      (next-brush column behind place n old new news made) others one in
      ap (λ (e : State). e.display) (after_all-append calls (row_calls row (suc column) next olds news) s)
      ∙ (all ∙ ap (λ l. on base l (brush_after row (suc column) next olds news).place) (append_assoc front (as_drawn new ∷ []) (map as_drawn news ++ back)))

-- the sets and the origin mode stay
pub record Keeps (p q : Place) : Type 0 where
  pub sets : q.charsets ≡ p.charsets
  pub origin : q.is_relative ≡ p.is_relative

keeps_at : (row column : ℕ) (b : Brush) (new : Cell) (news : List Cell) (t u : Bool)
    → Keeps b.place (if t then record b { erased = b.erased - 1 }
    else if u then record { place = record b.place { row = row; column = column; style = new.style }; erased = erased_run new.style news }
    else record { place = record b.place { row = row; column = column + half_columns new.part; style = new.style }; erased = 0 }).place
keeps_at row column b new news true u = record { sets = refl; origin = refl }
keeps_at row column b new news false true = record { sets = refl; origin = refl }
keeps_at row column b new news false false = record { sets = refl; origin = refl }

keeps-behind : (row column : ℕ) (b : Brush) (old new : Cell) (news : List Cell) → Keeps b.place (brush_behind row column b old new news).place
unfolding brush_behind
keeps-behind row column b old new news = keeps_at row column b new news (is_done b old new) (is_erased new)

pub keeps-row : (row column : ℕ) (b : Brush) (olds news : List Cell) → Keeps b.place (brush_after row column b olds news).place
keeps-row row column b [] news = record { sets = refl; origin = refl }
keeps-row row column b (old ∷ olds) [] = record { sets = refl; origin = refl }
keeps-row row column b (old ∷ olds) (new ∷ news) =
    let first : Keeps b.place (brush_behind row column b old new news).place = keeps-behind row column b old new news in
    let others = keeps-row row (suc column) (brush_behind row column b old new news) olds news in
    record { sets = others.sets ∙ first.sets; origin = others.origin ∙ first.origin }
