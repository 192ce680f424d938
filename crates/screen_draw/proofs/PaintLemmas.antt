-- Cells that are drawn one after another: the screen shows those so far, and blanks behind.
use Rattle.std.proofs.Common.{◌≡◌, ℕ, zero, suc, ◌+◌, ◌-◌, ◌*◌, ◌<◌, ◌≤◌, Bool, true, false, List, [], ◌∷◌, ◌++◌, length, refl, ap, sym, ◌∙◌, arith}
use Rattle.std.specs.Prelude.{◌&&◌, replicate, map, if◌then◌else◌}
use Rattle.std.proofs.lemmas.Bool.{and_parts}
use Rattle.std.proofs.lemmas.List.{get_or-append_right, get_or_append_left}
use Rattle.anstyle_parse.specs.Stream.Call.{print}
use Rattle.anstyle_parse.specs.Stream.Bytes.{is_within}
use Rattle.ansi_style.specs.declared.style.Style.{Style}
use Rattle.ansi_style.specs.Style.{plain, are_equal}
use Rattle.ansi_style.proofs.EqualityLemmas.{are_equal-same}
use Rattle.ansi_screen.specs.declared.cell.Cell.{Cell}
use Rattle.ansi_screen.specs.declared.cell.Marks.{Marks}
use Rattle.ansi_screen.specs.declared.cell.Marks.TheVariants.{Unmarked, One, Two}
use Rattle.ansi_screen.specs.declared.cell.Part.{Part}
use Rattle.ansi_screen.specs.declared.cell.Part.TheVariants.{Empty, Whole, Left, Right}
use Rattle.ansi_screen.specs.declared.place.Place.{Place}
use Rattle.ansi_screen.specs.Cells.{plain_cell, printed_cell, blank, is_right, cell_at, marked_before, with_mark, erased, going_on}
use Rattle.ansi_screen.specs.Display.{Display, here}
use Rattle.ansi_screen.specs.Edits.{with_cells, erased_cells}
use Rattle.ansi_screen.specs.Text.{is_unmarked}
use Rattle.ansi_screen.specs.Widths.{is_shown, columns, is_among}
use Rattle.ansi_screen.specs.Print.{glyph, with_cells_of, with_glyph, draws}
use Rattle.ansi_screen.specs.After.{State, after, after_all}
use Rattle.ansi_screen.specs.Reachable.{is_left, FitsPart, IsMark, AreMarks, IsCell}
use Rattle.ansi_screen.proofs.GoingLemmas.{going-none, NoneGoesOn, none-at}
use Rattle.screen_draw.specs.Draw.{is_empty, is_erased, is_fresh, drawn_character, marks_calls, character_calls, sequence}
use Rattle.screen_draw.specs.Redrawn.{printed_part, as_printed, as_drawn}
use Rattle.screen_draw.proofs.BrokenLemmas.{own_style, broken, mended-none, mended-first, change-broken}
use Rattle.screen_draw.proofs.CanvasLemmas.{on, at-front, set-front, change-front, after-print, after-mark, after-erase, after-erase_run}

-- what is shown is drawn as it is
pub drawn-same : (c : ℕ) → is_shown c ≡ true → drawn_character c ≡ c
unfolding drawn_character
drawn-same c is = rw is refl

pub space-shown : is_shown 0x20 ≡ true
unfolding is_shown is_within
space-shown = refl

pub space-one : columns 0x20 ≡ 1
unfolding columns is_among
space-one = refl

fits-one : (part : Part) (c : ℕ) (marks : Marks) → is_left part ≡ false → is_right part ≡ false → FitsPart part c marks → columns c ≡ 1
fits-one Empty c marks left right fits = ap columns fits ∙ space-one
fits-one Whole c marks left right fits = fits
fits-one Left c marks left right fits = cc left
fits-one Right c marks left right fits = cc right

printed-whole : (part : Part) → is_left part ≡ false → is_right part ≡ false → printed_part part ≡ Whole
printed-whole Empty left right = refl
printed-whole Whole left right = refl
printed-whole Left left right = cc left
printed-whole Right left right = cc right

-- where a mark goes
abbrev mark_at : ℕ → List Cell → ℕ
mark_at place cells = if is_right (cell_at (place - 1) cells).part then place - 2 else place - 1

marked-front : (mark place : ℕ) (front back : List Cell) (x : Cell) → mark_at place (front ++ (x ∷ back)) ≡ length front
    → marked_before mark place (front ++ (x ∷ back)) ≡ front ++ (with_mark mark x ∷ back)
unfolding marked_before
marked-front mark place front back x is =
    let there : cell_at (length front) (front ++ (x ∷ back)) ≡ x = at-front front (x ∷ back) 0 (length front) (omega arith) in
    rw (is, there) (set-front front back x (with_mark mark x))

module _ (base : Display) (front back : List Cell) (p : Place) (letter : draws p.charsets ≡ false) (some : 1 ≤ p.column) where
  one-mark : (mark : ℕ) (x : Cell) (s : State) → s.display ≡ on base (front ++ (x ∷ back)) p → IsMark mark
      → mark_at (p.row * base.width + p.column) (front ++ (x ∷ back)) ≡ length front
      → (after (print (drawn_character mark)) s).display ≡ on base (front ++ (with_mark mark x ∷ back)) p
  one-mark mark x s is shows there =
      let letters_there : draws s.display.cursor.charsets ≡ false = ap (λ (d : Display). draws d.cursor.charsets) is ∙ letter in
      let column : s.display.cursor.column ≡ p.column = ap (λ (d : Display). d.cursor.column) is in
      ap (λ c. (after (print c) s).display) (drawn-same mark shows.0)
      ∙ (after-mark mark s shows.0 letters_there shows.1 (rw column some)
      ∙ (ap (λ (d : Display). with_cells (marked_before mark (here d) d.cells) d) is
      ∙ ap (λ cells. on base cells p) (marked-front mark (p.row * base.width + p.column) front back x there)))

  after-marks : (marks : Marks) (x : Cell) (s : State) → s.display ≡ on base (front ++ (x ∷ back)) p → x.marks ≡ Unmarked → AreMarks marks
      → ((y : Cell) → y.part ≡ x.part → mark_at (p.row * base.width + p.column) (front ++ (y ∷ back)) ≡ length front)
      → (after_all (marks_calls marks) s).display ≡ on base (front ++ (record x { marks = marks } ∷ back)) p
  after-marks Unmarked x s is bare are there = is ∙ ap (λ m. on base (front ++ (record x { marks = m } ∷ back)) p) bare
  after-marks (One first) x s is bare are there =
      one-mark first x s is are (there x refl)
      ∙ ap (λ m. on base (front ++ (with_mark first (record x { marks = m }) ∷ back)) p) bare
  after-marks (Two first second) x s is bare are there =
      let begun : (after (print (drawn_character first)) s).display ≡ on base (front ++ (record x { marks = One first } ∷ back)) p =
      one-mark first x s is are.0 (there x refl)
      ∙ ap (λ m. on base (front ++ (with_mark first (record x { marks = m }) ∷ back)) p) bare in
      one-mark second (record x { marks = One first }) (after (print (drawn_character first)) s) begun are.1 (there (record x { marks = One first }) refl)

-- A row says in its last cell whether it goes on: where this is one of those from a place on,
row-last : (row column width : ℕ) (front rest : List Cell) → row * width + column ≡ length front → column < width
    → cell_at (row * width + width - 1) (front ++ rest) ≡ cell_at (width - 1 - column) rest
row-last row column width front rest there inside =
    get_or-append_right front rest (length front) (row * width + width - 1) (blank plain) refl (omega (arith, there, inside))
    ∙ ap (λ k. cell_at k rest) (omega (arith, there, inside))

-- and does not, no other that is painted does.
broken-none : (k : ℕ) (xs : List Cell) → (cell_at k xs).goes_on ≡ false → (cell_at k (broken xs)).goes_on ≡ false
broken-none k [] none = refl
broken-none zero (x ∷ xs) none = mended-none own_style x none
broken-none (suc k) (x ∷ xs) none = none

painted-none : (k : ℕ) (x old : Cell) (back : List Cell) → x.goes_on ≡ false → (cell_at k (old ∷ back)).goes_on ≡ false
    → (cell_at k (x ∷ broken back)).goes_on ≡ false
painted-none zero x old back is none = is
painted-none (suc k) x old back is none = broken-none k back none

painted-none_two : (k : ℕ) (x y a b : Cell) (back : List Cell) → x.goes_on ≡ false → y.goes_on ≡ false → (cell_at k (a ∷ (b ∷ back))).goes_on ≡ false
    → (cell_at k (x ∷ (y ∷ broken back))).goes_on ≡ false
painted-none_two zero x y a b back is also none = is
painted-none_two (suc k) x y a b back is also none = painted-none k y b back also none

-- a character on blanks, or over what it was
module _ (base : Display) (front back : List Cell) (p : Place) (letter : draws p.charsets ≡ false) (replaces : base.inserts ≡ false) (unlinked : base.link ≡ 0)
    (there : p.row * base.width + p.column ≡ length front) where
  after-narrow : (c : ℕ) (old : Cell) (s : State) → s.display ≡ on base (front ++ (old ∷ back)) p → is_shown c ≡ true → columns c ≡ 1
      → p.column + 1 ≤ base.width → is_right old.part ≡ false → (cell_at (base.width - 1 - p.column) (old ∷ back)).goes_on ≡ false
      → (after (print (drawn_character c)) s).display ≡ on base (front ++ (plain_cell c p.style Whole ∷ broken back)) (record p { column = p.column + 1 })
  unfolding with_glyph with_cells_of
  after-narrow c old s is shows wide room free none =
      let letters_there : draws s.display.cursor.charsets ≡ false = ap (λ (d : Display). draws d.cursor.charsets) is ∙ letter in
      let column : s.display.cursor.column ≡ p.column = ap (λ (d : Display). d.cursor.column) is in
      let width : s.display.width ≡ base.width = ap (λ (d : Display). d.width) is in
      let inserts : s.display.inserts ≡ false = ap (λ (d : Display). d.inserts) is ∙ replaces in
      let ends : ℕ = p.row * base.width + base.width in
      let says : Bool = (cell_at (ends - 1) (front ++ (old ∷ back))).goes_on in
      let x : Cell = printed_cell c p.style base.link Whole in
      let before : says ≡ false = ap (λ (z : Cell). z.goes_on) (row-last p.row p.column base.width front (old ∷ back) there (omega arith)) ∙ none in
      let painted : (cell_at (ends - 1) (front ++ (x ∷ broken back))).goes_on ≡ false =
      ap (λ (z : Cell). z.goes_on) (row-last p.row p.column base.width front (x ∷ broken back) there (omega arith))
      ∙ painted-none (base.width - 1 - p.column) x old back refl none in
      ap (λ k. (after (print k) s).display) (drawn-same c shows)
      ∙ (after-print c 1 s shows letters_there wide (omega arith) (rw (column, width) room) inserts
      ∙ (ap (with_glyph 1 c) is
      ∙ (rw there (ap (λ cells. on base (going_on says ends cells) (record p { column = p.column + 1 }))
      (change-broken front old [] back (λ run. glyph 1 c p.style base.link) (glyph 1 c p.style base.link) free (λ mid long. refl))
      ∙ ap (λ cells. on base cells (record p { column = p.column + 1 })) (going-none ends (front ++ (old ∷ back)) (front ++ (x ∷ broken back)) before painted))
      ∙ ap (λ link. on base (front ++ (glyph 1 c p.style link ++ broken back)) (record p { column = p.column + 1 })) unlinked)))

  after-wide : (c : ℕ) (a b : Cell) (s : State) → s.display ≡ on base (front ++ (a ∷ (b ∷ back))) p → is_shown c ≡ true → columns c ≡ 2
      → p.column + 2 ≤ base.width → is_right a.part ≡ false → (cell_at (base.width - 1 - p.column) (a ∷ (b ∷ back))).goes_on ≡ false
      → (after (print (drawn_character c)) s).display
      ≡ on base (front ++ (plain_cell c p.style Left ∷ (plain_cell 0x20 p.style Right ∷ broken back))) (record p { column = p.column + 2 })
  unfolding with_glyph with_cells_of
  after-wide c a b s is shows wide room free none =
      let letters_there : draws s.display.cursor.charsets ≡ false = ap (λ (d : Display). draws d.cursor.charsets) is ∙ letter in
      let column : s.display.cursor.column ≡ p.column = ap (λ (d : Display). d.cursor.column) is in
      let width : s.display.width ≡ base.width = ap (λ (d : Display). d.width) is in
      let inserts : s.display.inserts ≡ false = ap (λ (d : Display). d.inserts) is ∙ replaces in
      let ends : ℕ = p.row * base.width + base.width in
      let says : Bool = (cell_at (ends - 1) (front ++ (a ∷ (b ∷ back)))).goes_on in
      let x : Cell = printed_cell c p.style base.link Left in
      let y : Cell = printed_cell 0x20 p.style base.link Right in
      let before : says ≡ false = ap (λ (z : Cell). z.goes_on) (row-last p.row p.column base.width front (a ∷ (b ∷ back)) there (omega arith)) ∙ none in
      let painted : (cell_at (ends - 1) (front ++ (x ∷ (y ∷ broken back)))).goes_on ≡ false =
      ap (λ (z : Cell). z.goes_on) (row-last p.row p.column base.width front (x ∷ (y ∷ broken back)) there (omega arith))
      ∙ painted-none_two (base.width - 1 - p.column) x y a b back refl refl none in
      ap (λ k. (after (print k) s).display) (drawn-same c shows)
      ∙ (after-print c 2 s shows letters_there wide (omega arith) (rw (column, width) room) inserts
      ∙ (ap (with_glyph 2 c) is
      ∙ (rw there (ap (λ cells. on base (going_on says ends cells) (record p { column = p.column + 2 }))
      (change-broken front a (b ∷ []) back (λ run. glyph 2 c p.style base.link) (glyph 2 c p.style base.link) free (λ mid long. refl))
      ∙ ap (λ cells. on base cells (record p { column = p.column + 2 })) (going-none ends (front ++ (a ∷ (b ∷ back))) (front ++ (x ∷ (y ∷ broken back))) before painted))
      ∙ ap (λ link. on base (front ++ (glyph 2 c p.style link ++ broken back)) (record p { column = p.column + 2 })) unlinked)))

  -- a cell's character with its marks
  pub over-narrow : (cell old : Cell) (s : State) → s.display ≡ on base (front ++ (old ∷ back)) p → IsCell cell
      → is_left cell.part ≡ false → is_right cell.part ≡ false → p.style ≡ cell.style → p.column + 1 ≤ base.width → is_right old.part ≡ false
      → (cell_at (base.width - 1 - p.column) (old ∷ back)).goes_on ≡ false
      → (after_all (character_calls cell) s).display ≡ on base (front ++ (as_printed cell ∷ broken back)) (record p { column = p.column + 1 })
  over-narrow cell old s is holds left right style room free none =
      let next : Place = record p { column = p.column + 1 } in
      let printed : (after (print (drawn_character cell.character)) s).display ≡ on base (front ++ (plain_cell cell.character p.style Whole ∷ broken back)) next =
      after-narrow cell.character old s is holds.shown (fits-one cell.part cell.character cell.marks left right holds.fits) room free none in
      let before : p.row * base.width + (p.column + 1) - 1 ≡ length front = omega arith in
      after-marks base front (broken back) next letter (omega arith) cell.marks (plain_cell cell.character p.style Whole) (after (print (drawn_character cell.character)) s)
      printed refl holds.marked
      (λ y same.
      let here_is : cell_at (p.row * base.width + (p.column + 1) - 1) (front ++ (y ∷ broken back)) ≡ y = at-front front (y ∷ broken back) 0 _ (omega arith) in
      let whole : is_right y.part ≡ false = ap is_right same in
      rw (here_is, whole) before)
      ∙ (ap (λ (t : Style). on base (front ++ (record (plain_cell cell.character t Whole) { marks = cell.marks } ∷ broken back)) next) style
      ∙ ap (λ (k : Part). on base (front ++ (record (plain_cell cell.character cell.style k) { marks = cell.marks } ∷ broken back)) next)
      (sym (printed-whole cell.part left right)))

  pub over-wide : (cell a b : Cell) (s : State) → s.display ≡ on base (front ++ (a ∷ (b ∷ back))) p → IsCell cell
      → cell.part ≡ Left → p.style ≡ cell.style → p.column + 2 ≤ base.width → is_right a.part ≡ false
      → (cell_at (base.width - 1 - p.column) (a ∷ (b ∷ back))).goes_on ≡ false
      → (after_all (character_calls cell) s).display
      ≡ on base (front ++ (as_printed cell ∷ (plain_cell 0x20 cell.style Right ∷ broken back))) (record p { column = p.column + 2 })
  over-wide cell a b s is holds left style room free none =
      let next : Place = record p { column = p.column + 2 } in
      let two : columns cell.character ≡ 2 = rw left at holds.fits in
      let behind : List Cell = plain_cell 0x20 p.style Right ∷ broken back in
      let printed : (after (print (drawn_character cell.character)) s).display ≡ on base (front ++ (plain_cell cell.character p.style Left ∷ behind)) next =
      after-wide cell.character a b s is holds.shown two room free none in
      let before : p.row * base.width + (p.column + 2) - 2 ≡ length front = omega arith in
      after-marks base front behind next letter (omega arith) cell.marks (plain_cell cell.character p.style Left) (after (print (drawn_character cell.character)) s)
      printed refl holds.marked
      (λ y same.
      let here_is : cell_at (p.row * base.width + (p.column + 2) - 1) (front ++ (y ∷ behind)) ≡ plain_cell 0x20 p.style Right =
      at-front front (y ∷ behind) 1 _ (omega arith) in
      rw here_is before)
      ∙ (ap (λ (t : Style). on base (front ++ (record (plain_cell cell.character t Left) { marks = cell.marks } ∷ (plain_cell 0x20 t Right ∷ broken back))) next) style
      ∙ ap (λ (k : Part). on base (front ++ (record (plain_cell cell.character cell.style k) { marks = cell.marks } ∷ (plain_cell 0x20 cell.style Right ∷ broken back))) next)
      (sym (ap printed_part left)))

-- the same, where no right half stands behind
module _ (base : Display) (front back : List Cell) (p : Place) (letter : draws p.charsets ≡ false) (replaces : base.inserts ≡ false) (unlinked : base.link ≡ 0)
    (there : p.row * base.width + p.column ≡ length front) (free_end : is_right (cell_at 0 back).part ≡ false) where
  pub character-narrow : (cell old : Cell) (s : State) → s.display ≡ on base (front ++ (old ∷ back)) p → IsCell cell
      → is_left cell.part ≡ false → is_right cell.part ≡ false → p.style ≡ cell.style → p.column + 1 ≤ base.width → is_right old.part ≡ false
      → (cell_at (base.width - 1 - p.column) (old ∷ back)).goes_on ≡ false
      → (after_all (character_calls cell) s).display ≡ on base (front ++ (as_printed cell ∷ back)) (record p { column = p.column + 1 })
  character-narrow cell old s is holds left right style room free none =
      over-narrow base front back p letter replaces unlinked there cell old s is holds left right style room free none
      ∙ ap (λ l. on base (front ++ (as_printed cell ∷ l)) (record p { column = p.column + 1 })) (mended-first own_style back free_end)

  pub character-wide : (cell a b : Cell) (s : State) → s.display ≡ on base (front ++ (a ∷ (b ∷ back))) p → IsCell cell
      → cell.part ≡ Left → p.style ≡ cell.style → p.column + 2 ≤ base.width → is_right a.part ≡ false
      → (cell_at (base.width - 1 - p.column) (a ∷ (b ∷ back))).goes_on ≡ false
      → (after_all (character_calls cell) s).display
      ≡ on base (front ++ (as_printed cell ∷ (plain_cell 0x20 cell.style Right ∷ back))) (record p { column = p.column + 2 })
  character-wide cell a b s is holds left style room free none =
      over-wide base front back p letter replaces unlinked there cell a b s is holds left style room free none
      ∙ ap (λ l. on base (front ++ (as_printed cell ∷ (plain_cell 0x20 cell.style Right ∷ l))) (record p { column = p.column + 2 })) (mended-first own_style back free_end)

-- erased cells, as erasing leaves them
empty-is : (part : Part) → is_empty part ≡ true → part ≡ Empty
empty-is Empty is = refl
empty-is Whole is = cc is
empty-is Left is = cc is
empty-is Right is = cc is

unmarked-is : (marks : Marks) → is_unmarked marks ≡ true → marks ≡ Unmarked
unmarked-is Unmarked is = refl
unmarked-is (One first) is = cc is
unmarked-is (Two first second) is = cc is

pub erased-part : (cell : Cell) → is_erased cell ≡ true → cell.part ≡ Empty
unfolding is_erased
erased-part cell is =
    let parts = and_parts (is_empty cell.part && is_unmarked cell.marks) (are_equal cell.style (blank cell.style).style) is in
    let others = and_parts (is_empty cell.part) (is_unmarked cell.marks) parts.0 in
    empty-is cell.part others.0

pub erased-blank : (cell : Cell) → is_erased cell ≡ true → IsCell cell → record cell { link = 0; goes_on = false } ≡ blank cell.style
unfolding is_erased
erased-blank cell is holds =
    let parts = and_parts (is_empty cell.part && is_unmarked cell.marks) (are_equal cell.style (blank cell.style).style) is in
    let others = and_parts (is_empty cell.part) (is_unmarked cell.marks) parts.0 in
    let part : cell.part ≡ Empty = empty-is cell.part others.0 in
    let marks : cell.marks ≡ Unmarked = unmarked-is cell.marks others.1 in
    let style : cell.style ≡ (blank cell.style).style = are_equal-same cell.style (blank cell.style).style parts.1 in
    let space : cell.character ≡ 0x20 = rw part at holds.fits in
    ap (λ c. record cell { character = c; link = 0; goes_on = false }) space
    ∙ (ap (λ m. record cell { character = 0x20; marks = m; link = 0; goes_on = false }) marks
    ∙ (ap (λ k. record cell { character = 0x20; marks = Unmarked; part = k; link = 0; goes_on = false }) part
    ∙ ap (λ t. record cell { character = 0x20; marks = Unmarked; part = Empty; style = t; link = 0; goes_on = false }) style))

pub drawn-erased : (cell : Cell) → is_erased cell ≡ true → IsCell cell → as_drawn cell ≡ blank cell.style
unfolding as_drawn
drawn-erased cell is holds = rw is (erased-blank cell is holds)

-- no row that is drawn goes on
drawn-none_at : (cell : Cell) (t : Bool) → is_erased cell ≡ t → (as_drawn cell).goes_on ≡ false
unfolding as_drawn
drawn-none_at cell true is = rw is refl
drawn-none_at cell false is = rw is refl

pub drawn-none : (cell : Cell) → (as_drawn cell).goes_on ≡ false
drawn-none cell = drawn-none_at cell _ refl

pub all-drawn_none : (cells : List Cell) → NoneGoesOn (map as_drawn cells)
all-drawn_none [] = tt
all-drawn_none (cell ∷ cells) = (drawn-none cell, all-drawn_none cells)

pub front-none : (cells back : List Cell) (k : ℕ) → NoneGoesOn cells → k < length cells → (cell_at k (cells ++ back)).goes_on ≡ false
front-none cells back k none inside = ap (λ (x : Cell). x.goes_on) (get_or_append_left cells back (blank plain) k inside) ∙ none-at k cells none

pub drawn-printed : (cell : Cell) → is_erased cell ≡ false → as_drawn cell ≡ as_printed cell
unfolding as_drawn
drawn-printed cell is = rw is refl

pub fresh-erased : (cell : Cell) → is_fresh cell ≡ true → (is_erased cell ≡ true) × (cell.style ≡ plain)
unfolding is_fresh
fresh-erased cell is =
    let parts = and_parts (is_erased cell) (are_equal cell.style plain) is in
    (parts.0, are_equal-same cell.style plain parts.1)

-- ECH
pub erase-one : (base : Display) (front back : List Cell) (p : Place) (old : Cell) (s : State) → s.display ≡ on base (front ++ (old ∷ back)) p
    → p.row * base.width + p.column ≡ length front → p.column < base.width → is_right old.part ≡ false → is_right (cell_at 0 back).part ≡ false
    → (after (sequence (1 ∷ []) 0x58) s).display ≡ on base (front ++ (blank p.style ∷ back)) p
erase-one base front back p old s is there inside free free_end =
    let column : s.display.cursor.column ≡ p.column = ap (λ (d : Display). d.cursor.column) is in
    let width : s.display.width ≡ base.width = ap (λ (d : Display). d.width) is in
    after-erase s (rw (column, width) inside)
    ∙ (ap (λ (d : Display). erased_cells (here d) (here d + 1) d) is
    ∙ rw there (ap (λ cells. on base cells p) (change-front front (old ∷ []) back (erased (blank p.style)) free free_end)))

-- ECH of several, the first of which is no right half
pub erase-run : (base : Display) (front : List Cell) (x : Cell) (xs back : List Cell) (p : Place) (s : State) → s.display ≡ on base (front ++ ((x ∷ xs) ++ back)) p
    → p.row * base.width + p.column ≡ length front → p.column + suc (length xs) ≤ base.width → is_right x.part ≡ false
    → (after (sequence (suc (length xs) ∷ []) 0x58) s).display ≡ on base (front ++ (replicate (suc (length xs)) (blank p.style) ++ broken back)) p
erase-run base front x xs back p s is there inside free =
    let column : s.display.cursor.column ≡ p.column = ap (λ (d : Display). d.cursor.column) is in
    let width : s.display.width ≡ base.width = ap (λ (d : Display). d.width) is in
    after-erase_run (length xs) s (rw (column, width) inside)
    ∙ (ap (λ (d : Display). erased_cells (here d) (here d + suc (length xs)) d) is
    ∙ rw there (ap (λ cells. on base cells p)
    (change-broken front x xs back (erased (blank p.style)) (replicate (suc (length xs)) (blank p.style)) free (λ mid long. ap (λ n. replicate n (blank p.style)) long))))
