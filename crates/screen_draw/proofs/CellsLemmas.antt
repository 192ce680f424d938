-- All cells of a screen are drawn on a blank one.
use Rattle.std.proofs.Common.{◌≡◌, ℕ, zero, suc, ◌+◌, ◌*◌, ◌<◌, ◌≤◌, Bool, true, false, List, [], ◌∷◌, refl, ap, ◌∙◌, arith, add-one}
use Rattle.std.specs.Prelude.{◌/◌, ◌%◌, ◌&&◌, not, nat_lt, ◌==◌, replicate, if◌then◌else◌, Option, None, Some}
use Rattle.std.proofs.lemmas.Bool.{and_parts}
use Rattle.std.proofs.lemmas.Nat.{mod-mul-add, div_below, mod_below}
use Rattle.std.proofs.Math.Nat.{suc-mul}
use borrow.Author.Tests.{ltb-true, ltb-false, eqb-false}
use Rattle.ansi_style.specs.declared.style.Style.{Style}
use Rattle.ansi_style.specs.Style.{plain, are_equal}
use Rattle.ansi_style.proofs.EqualityLemmas.{are_equal-same}
use Rattle.ansi_screen.specs.declared.cell.Cell.{Cell}
use Rattle.ansi_screen.specs.declared.cell.Part.TheVariants.{Right}
use Rattle.ansi_screen.specs.declared.place.Place.{Place}
use Rattle.ansi_screen.specs.Cells.{plain_cell, blank}
use Rattle.ansi_screen.specs.Display.{Display, letters}
use Rattle.ansi_screen.specs.After.{State, after, after_all}
use Rattle.ansi_screen.specs.Reachable.{HasColors}
use Rattle.screen_draw.specs.declared.cells.Pen.{Pen}
use Rattle.screen_draw.specs.Draw.{position, select, style_calls, there_calls}
use Rattle.screen_draw.proofs.CanvasLemmas.{on, after-position, after-style}

pub not-true : (t : Bool) → not t ≡ true → t ≡ false
not-true true is = cc is
not-true false is = refl

-- Where the cursor stands while cells are drawn: out of origin mode, in letters, in the pen's style, and, where
-- the pen says so, at a place.
pub record Stands (base : Display) (place : ℕ) (pen : Pen) (p : Place) : Type 0 where
  pub style : p.style ≡ pen.style
  pub letter : p.charsets ≡ letters
  pub absolute : p.is_relative ≡ false
  pub column : p.column ≤ base.width
  pub there : pen.is_there ≡ true → p.row * base.width + p.column ≡ place

-- what stands behind the cells that are drawn: blanks, and before them the right half of the last one
abbrev pub waiting : Option Style → ℕ → List Cell
waiting None n = replicate n (blank plain)
waiting (Some style) zero = []
waiting (Some style) (suc n) = plain_cell 0x20 style Right ∷ replicate n (blank plain)

abbrev pub skipped : Option Style → ℕ
skipped None = 0
skipped (Some style) = 1

-- the cursor goes to a place
module _ (base : Display) (some : 0 < base.width) (place : ℕ) (inside : place < base.height * base.width) where
  parts-of-place : place / base.width * base.width + place % base.width ≡ place
  parts-of-place = omega arith

  pub moved-there : (p : Place) (cells : List Cell) (s : State) → s.display ≡ on base cells p → p.is_relative ≡ false
      → (after (position (place / base.width) (place % base.width)) s).display
      ≡ on base cells (record p { row = place / base.width; column = place % base.width })
  moved-there p cells s is absolute =
      let below : place / base.width < base.height = div_below place base.width base.height some inside in
      let right : place % base.width < base.width = mod_below place base.width some in
      let relative : s.display.cursor.is_relative ≡ false = ap (λ (d : Display). d.cursor.is_relative) is ∙ absolute in
      let width : s.display.width ≡ base.width = ap (λ (d : Display). d.width) is in
      let height : s.display.height ≡ base.height = ap (λ (d : Display). d.height) is in
      after-position (place / base.width) (place / base.width) (place % base.width) s (rw relative refl) (rw height below) (rw width right)
      ∙ ap (λ (d : Display). record d { cursor = record d.cursor { row = place / base.width; column = place % base.width } }) is

-- the cursor stands at a place, in a style
pub record Ready (base : Display) (place : ℕ) (style : Style) (q : Place) : Type 0 where
  pub style_is : q.style ≡ style
  pub letter : q.charsets ≡ letters
  pub absolute : q.is_relative ≡ false
  pub inside : q.column < base.width
  pub there : q.row * base.width + q.column ≡ place

-- where a row ends, the next begins
pub row-ends : (row column width place : ℕ) → 0 < width → row * width + column ≡ place → column ≡ width → place % width ≡ 0
row-ends row column width place some is end =
    let next : place ≡ (row + 1) * width + 0 = omega (arith, suc-mul row width, add-one row) in
    rw next (mod-mul-add (row + 1) width 0 some)

inside-row : (row column width place : ℕ) (t : Bool) → nat_lt column width ≡ t → 0 < width → column ≤ width → row * width + column ≡ place
    → (place % width == 0) ≡ false → column < width
inside-row row column width place true less some fits is other = ltb-true column width less
inside-row row column width place false less some fits is other =
    let past : width ≤ column = ltb-false column width less in
    absurd (eqb-false (place % width) 0 other (row-ends row column width place some is (omega arith)))

module _ (base : Display) (some : 0 < base.width) (place : ℕ) (inside : place < base.height * base.width) (cells : List Cell) where
  there_at : (pen : Pen) (p : Place) (s : State) (t : Bool) → (pen.is_there && not (place % base.width == 0)) ≡ t
      → s.display ≡ on base cells p → Stands base place pen p
      → (q : Place) × ((after_all (if t then [] else position (place / base.width) (place % base.width) ∷ []) s).display ≡ on base cells q) × Ready base place pen.style q
  there_at pen p s true test is stands =
      let parts = and_parts pen.is_there (not (place % base.width == 0)) test in
      let at : p.row * base.width + p.column ≡ place = stands.there parts.0 in (
        p,
        is,
        record {
          style_is = stands.style;
          letter = stands.letter;
          absolute = stands.absolute;
          inside = inside-row p.row p.column base.width place _ refl some stands.column at (not-true (place % base.width == 0) parts.1);
          there = at;
        },
      )
  there_at pen p s false test is stands = (
    record p { row = place / base.width; column = place % base.width },
    moved-there base some place inside p cells s is stands.absolute,
    record {
      style_is = stands.style;
      letter = stands.letter;
      absolute = stands.absolute;
      inside = mod_below place base.width some;
      there = parts-of-place base some place inside;
    },
  )

  style_at : (wanted : Style) (chosen : Style) (q : Place) (s : State) (t : Bool) → are_equal chosen wanted ≡ t → HasColors wanted
      → s.display ≡ on base cells q → Ready base place chosen q
      → (after_all (if t then [] else select wanted ∷ []) s).display ≡ on base cells (record q { style = wanted })
  style_at wanted chosen q s true test colored is ready =
      is ∙ ap (λ (k : Style). on base cells (record q { style = k })) (ready.style_is ∙ are_equal-same chosen wanted test)
  style_at wanted chosen q s false test colored is ready =
      after-style wanted s colored ∙ ap (λ (d : Display). record d { cursor = record d.cursor { style = wanted } }) is

  -- there, in the style of the cell
  pub made-ready : (pen : Pen) (p : Place) (cell : Cell) (s : State) → s.display ≡ on base cells p → Stands base place pen p → HasColors cell.style
      → (q : Place) × ((after_all (style_calls pen.style cell.style) (after_all (there_calls base.width place pen) s)).display ≡ on base cells q) × Ready base place cell.style q
  made-ready pen p cell s is stands colored =
      let (q, at, ready) = there_at pen p s _ refl is stands in (
        record q { style = cell.style },
        style_at cell.style pen.style q (after_all (there_calls base.width place pen) s) _ refl colored at ready,
        record { style_is = refl; letter = ready.letter; absolute = ready.absolute; inside = ready.inside; there = ready.there },
      )
