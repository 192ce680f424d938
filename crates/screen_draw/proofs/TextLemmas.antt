-- A drawing shows the text of the screen: what it can't tell is no part of that.
use Rattle.std.proofs.Common.{◌≡◌, ℕ, zero, suc, ◌*◌, ◌-◌, Bool, true, false, List, [], ◌∷◌, ◌++◌, take, drop, map, set, get_or, refl, ap, ap₂, ◌∙◌, subst}
use Rattle.std.specs.Prelude.{◌==◌, ◌&&◌, not, encode_utf8, if◌then◌else◌, ⊤}
use Rattle.std.specs.List.{flat_map}
use Rattle.ansi_style.specs.Style.{plain}
use Rattle.ansi_screen.specs.declared.cell.Cell.{Cell}
use Rattle.ansi_screen.specs.declared.cell.Part.{Part}
use Rattle.ansi_screen.specs.declared.cell.Part.TheVariants.{Empty, Whole, Left, Right}
use Rattle.ansi_screen.specs.Cells.{is_right, cell_at, blank}
use Rattle.ansi_screen.specs.Display.{Display, row_cells, row_end}
use Rattle.ansi_screen.specs.Text.{marks_text, is_unmarked, is_blank, cell_text, used, row_text, used_rows, rows_text, text_of}
use Rattle.screen_draw.specs.Draw.{is_erased}
use Rattle.screen_draw.specs.Redrawn.{printed_part, as_printed, as_drawn, redrawn}

-- cells of the same text, of which both are blank or neither
pub record HaveOneText (a b : Cell) : Type 0 where
  pub text : cell_text a ≡ cell_text b
  pub blanks : is_blank a ≡ is_blank b

right-printed : (part : Part) → is_right (printed_part part) ≡ is_right part
right-printed Empty = refl
right-printed Whole = refl
right-printed Left = refl
right-printed Right = refl

printed-text : (cell : Cell) → cell_text (as_printed cell) ≡ cell_text cell
unfolding cell_text
printed-text cell = ap (λ (right : Bool). if right then [] else encode_utf8 cell.character ++ marks_text cell.marks) (right-printed cell.part)

printed-blank : (cell : Cell) → is_blank (as_printed cell) ≡ is_blank cell
unfolding is_blank
printed-blank cell = ap (λ (right : Bool). cell.character == 0x20 && not right && is_unmarked cell.marks) (right-printed cell.part)

one-printed : (cell : Cell) → HaveOneText (as_printed cell) cell
one-printed cell = record { text = printed-text cell; blanks = printed-blank cell }

erased-text : (cell : Cell) → cell_text (record cell { link = 0; goes_on = false }) ≡ cell_text cell
unfolding cell_text
erased-text cell = refl

erased-blank : (cell : Cell) → is_blank (record cell { link = 0; goes_on = false }) ≡ is_blank cell
unfolding is_blank
erased-blank cell = refl

drawn-by : (cell : Cell) (erased : Bool) → HaveOneText (if erased then record cell { link = 0; goes_on = false } else as_printed cell) cell
drawn-by cell true = record { text = erased-text cell; blanks = erased-blank cell }
drawn-by cell false = one-printed cell

one-drawn : (cell : Cell) → HaveOneText (as_drawn cell) cell
unfolding as_drawn
one-drawn cell = drawn-by cell (is_erased cell)

-- the same of two lists, cell by cell
abbrev pub HaveTexts : List Cell → List Cell → Type 0
HaveTexts [] [] = ⊤
HaveTexts (x ∷ xs) (y ∷ ys) = HaveOneText x y × HaveTexts xs ys
HaveTexts xs ys = ⊥

texts-drawn : (cells : List Cell) → HaveTexts (map as_drawn cells) cells
texts-drawn [] = tt
texts-drawn (cell ∷ cells) = (one-drawn cell, texts-drawn cells)

texts-set : (xs ys : List Cell) (i : ℕ) (cell : Cell) → HaveTexts xs ys → HaveOneText cell (get_or ys i (blank plain)) → HaveTexts (set xs i cell) ys
texts-set [] [] i cell texts one = tt
texts-set [] (y ∷ ys) i cell texts one = absurd texts
texts-set (x ∷ xs) [] i cell texts one = absurd texts
texts-set (x ∷ xs) (y ∷ ys) zero cell texts one = (one, texts.1)
texts-set (x ∷ xs) (y ∷ ys) (suc i) cell texts one = (texts.0, texts-set xs ys i cell texts.1 one)

texts-take : (n : ℕ) (xs ys : List Cell) → HaveTexts xs ys → HaveTexts (take n xs) (take n ys)
texts-take zero xs ys texts = tt
texts-take (suc n) [] [] texts = tt
texts-take (suc n) [] (y ∷ ys) texts = absurd texts
texts-take (suc n) (x ∷ xs) [] texts = absurd texts
texts-take (suc n) (x ∷ xs) (y ∷ ys) texts = (texts.0, texts-take n xs ys texts.1)

texts-drop : (n : ℕ) (xs ys : List Cell) → HaveTexts xs ys → HaveTexts (drop n xs) (drop n ys)
texts-drop zero xs ys texts = texts
texts-drop (suc n) [] [] texts = tt
texts-drop (suc n) [] (y ∷ ys) texts = absurd texts
texts-drop (suc n) (x ∷ xs) [] texts = absurd texts
texts-drop (suc n) (x ∷ xs) (y ∷ ys) texts = texts-drop n xs ys texts.1

-- as many of them come up to the last that is not blank, and their text is the same
used-same : (xs ys : List Cell) → HaveTexts xs ys → used is_blank xs ≡ used is_blank ys
used-same [] [] texts = refl
used-same [] (y ∷ ys) texts = absurd texts
used-same (x ∷ xs) [] texts = absurd texts
used-same (x ∷ xs) (y ∷ ys) texts = ap₂ (λ (n : ℕ) (blanks : Bool). if n == 0 && blanks then 0 else suc n) (used-same xs ys texts.1) texts.0.blanks

joined-same : (xs ys : List Cell) → HaveTexts xs ys → flat_map cell_text xs ≡ flat_map cell_text ys
joined-same [] [] texts = refl
joined-same [] (y ∷ ys) texts = absurd texts
joined-same (x ∷ xs) [] texts = absurd texts
joined-same (x ∷ xs) (y ∷ ys) texts = ap₂ (λ (l r : List ℕ). l ++ r) texts.0.text (joined-same xs ys texts.1)

row-same : (xs ys : List Cell) → HaveTexts xs ys → row_text xs ≡ row_text ys
row-same xs ys texts =
    joined-same (take (used is_blank xs) xs) (take (used is_blank xs) ys) (texts-take (used is_blank xs) xs ys texts)
    ∙ ap (λ n. flat_map cell_text (take n ys)) (used-same xs ys texts)

-- of all rows of two displays of one width
module _ (a b : Display) (width : a.width ≡ b.width) (height : a.height ≡ b.height) (texts : HaveTexts a.cells b.cells) where
  row-texts : (row : ℕ) → HaveTexts (row_cells row a) (row_cells row b)
  row-texts row = subst (λ n. HaveTexts (row_cells row a) (take n (drop (row * n) b.cells))) width (texts-take a.width (drop (row * a.width) a.cells) (drop (row * a.width) b.cells) (texts-drop (row * a.width) a.cells b.cells texts))

  used_rows-same : (rows : ℕ) → used_rows is_blank rows a ≡ used_rows is_blank rows b
  used_rows-same zero = refl
  used_rows-same (suc row) =
      ap₂ (λ (n rest : ℕ). if n == 0 then rest else suc row) (used-same (row_cells row a) (row_cells row b) (row-texts row)) (used_rows-same row)

  rows_text-same : (rows : ℕ) → rows_text rows a ≡ rows_text rows b
  rows_text-same zero = refl
  rows_text-same (suc row) =
      ap₂ (λ (l r : List ℕ). l ++ (r ++ 0x0A ∷ [])) (rows_text-same row) (row-same (row_cells row a) (row_cells row b) (row-texts row))

  pub text-same : text_of a ≡ text_of b
  text-same = ap (λ n. rows_text n a) (ap (λ h. used_rows is_blank h a) height ∙ used_rows-same b.height) ∙ rows_text-same (used_rows is_blank b.height b)

-- of a drawing
cells-drawn : (d : Display) (pending : Bool)
    → HaveTexts (if pending then set (map as_drawn d.cells) (row_end d - 1) (as_printed (cell_at (row_end d - 1) d.cells)) else map as_drawn d.cells) d.cells
cells-drawn d true = texts-set (map as_drawn d.cells) d.cells (row_end d - 1) (as_printed (cell_at (row_end d - 1) d.cells)) (texts-drawn d.cells) (one-printed (cell_at (row_end d - 1) d.cells))
cells-drawn d false = texts-drawn d.cells

pub text-drawn : (d : Display) → text_of (redrawn d) ≡ text_of d
text-drawn d = text-same (redrawn d) d refl refl (cells-drawn d (d.cursor.column == d.width))
