-- The runs of a row: cells that are drawn by one element.
use Rattle.std.specs.Prelude.{ℕ, zero, suc, Bool, not, nat_lt, ◌&&◌, ◌||◌, ◌==◌, List, [], ◌∷◌, length, take, if◌then◌else◌}
use Rattle.std.specs.Bool.{beq}
use Rattle.std.specs.List.{flat_map}
use Rattle.ansi_style.specs.declared.style.Style.{Style}
use Rattle.ansi_style.specs.Style.{are_equal}
use Rattle.ansi_html.specs.Css.{is_underlined}
use Rattle.ansi_screen.specs.declared.cell.Cell.{Cell}
use Rattle.ansi_screen.specs.Cells.{is_right}
use Rattle.ansi_screen.specs.Text.{is_unmarked, is_unprinted}
use Rattle.screen_svg.specs.Characters.{cell_text}
use Rattle.screen_svg.specs.Shapes.{has_shape}

-- a cell of one column whose text is one byte
abbrev pub is_single : Cell → Bool
is_single cell = nat_lt cell.character 0x80 && (not (is_right cell.part) && is_unmarked cell.marks)

-- A cell that is drawn as a shape: one character that has one, without a line under, over or through it.
abbrev pub is_lined : Style → Bool
is_lined style = is_underlined style.underline || (style.overlined || style.struck_out)

unfoldable pub is_shaped : Cell → Bool
is_shaped cell =
    has_shape cell.character && (not (is_right cell.part) && (is_unmarked cell.marks && not (is_lined cell.style)))

-- Two cells whose characters can stand in one element: of a byte each, or both shapes.
abbrev pub are_of_a_kind : (first cell : Cell) → Bool
are_of_a_kind first cell = (is_single first && is_single cell) || (is_shaped first && is_shaped cell)

-- A cell goes on with the run of a first one: both are such, of one style and one link, and printed or not.
unfoldable pub goes_with : (first cell : Cell) → Bool
goes_with first cell =
    are_of_a_kind first cell && (are_equal first.style cell.style && (first.link == cell.link
    && beq (is_unprinted first) (is_unprinted cell)))

-- how many cells at the front do
abbrev pub count_with : (first : Cell) → List Cell → ℕ
count_with first [] = 0
count_with first (cell ∷ cells) = if goes_with first cell then suc (count_with first cells) else 0

-- A run: the column where it begins, its first cell, and those that go on with it.
pub record Run : Type 0 where
  pub column : ℕ
  pub first : Cell
  pub others : List Cell

abbrev pub run_of : (column : ℕ) → (first : Cell) → (others : List Cell) → Run
run_of column first others = record { column = column; first = first; others = others }

abbrev pub run_at : (column : ℕ) → (first : Cell) → (following : List Cell) → Run
run_at column first following = run_of column first (take (count_with first following) following)

-- The runs of cells from a column on, of which so many at the front belong to a run before.
abbrev pub runs_after : (passed : ℕ) → (column : ℕ) → List Cell → List Run
runs_after passed column [] = []
runs_after (suc passed) column (cell ∷ cells) = runs_after passed (suc column) cells
runs_after zero column (cell ∷ cells) =
    run_at column cell cells ∷ runs_after (count_with cell cells) (suc column) cells

abbrev pub runs_of : (row : List Cell) → List Run
runs_of row = runs_after 0 0 row

-- the cells of a run, its columns, and its text
abbrev pub run_cells : Run → List Cell
run_cells run = run.first ∷ run.others

abbrev pub run_columns : Run → ℕ
run_columns run = suc (length run.others)

abbrev pub run_text : Run → List ℕ
run_text run = flat_map cell_text (run_cells run)
