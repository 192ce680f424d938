-- The characters of rows, as `screen_text` writes them in UTF-8.
use Rattle.std.specs.Prelude.{ℕ, Bool, false, List, [], ◌∷◌, ◌++◌, take, if◌then◌else◌}
use Rattle.std.specs.List.{flat_map}
use Rattle.ansi_screen.specs.declared.cell.Cell.{Cell}
use Rattle.ansi_screen.specs.declared.cell.Marks.{Marks}
use Rattle.ansi_screen.specs.declared.cell.Marks.TheVariants.{Unmarked, One, Two}
use Rattle.ansi_screen.specs.Cells.{is_right}
use Rattle.ansi_screen.specs.Text.{is_unprinted, goes_on, used}
use Rattle.safe_text.specs.Unseen.{is_unseen}
use Rattle.safe_text.specs.Marks.{mark_between}

-- the characters of no column that came after a cell's own
abbrev pub marks_of : Marks → List ℕ
marks_of Unmarked = []
marks_of (One first) = first ∷ []
marks_of (Two first second) = first ∷ second ∷ []

-- a cell's character and its marks; the right half of a wide one has none
unfoldable pub cell_characters : Cell → List ℕ
cell_characters cell = if is_right cell.part then [] else cell.character ∷ marks_of cell.marks

-- a row's, without the cells at its end where nothing was printed; with a line feed, unless it goes on
abbrev pub row_characters : List Cell → List ℕ
row_characters row =
    flat_map cell_characters (take (used is_unprinted row) row) ++ (if goes_on row then [] else 0x0A ∷ [])

abbrev pub rows_characters : List (List Cell) → List ℕ
rows_characters rows = flat_map row_characters rows

-- The characters of cells with marks where hidden text begins and ends (`crates/safe_text/specs/Marks.antt`), as the
-- cells' styles say it; at their end it ends, so that each row has its own marks.
abbrev pub cells_marked : (on : Bool) → List Cell → List ℕ
cells_marked on [] = mark_between on false
cells_marked on (cell ∷ cells) =
    mark_between on (is_unseen cell.style) ++ (cell_characters cell ++ cells_marked (is_unseen cell.style) cells)

abbrev pub row_marked : List Cell → List ℕ
row_marked row =
    cells_marked false (take (used is_unprinted row) row) ++ (if goes_on row then [] else 0x0A ∷ [])

abbrev pub rows_marked : List (List Cell) → List ℕ
rows_marked rows = flat_map row_marked rows
