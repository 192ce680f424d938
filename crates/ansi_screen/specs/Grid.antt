-- A grid of cells: rows of one width, which stand in memory in any order.
use Rattle.std.specs.Prelude.{◌≡◌, ◌⊎◌, ◌<◌, ◌≤◌, ◌*◌, ℕ, zero, suc, ◌==◌, List, [], ◌∷◌, length, map, replicate, slice_index_or, if◌then◌else◌}
use Rattle.std.specs.List.{flat_map, AllByRecursion}
use Rattle.ansi_style.specs.Style.{plain}
use Rattle.ansi_screen.specs.declared.cell.Cell.{Cell}
use Rattle.ansi_screen.specs.Cells.{blank, cell_at}
use Rattle.ansi_screen.specs.Reachable.{IsWhole}

-- its sizes, and its cells, row by row
pub record Grid : Type 0 where
  pub width : ℕ
  pub height : ℕ
  pub cells : List Cell

-- all plain blanks
abbrev pub blank_grid : (width height : ℕ) → Grid
blank_grid width height = record { width = width; height = height; cells = replicate (height * width) (blank plain) }

abbrev pub with_list : List Cell → Grid → Grid
with_list cells grid = record grid { cells = cells }

-- the cells of rows, row by row
abbrev pub flat : List (List Cell) → List Cell
flat rows = flat_map (λ row. row) rows

-- rows in an order, which has their numbers
abbrev pub in_order : List ℕ → List (List Cell) → List (List Cell)
in_order order rows = map (λ at. slice_index_or rows at []) order

-- All cells from a place on are plain blanks.
abbrev pub IsBlankFrom : ℕ → List Cell → Type 0
IsBlankFrom from cells = (place : ℕ) → from ≤ place → cell_at place cells ≡ blank plain

-- A place is not among those from one up to another.
abbrev pub IsBeside : (first past place : ℕ) → Type 0
IsBeside first past place = (place < first) ⊎ (past ≤ place)

-- All cells beside those from a place up to another are plain blanks.
abbrev pub IsBlankBeside : (first past : ℕ) → List Cell → Type 0
IsBlankBeside first past cells = (place : ℕ) → IsBeside first past place → cell_at place cells ≡ blank plain

-- Each row has so many cells, and the halves of its wide characters are in pairs.
abbrev pub AreRows : ℕ → List (List Cell) → Type 0
AreRows width rows = AllByRecursion (λ row. (length row ≡ width) × IsWhole width row) rows

-- how often a number stands in a list
abbrev pub times : ℕ → List ℕ → ℕ
times at [] = zero
times at (other ∷ order) = if at == other then suc (times at order) else times at order

-- Each number is that of one of so many rows, and none stands twice.
pub record IsOrder (count : ℕ) (order : List ℕ) : Type 0 where
  pub numbers : AllByRecursion (λ at. at < count) order
  pub once : (at : ℕ) → times at order ≤ 1
