-- A ring of rows. The next place has the oldest row, and the last one stands before it.
use Rattle.std.specs.Prelude.{◌≡◌, ◌⊎◌, ◌<◌, ◌≤◌, ℕ, ◌+◌, List, [], ◌∷◌, ◌++◌, length, take, drop, replicate}
use Rattle.std.specs.List.{AllByRecursion}
use Rattle.ansi_style.specs.Style.{plain}
use Rattle.ansi_screen.specs.Cells.{blank}
use Rattle.ansi_screen.specs.declared.cell.Cell.{Cell}

-- the places in the order of their rows
abbrev pub turned : ℕ → List (List Cell) → List (List Cell)
turned next places = drop next places ++ take next places

-- What a ring has beside its places: memory for more of them, each of so many cells. Where there is some, no place was
-- taken twice: those up to the next one alone have rows that are kept. And there is room for the rows of all of them.
pub record HasSpare (columns count next places capacity : ℕ) (spare : List ℕ) : Type 0 where
  pub first_round : (length spare ≡ 0) ⊎ (count ≤ next)
  pub widths : AllByRecursion (λ width. width ≡ columns) spare
  pub room : places + length spare ≤ capacity

-- Where a next place is past the last one, and there is memory for a row, a blank one was made there.
abbrev pub IsMade : (next : ℕ) (places places_after : List (List Cell)) (spare spare_after : List ℕ) → Type 0
IsMade next places places_after spare spare_after =
    ((places_after ≡ places) × (spare_after ≡ spare) × ((next < length places) ⊎ (spare ≡ [])))
    ⊎ ((width : ℕ) × (next ≡ length places) × (spare ≡ spare_after ++ width ∷ [])
    × (places_after ≡ places ++ replicate width (blank plain) ∷ []))
