-- The last rows that left a screen, of as many as it keeps.
use Rattle.std.specs.Prelude.{ℕ, ◌+◌, ◌-◌, ◌^◌, min, Option, List, [], ◌∷◌, ◌++◌, length, drop}
use Rattle.std.specs.Option.{option_map}
use Rattle.ansi_screen.specs.declared.cell.Cell.{Cell}

-- How many rows are kept at most, and in how many columns; the rows, the oldest first; and how many have left in all.
pub record Kept : Type 0 where
  pub most : ℕ
  pub columns : ℕ
  pub rows : List (List Cell)
  pub left : ℕ

-- the last n of a list
abbrev pub keep_last : {A : Type 0} → ℕ → List A → List A
keep_last n items = drop (length items - n) items

-- Rows that left are counted up to what a machine's number holds.
abbrev pub most_left : ℕ
most_left = 2 ^ 64 - 1

-- none has left yet
abbrev pub nothing_kept : (most columns : ℕ) → Kept
nothing_kept most columns = record { most = most; columns = columns; rows = []; left = 0 }

-- A row more has left: of all that have, the last are kept.
abbrev pub kept_after : List Cell → Kept → Kept
kept_after row kept = record kept {
  rows = keep_last kept.most (kept.rows ++ row ∷ []);
  left = min (kept.left + 1) most_left;
}

-- rows more, one after another
abbrev pub kept_after_all : List (List Cell) → Kept → Kept
kept_after_all [] kept = kept
kept_after_all (row ∷ rows) kept = kept_after_all rows (kept_after row kept)

-- Rows leave a screen that keeps some, or none.
abbrev pub with_left : List (List Cell) → Option Kept → Option Kept
with_left [] history = history
with_left (row ∷ rows) history = with_left rows (option_map (kept_after row) history)
