-- Damage: which cells can have changed since a picture of the display was taken, row by row, and whether its frame can
-- have.
--
-- Sources: libvterm's `vterm.h` (`damage`, `VTermRect`); Alacritty's `TermDamage` (a span of columns for each line).
use Rattle.std.specs.Prelude.{◌≡◌, ◌≤◌, ◌⊎◌, ⊤, ℕ, Option, None, Some, ◌+◌, ◌*◌, ◌<◌, min, max, Bool, false, List, length, take, drop, get_or}
use Rattle.ansi_screen.specs.declared.cell.Cell.{Cell}
use Rattle.ansi_screen.specs.declared.damage.Span.{Span}
use Rattle.ansi_screen.specs.Cells.{cell_at}
use Rattle.ansi_screen.specs.Display.{Picture, picture, IsSized, most_columns}
use Rattle.ansi_screen.specs.History.{Kept}
use Rattle.ansi_screen.specs.State.{State}

-- what is noted: of each row the columns that were written, and whether the frame can have changed
pub record Noted : Type 0 where
  pub spans : List Span
  pub is_framed : Bool

-- no column of a row was written, or all were
abbrev pub no_span : Span
no_span = record { left = most_columns; right = 0 }

abbrev pub whole_span : Span
whole_span = record { left = 0; right = most_columns }

-- what is noted of a row
abbrev pub span_at : List Span → ℕ → Span
span_at spans row = get_or spans row no_span

-- the columns from one up to another were written too
abbrev pub joined : (left right : ℕ) → Span → Span
joined left right span = record { left = min span.left left; right = max span.right right }

-- A column is neither among those that were written nor beside them, where a half of a wide character can have been
-- cut.
abbrev pub IsOutside : Span → ℕ → Type 0
IsOutside span column = (column + 1 < span.left) ⊎ (span.right < column)

-- Each cell is as in the picture but for those in the span of its row and beside it; and so is the frame, unless that
-- is noted.
pub record HasDamage (width height : ℕ) (noted : Noted) (shown now : Picture) : Type 0 where
  pub long : length now.cells ≡ length shown.cells
  pub cells : (row column : ℕ) → row < height → column < width → IsOutside (span_at noted.spans row) column
      → cell_at (row * width + column) now.cells ≡ cell_at (row * width + column) shown.cells
  pub frame : noted.is_framed ≡ false → now.frame ≡ shown.frame

-- A row has kept its cells before one column, and those from another one on.
pub record KeepsColumns (left right : ℕ) (olds news : List Cell) : Type 0 where
  pub front : take left news ≡ take left olds
  pub back : drop right news ≡ drop right olds

-- What is kept of rows that left has rows of this width.
abbrev pub HasHistory : (width : ℕ) → Option Kept → Type 0
HasHistory width None = ⊤
HasHistory width (Some kept) = kept.columns ≡ width

-- What holds of a screen in memory: sizes and places, room for rows that leave, a span for each row, and all that can
-- have changed is noted.
pub record IsNoted (noted : Noted) (s : State) : Type 0 where
  pub sized : IsSized s.display
  pub kept : HasHistory s.display.width s.history
  pub long : length noted.spans ≡ s.display.height
  pub damage : HasDamage s.display.width s.display.height noted s.shown (picture s.display)

-- Of other rows than those from one up to another no column was written.
pub record AreEmptyBeside (first past : ℕ) (spans : List Span) : Type 0 where
  pub above : (row : ℕ) → row < first → (span_at spans row) ≡ no_span
  pub below : (row : ℕ) → past ≤ row → (span_at spans row) ≡ no_span
  pub inside : past ≤ length spans
