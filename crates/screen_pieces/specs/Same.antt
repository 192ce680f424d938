-- When two screens show the same.
use Rattle.std.specs.Prelude.{◌≡◌, ◌<◌, ℕ}
use Rattle.ansi_screen.specs.declared.place.Place.{Place}
use Rattle.ansi_screen.specs.Display.{Display, row_cells}

-- Two cursors are in one place, with one style and one origin mode; character sets don't count.
pub record AreSamePlaces (a b : Place) : Type 0 where
  pub row : a.row ≡ b.row
  pub column : a.column ≡ b.column
  pub style : a.style ≡ b.style
  pub origin : a.is_relative ≡ b.is_relative

-- The cursor is shown by both or none, the alternate screen shows, autowrap is on, and insert mode.
pub record HaveSameModes (a b : Display) : Type 0 where
  pub cursor_shown : a.is_visible ≡ b.is_visible
  pub alternate : a.is_alternate ≡ b.is_alternate
  pub wraps : a.wraps ≡ b.wraps
  pub inserts : a.inserts ≡ b.inserts

-- They have as many columns and rows, the same cells in each row, one cursor and the same modes.
pub record ShowSame (a b : Display) : Type 0 where
  pub columns : a.width ≡ b.width
  pub rows : a.height ≡ b.height
  pub cells : (row : ℕ) → row < a.height → row_cells row a ≡ row_cells row b
  pub cursor : AreSamePlaces a.cursor b.cursor
  pub modes : HaveSameModes a b
