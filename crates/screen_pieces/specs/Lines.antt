-- Rows that are put into a caller's room as lines of text.
use Rattle.std.specs.Prelude.{◌≡◌, List}
use Rattle.ansi_screen.specs.declared.cell.Cell.{Cell}
use Rattle.ansi_screen.specs.Text.{goes_on}
use Rattle.screen_text.specs.Lines.{row_text}
use Rattle.screen_pieces.specs.declared.text.TextWriter.{TextWriter}
use Rattle.screen_pieces.specs.Text.{Puts}

-- The row's text comes after what came before, and a line is open now where the row goes on.
pub record PutsRow (old : TextWriter) (row : List Cell) (new : TextWriter) : Type 0 where
  pub text : Puts (row_text row) old new
  pub is_open : new.is_open ≡ goes_on row

-- All stays as it is.
abbrev pub PutsNothing : TextWriter → TextWriter → Type 0
PutsNothing old new = new ≡ old
