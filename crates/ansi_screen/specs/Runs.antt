-- Runs of printed ASCII in a text, and what they do to a row all at once.
--
-- Source: ECMA-48 has a graphic character stand where the cursor is, which then moves on by a column.
use Rattle.std.specs.Prelude.{◌≡◌, ℕ, ◌+◌, ◌≤◌, Bool, false, List, [], ◌∷◌, length, map}
use Rattle.anstyle_parse.specs.Stream.Bytes.{is_within}
use Rattle.ansi_style.specs.declared.style.Style.{Style}
use Rattle.ansi_screen.specs.declared.cell.Cell.{Cell}
use Rattle.ansi_screen.specs.declared.cell.Part.TheVariants.{Whole}
use Rattle.ansi_screen.specs.Cells.{change, printed_cell}
use Rattle.ansi_screen.specs.Display.{Display, here}
use Rattle.ansi_screen.specs.Print.{glyph, draws, printed}

-- ASCII that is printed
abbrev pub is_printed_ascii : ℕ → Bool
is_printed_ascii c = is_within 0x20 0x7E c

-- characters of one column each, put one after another, from a place on
abbrev pub with_glyphs : ℕ → List ℕ → Style → ℕ → List Cell → List Cell
with_glyphs place [] style link cells = cells
with_glyphs place (c ∷ text) style link cells =
    with_glyphs (place + 1) text style link (change place (place + 1) (λ run. glyph 1 c style link) cells)

-- the cells in which they stand
abbrev pub glyphs : List ℕ → Style → ℕ → List Cell
glyphs text style link = map (λ c. printed_cell c style link Whole) text

-- the display with these characters in the cells from the cursor on, which goes past them
abbrev pub with_run : List ℕ → Display → Display
with_run text d = record d {
  cells = with_glyphs (here d) text d.cursor.style d.link d.cells;
  cursor = record d.cursor { column = d.cursor.column + length text };
}

-- the display after characters that are printed one after another, for which its row has room
abbrev pub printed_all : List ℕ → Display → Display
printed_all [] d = d
printed_all (c ∷ text) d = printed_all text (printed c d).display

-- The row has room for so many columns, no cell moves for a character, and no line is drawn in its place.
pub record HasRoom (n : ℕ) (d : Display) : Type 0 where
  pub fits : d.cursor.column + n ≤ d.width
  pub stays : d.inserts ≡ false
  pub letters : draws d.cursor.charsets ≡ false
