-- What the bytes of a cell say.
use Rattle.std.specs.Prelude.{◌≡◌, ◌≤◌, ℕ, ◌==◌, replicate, if◌then◌else◌}
use Rattle.ansi_style.specs.declared.style.Color.TheVariants.{Default}
use Rattle.ansi_screen.specs.declared.cell.Cell.{Cell}
use Rattle.ansi_screen.specs.declared.cell.Part.{Part}
use Rattle.ansi_screen.specs.declared.cell.Part.TheVariants.{Empty, Whole, Left, Right}
use Rattle.ansi_screen.specs.declared.cell.Marks.{Marks}
use Rattle.ansi_screen.specs.declared.cell.Marks.TheVariants.{Unmarked, One, Two}
use Rattle.screen_pieces.specs.declared.cell.CellBytes.{CellBytes}
use Rattle.ansi_style.specs.Bytes.{style_of, is_set, kind_of}

abbrev pub part_of : ℕ → Part
part_of number = if number == 1 then Whole else if number == 2 then Left else if number == 3 then Right else Empty

abbrev pub marks_of : (count first second : ℕ) → Marks
marks_of count first second = if count == 1 then One first else if count == 2 then Two first second else Unmarked

-- It has no marks and the terminal's own background, and the number of its foreground's kind is at most this.
pub record IsPlain (most : ℕ) (cell : Cell) : Type 0 where
  pub foreground : kind_of cell.style.foreground ≤ most
  pub background : cell.style.background ≡ Default
  pub marks : cell.marks ≡ Unmarked

abbrev pub cell_in : CellBytes → Cell
cell_in bytes = record {
  character = bytes.character;
  link = bytes.link;
  marks = marks_of bytes.mark_count bytes.first_mark bytes.second_mark;
  style = style_of bytes.style.bytes;
  part = part_of bytes.part;
  goes_on = is_set bytes.goes_on;
}

-- What is kept for later is 0: eight bytes of its style, and eight of its own.
pub record KeepsForLater (bytes : CellBytes) : Type 0 where
  pub style : bytes.style.reserved ≡ replicate 8 0
  pub cell : bytes.reserved ≡ replicate 8 0
