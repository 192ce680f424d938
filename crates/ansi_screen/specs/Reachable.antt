-- What holds of every screen that a stream leads to.
use Rattle.std.specs.Prelude.{◌≡◌, ◌⊎◌, ⊤, ℕ, ◌+◌, ◌*◌, ◌<◌, ◌≤◌, Bool, true, false, List, [], ◌∷◌, length, replicate, Option, None, Some, if◌then◌else◌}
use Rattle.std.specs.List.{AllByRecursion}
use Rattle.ansi_style.specs.declared.style.Style.{Style}
use Rattle.ansi_style.specs.Style.{plain, HasBytes}
use Rattle.ansi_screen.specs.declared.cell.Cell.{Cell}
use Rattle.ansi_screen.specs.declared.cell.Marks.{Marks}
use Rattle.ansi_screen.specs.declared.cell.Marks.TheVariants.{Unmarked, One, Two}
use Rattle.ansi_screen.specs.declared.cell.Part.{Part}
use Rattle.ansi_screen.specs.declared.cell.Part.TheVariants.{Empty, Whole, Left, Right}
use Rattle.ansi_screen.specs.Cells.{blank, is_right, cell_at}
use Rattle.ansi_screen.specs.Display.{Display, IsSized, home}
use Rattle.ansi_screen.specs.Widths.{is_shown, columns}

abbrev pub is_left : Part → Bool
is_left Left = true
is_left part = false

-- the style of a left half, and of a right one
abbrev pub left_style : Cell → Option Style
left_style cell = if is_left cell.part then Some cell.style else None

abbrev pub right_style : Cell → Option Style
right_style cell = if is_right cell.part then Some cell.style else None

-- Each right half of a wide character stands right after a left half of its style, and each left half
-- before a right one; `behind` is the style of the left half that stands before these cells, if one does.
abbrev pub ArePaired : Option Style → List Cell → Type 0
ArePaired behind [] = behind ≡ None
ArePaired behind (cell ∷ cells) = (right_style cell ≡ behind) × ArePaired (left_style cell) cells

-- No row begins with a right half: so the halves of a pair stand in one row.
abbrev pub RowsBegin : ℕ → List Cell → Type 0
RowsBegin width cells = (row : ℕ) → is_right (cell_at (row * width) cells).part ≡ false

pub record IsWhole (width : ℕ) (cells : List Cell) : Type 0 where
  pub paired : ArePaired None cells
  pub rows_begin : RowsBegin width cells

-- In origin mode the cursor is within the margins.
abbrev pub IsInMargins : Display → Type 0
IsInMargins d = d.cursor.is_relative ≡ true → (d.top ≤ d.cursor.row) × (d.cursor.row < d.bottom)

-- Sizes and places; pairs of halves on the screen that shows and on the hidden one; the origin mode.
pub record IsScreen (d : Display) : Type 0 where
  pub sized : IsSized d
  pub whole : IsWhole d.width d.cells
  pub hidden_whole : IsWhole d.width d.hidden
  pub in_margins : IsInMargins d

-- What stands in a cell of a part: a character of as many columns as it shows; a space, where nothing was
-- printed and in a right half, which has no marks.
abbrev pub FitsPart : Part → ℕ → Marks → Type 0
FitsPart Empty c marks = c ≡ 0x20
FitsPart Whole c marks = columns c ≡ 1
FitsPart Left c marks = columns c ≡ 2
FitsPart Right c marks = (c ≡ 0x20) × (marks ≡ Unmarked)

-- a mark is shown, and takes no column
abbrev pub IsMark : ℕ → Type 0
IsMark c = (is_shown c ≡ true) × (columns c ≡ 0)

abbrev pub AreMarks : Marks → Type 0
AreMarks Unmarked = ⊤
AreMarks (One first) = IsMark first
AreMarks (Two first second) = IsMark first × IsMark second

-- the colours of a style are such as SGR can select
abbrev pub HasColors : Style → Type 0
HasColors style = HasBytes style.foreground × HasBytes style.background

-- A cell is such as printing and erasing leave it.
pub record IsCell (cell : Cell) : Type 0 where
  pub shown : is_shown cell.character ≡ true
  pub fits : FitsPart cell.part cell.character cell.marks
  pub marked : AreMarks cell.marks
  pub colored : HasColors cell.style

abbrev pub AreCells : List Cell → Type 0
AreCells cells = AllByRecursion IsCell cells

-- The margins have two rows at least, or all.
abbrev pub HasMargins : Display → Type 0
HasMargins d = (d.top + 2 ≤ d.bottom) ⊎ ((d.top ≡ 0) × (d.bottom ≡ d.height))

-- While the main screen shows, the hidden one is blank, and has saved nothing.
abbrev pub HidesNothing : Display → Type 0
HidesNothing d = (d.hidden ≡ replicate (length d.hidden) (blank plain)) × (d.hidden_saved ≡ home)

-- What a stream leaves on a screen: such cells, styles, margins and hidden cells.
pub record HasContents (d : Display) : Type 0 where
  pub cells : AreCells d.cells
  pub hidden : AreCells d.hidden
  pub cursor_colored : HasColors d.cursor.style
  pub saved_colored : HasColors d.saved.style
  pub hidden_colored : HasColors d.hidden_saved.style
  pub margins : HasMargins d
  pub main : d.is_alternate ≡ false → HidesNothing d
