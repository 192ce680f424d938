-- Cells: blanks, halves of wide characters, and the one form that each edit of cells has.
--
-- Sources: ECMA-48 (5th edition), 8.3 (ED, EL, ECH, ICH, DCH, IL, DL, SU, SD); xterm's ctlseqs;
-- terminfo(5), "bce", for the background of erased places.
use Rattle.std.specs.Prelude.{ℕ, zero, suc, ◌+◌, ◌-◌, ◌*◌, min, Bool, true, false, ◌&&◌, nat_lt, List, [], ◌∷◌, ◌++◌, length, take, drop, replicate, slice_index_or, slice_set, if◌then◌else◌}
use Rattle.ansi_style.specs.declared.style.Style.{Style}
use Rattle.ansi_style.specs.Style.{plain}
use Rattle.ansi_screen.specs.declared.cell.Cell.{Cell}
use Rattle.ansi_screen.specs.declared.cell.Marks.{Marks}
use Rattle.ansi_screen.specs.declared.cell.Marks.TheVariants.{Unmarked, One, Two}
use Rattle.ansi_screen.specs.declared.cell.Part.{Part}
use Rattle.ansi_screen.specs.declared.cell.Part.TheVariants.{Empty, Right}

-- a character without marks and link
abbrev pub plain_cell : ℕ → Style → Part → Cell
plain_cell c style part = record {
  character = c;
  link = 0;
  marks = Unmarked;
  style = style;
  part = part;
  goes_on = false;
}

-- the same in a link, by its number (`Links`); 0 is none
abbrev pub printed_cell : ℕ → Style → ℕ → Part → Cell
printed_cell c style link part = record (plain_cell c style part) { link = link }

-- What is erased shows the background that is selected, nothing else of the style, and has no link.
abbrev pub blank : Style → Cell
blank style = plain_cell 0x20 (record plain { background = style.background }) Empty

-- a half of a wide character that has lost the other: a space in its own style, without link
abbrev pub emptied : Cell → Cell
emptied cell = plain_cell 0x20 cell.style Empty

-- A cell keeps two marks, as xterm does unless it is told otherwise; the others are lost.
abbrev pub one_more : ℕ → Marks → Marks
one_more mark Unmarked = One mark
one_more mark (One first) = Two first mark
one_more mark (Two first second) = Two first second

abbrev pub with_mark : ℕ → Cell → Cell
with_mark mark cell = record cell { marks = one_more mark cell.marks }

abbrev pub is_right : Part → Bool
is_right Right = true
is_right part = false

-- the cell at a place; a plain blank past the end
abbrev pub cell_at : ℕ → List Cell → Cell
cell_at place cells = slice_index_or cells place (blank plain)

-- A mark goes to the cell before a place; where that is a right half, to its left half.
unfoldable pub marked_before : ℕ → ℕ → List Cell → List Cell
marked_before mark place cells =
    let at = if is_right (cell_at (place - 1) cells).part then place - 2 else place - 1 in
    slice_set cells at (with_mark mark (cell_at at cells))

-- Whether the row that ends at a place goes on in the next one is kept in its last cell: so what erases this cell takes
-- it away, and where rows move it goes with them. Printing leaves it (`Print`).
unfoldable pub going_on : Bool → ℕ → List Cell → List Cell
going_on on end cells = slice_set cells (end - 1) (record (cell_at (end - 1) cells) { goes_on = on })

-- A wide character whose right half stands at the place, so that its left half stands before
-- it, becomes two blanks: so xterm does wherever it changes one of the halves.
unfoldable pub cut : ℕ → List Cell → List Cell
cut place cells =
    let left = slice_set cells (place - 1) (emptied (cell_at (place - 1) cells)) in
    if nat_lt 0 place && is_right (cell_at place cells).part
    then slice_set left place (emptied (cell_at place cells))
    else cells

-- The cells from start up to end go through `how`, which keeps their number; all others stay.
abbrev pub within : ℕ → ℕ → (List Cell → List Cell) → List Cell → List Cell
within start end how cells =
    take start cells ++ (how (take (end - start) (drop start cells)) ++ drop (end - start) (drop start cells))

-- the same, where no wide character is left with a half on each side of start or of end
abbrev pub change : ℕ → ℕ → (List Cell → List Cell) → List Cell → List Cell
change start end how cells = within start end how (cut start (cut end cells))

-- What is done to a run of cells: all blank; moved towards its front, with blanks after it;
-- moved towards its end, with blanks before it. What moves out of the run is lost.
abbrev pub erased : Cell → List Cell → List Cell
erased space run = replicate (length run) space

abbrev pub moved_back : ℕ → Cell → List Cell → List Cell
moved_back count space run = drop (min count (length run)) run ++ replicate (min count (length run)) space

abbrev pub moved_on : ℕ → Cell → List Cell → List Cell
moved_on count space run = replicate (min count (length run)) space ++ take (length run - min count (length run)) run

-- Cells are deleted at start, and those up to end move there; or blanks are inserted at start,
-- and those that move past end are lost.
abbrev pub deleted : ℕ → ℕ → ℕ → Cell → List Cell → List Cell
deleted count start end space cells =
    change start end (moved_back count space) (cut (start + min count (end - start)) cells)

abbrev pub inserted : ℕ → ℕ → ℕ → Cell → List Cell → List Cell
inserted count start end space cells =
    change start end (moved_on count space) (cut (end - min count (end - start)) cells)

-- the first n rows of cells, which stand row by row
abbrev pub rows_of : (n width : ℕ) → List Cell → List (List Cell)
rows_of zero width cells = []
rows_of (suc n) width cells = rows_of n width cells ++ take width (drop (n * width) cells) ∷ []
