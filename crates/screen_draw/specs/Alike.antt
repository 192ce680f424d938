-- Comparing screens: what bytes can tell of them is the same.
--
-- A cell's link, and whether a row goes on in the next, are not drawn, and so not compared.
use Rattle.std.specs.Prelude.{◌-◌, Bool, true, false, ◌&&◌, ◌||◌, not, ◌==◌, List, [], ◌∷◌}
use Rattle.std.specs.Bool.{beq}
use Rattle.ansi_style.specs.Style.{are_equal}
use Rattle.ansi_screen.specs.declared.cell.Cell.{Cell}
use Rattle.ansi_screen.specs.declared.cell.Marks.{Marks}
use Rattle.ansi_screen.specs.declared.cell.Marks.TheVariants.{Unmarked, One, Two}
use Rattle.ansi_screen.specs.declared.cell.Part.{Part}
use Rattle.ansi_screen.specs.declared.cell.Part.TheVariants.{Empty, Whole, Left, Right}
use Rattle.ansi_screen.specs.declared.place.Charsets.{Charsets}
use Rattle.ansi_screen.specs.declared.place.Place.{Place}
use Rattle.ansi_screen.specs.Cells.{cell_at}
use Rattle.ansi_screen.specs.Display.{Display, row_end}
use Rattle.ansi_screen.specs.Print.{draws}
use Rattle.screen_draw.specs.Draw.{is_erased}

abbrev pub are_same_marks : Marks → Marks → Bool
are_same_marks Unmarked Unmarked = true
are_same_marks (One first) (One other) = first == other
are_same_marks (Two first second) (Two other last) = first == other && second == last
are_same_marks marks others = false

abbrev pub are_same_parts : Part → Part → Bool
are_same_parts Empty Empty = true
are_same_parts Whole Whole = true
are_same_parts Left Left = true
are_same_parts Right Right = true
are_same_parts part other = false

-- cells of the same character, marks, style and part
unfoldable pub are_alike : Cell → Cell → Bool
are_alike a b =
    a.character == b.character
    && (are_same_parts a.part b.part && (are_same_marks a.marks b.marks && are_equal a.style b.style))

-- two lists of one length pass a test, element by element
abbrev pub all_two : {A : Type 0} → (A → A → Bool) → List A → List A → Bool
all_two test [] [] = true
all_two test (x ∷ xs) (y ∷ ys) = test x y && all_two test xs ys
all_two test xs ys = false

abbrev pub are_same_sets : Charsets → Charsets → Bool
are_same_sets a b = beq a.g0_draws b.g0_draws && (beq a.g1_draws b.g1_draws && beq a.uses_g1 b.uses_g1)

-- places of the cursor, with their styles, origin modes and sets
unfoldable pub are_same_places : Place → Place → Bool
are_same_places a b =
    a.row == b.row && (a.column == b.column
    && (are_equal a.style b.style && (beq a.is_relative b.is_relative && are_same_sets a.charsets b.charsets)))

-- The same alternate screen or main one, with what it covers, what is saved, and tabs.
unfoldable pub has_same_frame : Display → Display → Bool
has_same_frame a b =
    beq a.is_alternate b.is_alternate && ((not a.is_alternate || all_two are_alike a.hidden b.hidden)
    && (are_same_places a.saved b.saved
    && (are_same_places a.hidden_saved b.hidden_saved && all_two beq a.tabs b.tabs)))

-- DECSTBM
abbrev pub has_same_margins : Display → Display → Bool
has_same_margins a b = a.top == b.top && a.bottom == b.bottom

-- DECAWM, IRM and DECTCEM
abbrev pub has_same_modes : Display → Display → Bool
has_same_modes a b = beq a.wraps b.wraps && (beq a.inserts b.inserts && beq a.is_visible b.is_visible)

-- All of it is the same.
unfoldable pub looks_same : Display → Display → Bool
looks_same a b =
    has_same_frame a b && (has_same_margins a b
    && (has_same_modes a b && (are_same_places a.cursor b.cursor && all_two are_alike a.cells b.cells)))

-- Characters are printed as they are, in their places: out of origin mode and insert mode, in letters.
unfoldable pub is_plain : Display → Bool
is_plain d = not d.cursor.is_relative && (not d.inserts && not (draws d.cursor.charsets))

-- A wrap is pending after a cell where nothing is printed.
unfoldable pub lacks_print : Display → Bool
lacks_print d = d.cursor.column == d.width && is_erased (cell_at (row_end d - 1) d.cells)

-- Only cells, the cursor with its style, margins, DECAWM and DECTCEM can differ.
unfoldable pub is_steady : Display → Display → Bool
is_steady a b =
    is_plain a && (is_plain b && (not (lacks_print a)
    && (are_same_sets a.cursor.charsets b.cursor.charsets && has_same_frame a b)))
