-- What a call does to a display, in changes of few kinds; and by whatever change, a screen stays one: within its sizes,
-- halves in pairs, and in origin mode with the cursor within the margins.
use Rattle.std.proofs.Common.{◌≡◌, ℕ, zero, suc, ◌+◌, ◌-◌, ◌*◌, ◌<◌, ◌≤◌, Bool, true, false, List, length, refl, sym, subst, ap, ◌∙◌, arith, add-one}
use Rattle.std.specs.Prelude.{min, ◌==◌, ◌%◌, replicate, if◌then◌else◌}
use Rattle.std.proofs.lemmas.List.{length-replicate, length_push}
use Rattle.std.proofs.Math.Nat.{mul-le-mul_right, suc-mul}
use Rattle.ansi_style.specs.Style.{plain}
use Rattle.ansi_screen.specs.declared.cell.Cell.{Cell}
use Rattle.ansi_screen.specs.declared.place.Charsets.{Charsets}
use Rattle.ansi_screen.specs.declared.place.Place.{Place}
use Rattle.ansi_screen.specs.Cells.{blank, is_right, within, change, erased, moved_back, moved_on, deleted, inserted, going_on, marked_before}
use Rattle.ansi_screen.specs.Display.{Display, here, row_start, row_end, home, stops, blanks, fresh, most_columns, most_rows}
use Rattle.ansi_screen.specs.Moves.{to_column, settled}
use Rattle.ansi_screen.specs.Edits.{with_cells, space, row_going_on, erased_cells}
use Rattle.ansi_screen.specs.Widths.{is_shown, columns, is_among}
use Rattle.ansi_screen.specs.Ranges.{no_column, two_columns}
use Rattle.ansi_screen.specs.Print.{glyph, drawn}
use Rattle.ansi_screen.specs.Modes.{with_style, with_charsets, saving, softly_reset}
use Rattle.ansi_screen.specs.Reachable.{is_left, IsWhole, IsScreen}
use Rattle.ansi_screen.proofs.PairLemmas.{whole-erased, paired-replicate, right-replicate}
use Rattle.ansi_screen.proofs.WholeLemmas.{whole-deleted, length-deleted, whole-inserted, length-inserted, whole-rows_up, length-rows_up, whole-rows_down, length-rows_down, length-erased, whole-going_on, length-going_on, whole-glyph, length-put, whole-marked, length-marked}

-- A place is within a display, and in origin mode within these margins.
abbrev pub IsPlace : (top bottom row column : ℕ) → Bool → Display → Type 0
IsPlace top bottom row column relative d =
    (row < d.height) × (column ≤ d.width) × (relative ≡ true → (top ≤ row) × (row < bottom))

-- what is drawn for a character, in the line drawing set or not
abbrev pub drawn_if : Bool → ℕ → ℕ
drawn_if draws c = if draws then drawn c else c

-- A change of a display to another one, which prints none but such characters, and where nothing `switches` brings no
-- alternate screen forward. What it keeps within bounds may rest on it that the display is a screen.
pub data Change (prints : ℕ → Type 0) (switches : Type 0) (d : Display) : Display → Type 0 where
  -- the cursor goes to a place; SGR, sets; DECSC, DECRC
  go : (row column : ℕ) (relative : Bool) → (IsScreen d → IsPlace d.top d.bottom row column relative d)
      → Change prints switches d (record d { cursor = record d.cursor { row = row; column = column; is_relative = relative } })
  select : (groups : List (List ℕ)) → Change prints switches d (with_style groups d)
  choose : (charsets : Charsets) → Change prints switches d (with_charsets charsets d)
  save : Change prints switches d (saving d)
  restore : (row : ℕ) → (IsScreen d → IsPlace d.top d.bottom row d.saved.column d.saved.is_relative d)
      → Change prints switches d (record d { cursor = record d.saved { row = row } })
  -- cells are erased, a row goes on or not, cells and rows are moved
  erase : (start end : ℕ) → (IsScreen d → (start ≤ end) × (end ≤ length d.cells)) → Change prints switches d (erased_cells start end d)
  join : (on : Bool) (end : ℕ) → Change prints switches d (with_cells (going_on on end d.cells) d)
  delete : (n : ℕ) → (IsScreen d → d.cursor.column < d.width)
      → Change prints switches d (with_cells (deleted n (here d) (row_end d) (space d) d.cells) d)
  insert : (n : ℕ) → (IsScreen d → d.cursor.column < d.width)
      → Change prints switches d (with_cells (inserted n (here d) (row_end d) (space d) d.cells) d)
  rows_back : (n first last : ℕ) → (IsScreen d → (first ≤ last) × (last ≤ d.height))
      → Change prints switches d (with_cells (within (first * d.width) (last * d.width) (moved_back (n * d.width) (space d)) d.cells) d)
  rows_on : (n first last : ℕ) → (IsScreen d → (first ≤ last) × (last ≤ d.height))
      → Change prints switches d (with_cells (within (first * d.width) (last * d.width) (moved_on (n * d.width) (space d)) d.cells) d)
  -- a character is printed, or a mark
  write : (n c : ℕ) (draws : Bool) → prints c → is_shown c ≡ true → columns (drawn_if draws c) ≡ n → 1 ≤ n → n ≤ 2 → d.cursor.column + n ≤ d.width
      → Change prints switches d (record d {
        cells = change (here d) (here d + n) (λ run. glyph n (drawn_if draws c) d.cursor.style d.link) d.cells;
        cursor = record d.cursor { column = d.cursor.column + n };
      })
  add_mark : (c : ℕ) (draws : Bool) → prints c → is_shown c ≡ true → columns (drawn_if draws c) ≡ 0
      → Change prints switches d (with_cells (marked_before (drawn_if draws c) (here d) d.cells) d)
  -- margins, with the cursor in its place; tabs; the alternate screen and back; DECSTR, RIS
  narrow : (top bottom row column : ℕ) → top + 2 ≤ bottom → bottom ≤ d.height → (IsScreen d → IsPlace top bottom row column d.cursor.is_relative d)
      → Change prints switches d (record d { top = top; bottom = bottom; cursor = record d.cursor { row = row; column = column } })
  stop_at : (tabs : List Bool) → length tabs ≡ length d.tabs → Change prints switches d (record d { tabs = tabs })
  to_other : switches → Change prints switches d (record d {
    cells = replicate (length d.hidden) (space d);
    saved = home;
    is_alternate = true;
    hidden = d.cells;
    hidden_saved = d.cursor;
  })
  back : Change prints switches d (record d {
    cells = d.hidden;
    saved = d.hidden_saved;
    is_alternate = false;
    hidden = replicate (length d.cells) (blank plain);
    hidden_saved = home;
  })
  soften : Change prints switches d (softly_reset d)
  renew : Change prints switches d (fresh d.width d.height)
  -- modes, and links
  set_wraps : (on : Bool) → Change prints switches d (record d { wraps = on })
  set_inserts : (on : Bool) → Change prints switches d (record d { inserts = on })
  set_visible : (on : Bool) → Change prints switches d (record d { is_visible = on })
  set_links : (links link : ℕ) → Change prints switches d (record d { links = links; link = link })

-- another place of the cursor, other cells
pub kept-place : (p : Place) (d : Display) → IsScreen d → p.row < d.height → p.column ≤ d.width
    → (p.is_relative ≡ true → (d.top ≤ p.row) × (p.row < d.bottom)) → IsScreen (record d { cursor = p })
kept-place p d s row column origin = record { sized = record { two_columns = s.sized.two_columns; columns_limit = s.sized.columns_limit; a_row = s.sized.a_row; rows_limit = s.sized.rows_limit; cells_fill = s.sized.cells_fill; hidden_fill = s.sized.hidden_fill; tabs_fill = s.sized.tabs_fill; cursor_row = row; cursor_column = column; saved_row = s.sized.saved_row; saved_column = s.sized.saved_column; hidden_row = s.sized.hidden_row; hidden_column = s.sized.hidden_column; margins = s.sized.margins; margins_within = s.sized.margins_within }; whole = s.whole; hidden_whole = s.hidden_whole; in_margins = origin }

pub kept-cells : (cells : List Cell) (d : Display) → IsScreen d → length cells ≡ length d.cells → IsWhole d.width cells → IsScreen (with_cells cells d)
kept-cells cells d s long whole = record { sized = record { two_columns = s.sized.two_columns; columns_limit = s.sized.columns_limit; a_row = s.sized.a_row; rows_limit = s.sized.rows_limit; cells_fill = long ∙ s.sized.cells_fill; hidden_fill = s.sized.hidden_fill; tabs_fill = s.sized.tabs_fill; cursor_row = s.sized.cursor_row; cursor_column = s.sized.cursor_column; saved_row = s.sized.saved_row; saved_column = s.sized.saved_column; hidden_row = s.sized.hidden_row; hidden_column = s.sized.hidden_column; margins = s.sized.margins; margins_within = s.sized.margins_within }; whole = whole; hidden_whole = s.hidden_whole; in_margins = s.in_margins }

pub kept-tabs : (tabs : List Bool) (d : Display) → IsScreen d → length tabs ≡ length d.tabs → IsScreen (record d { tabs = tabs })
kept-tabs tabs d s long = record { sized = record { two_columns = s.sized.two_columns; columns_limit = s.sized.columns_limit; a_row = s.sized.a_row; rows_limit = s.sized.rows_limit; cells_fill = s.sized.cells_fill; hidden_fill = s.sized.hidden_fill; tabs_fill = long ∙ s.sized.tabs_fill; cursor_row = s.sized.cursor_row; cursor_column = s.sized.cursor_column; saved_row = s.sized.saved_row; saved_column = s.sized.saved_column; hidden_row = s.sized.hidden_row; hidden_column = s.sized.hidden_column; margins = s.sized.margins; margins_within = s.sized.margins_within }; whole = s.whole; hidden_whole = s.hidden_whole; in_margins = s.in_margins }

pub kept-column : (column : ℕ) (d : Display) → IsScreen d → IsScreen (to_column column d)
kept-column column d s =
    let some : 2 ≤ d.width = s.sized.two_columns in
    kept-place (record d.cursor { column = min column (d.width - 1) }) d s s.sized.cursor_row (omega arith) s.in_margins

pub kept-settled : (d : Display) → IsScreen d → IsScreen (settled d)
kept-settled d s = kept-column d.cursor.column d s

-- either of two displays
pub kept-if : (t : Bool) (a b : Display) → (t ≡ true → IsScreen a) → (t ≡ false → IsScreen b) → IsScreen (if t then a else b)
kept-if true a b first second = first refl
kept-if false a b first second = second refl

-- What a screen is, does not rest on modes and links: here these are a new one's.
abbrev quieted : Display → Display
quieted d = record (fresh d.width d.height) {
  cells = d.cells;
  cursor = d.cursor;
  saved = d.saved;
  top = d.top;
  bottom = d.bottom;
  tabs = d.tabs;
  hidden = d.hidden;
  hidden_saved = d.hidden_saved;
}

kept-quiet : (d e : Display) → quieted e ≡ quieted d → IsScreen d → IsScreen e
kept-quiet d e same s =
    let old : IsScreen (quieted d) = record { sized = record { two_columns = s.sized.two_columns; columns_limit = s.sized.columns_limit; a_row = s.sized.a_row; rows_limit = s.sized.rows_limit; cells_fill = s.sized.cells_fill; hidden_fill = s.sized.hidden_fill; tabs_fill = s.sized.tabs_fill; cursor_row = s.sized.cursor_row; cursor_column = s.sized.cursor_column; saved_row = s.sized.saved_row; saved_column = s.sized.saved_column; hidden_row = s.sized.hidden_row; hidden_column = s.sized.hidden_column; margins = s.sized.margins; margins_within = s.sized.margins_within }; whole = s.whole; hidden_whole = s.hidden_whole; in_margins = s.in_margins } in
    let new : IsScreen (quieted e) = subst IsScreen (sym same) old in
    record { sized = record { two_columns = new.sized.two_columns; columns_limit = new.sized.columns_limit; a_row = new.sized.a_row; rows_limit = new.sized.rows_limit; cells_fill = new.sized.cells_fill; hidden_fill = new.sized.hidden_fill; tabs_fill = new.sized.tabs_fill; cursor_row = new.sized.cursor_row; cursor_column = new.sized.cursor_column; saved_row = new.sized.saved_row; saved_column = new.sized.saved_column; hidden_row = new.sized.hidden_row; hidden_column = new.sized.hidden_column; margins = new.sized.margins; margins_within = new.sized.margins_within }; whole = new.whole; hidden_whole = new.hidden_whole; in_margins = new.in_margins }

-- edits of cells
pub row-inside : (row width height : ℕ) → row < height → row * width + width ≤ height * width
row-inside row width height below =
    let past : suc row * width ≤ height * width = mul-le-mul_right {m = suc row} {n = height} width below in
    let next : suc row * width ≡ row * width + width = suc-mul row width in
    omega arith

pub row_end-inside : (d : Display) → IsScreen d → row_end d ≤ length d.cells
row_end-inside d s =
    let inside : row_end d ≤ d.height * d.width = row-inside d.cursor.row d.width d.height s.sized.cursor_row in
    let fill : length d.cells ≡ d.height * d.width = s.sized.cells_fill in
    omega arith

pub kept-above_at : (t : Bool) (d : Display) → IsScreen d → IsScreen (with_cells (if t then going_on false (row_start d) d.cells else d.cells) d)
kept-above_at true d s =
    kept-cells (going_on false (row_start d) d.cells) d s (length-going_on false (row_start d) d.cells) (whole-going_on d.width false (row_start d) d.cells s.whole)
kept-above_at false d s = s

-- the row goes on, or does not
pub kept-going_on : (on : Bool) (d : Display) → IsScreen d → IsScreen (row_going_on on d)
kept-going_on on d s =
    kept-cells (going_on on (row_end d) d.cells) d s (length-going_on on (row_end d) d.cells) (whole-going_on d.width on (row_end d) d.cells s.whole)

-- edits of cells
kept-delete : (n : ℕ) (d : Display) → IsScreen d → d.cursor.column < d.width → IsScreen (with_cells (deleted n (here d) (row_end d) (space d) d.cells) d)
kept-delete n d s inside =
    let end : row_end d ≤ length d.cells = row_end-inside d s in
    let from : row_start d ≤ here d = omega arith in
    let order : here d ≤ row_end d = omega arith in
    let to : row_end d ≤ row_end d = omega arith in
    kept-cells _ d s (length-deleted d.width d.cursor.row (here d) (row_end d) n (space d) d.cells refl refl from order to end)
    (whole-deleted d.width d.cursor.row (here d) (row_end d) n (space d) d.cells refl refl from order to end s.whole)

kept-insert : (n : ℕ) (d : Display) → IsScreen d → d.cursor.column < d.width → IsScreen (with_cells (inserted n (here d) (row_end d) (space d) d.cells) d)
kept-insert n d s inside =
    let end : row_end d ≤ length d.cells = row_end-inside d s in
    let from : row_start d ≤ here d = omega arith in
    let order : here d ≤ row_end d = omega arith in
    let to : row_end d ≤ row_end d = omega arith in
    kept-cells _ d s (length-inserted d.width d.cursor.row (here d) (row_end d) n (space d) d.cells refl refl from order to end)
    (whole-inserted d.width d.cursor.row (here d) (row_end d) n (space d) d.cells refl refl from order to end s.whole)

rows-inside : (first last : ℕ) (d : Display) → IsScreen d → first ≤ last → last ≤ d.height
    → (first * d.width ≤ last * d.width) × (last * d.width ≤ length d.cells)
rows-inside first last d s order inside =
    let ordered : first * d.width ≤ last * d.width = mul-le-mul_right {m = first} {n = last} d.width order in
    let below : last * d.width ≤ d.height * d.width = mul-le-mul_right {m = last} {n = d.height} d.width inside in
    let fill : length d.cells ≡ d.height * d.width = s.sized.cells_fill in
    (ordered, omega arith)

kept-write : (n c : ℕ) (d : Display) → IsScreen d → 1 ≤ n → n ≤ 2 → d.cursor.column + n ≤ d.width
    → IsScreen (record d {
      cells = change (here d) (here d + n) (λ run. glyph n c d.cursor.style d.link) d.cells;
      cursor = record d.cursor { column = d.cursor.column + n };
    })
kept-write n c d s some few fits =
    let end : row_end d ≤ length d.cells = row_end-inside d s in
    let put_cells : IsScreen (with_cells _ d) =
    kept-cells _ d s (length-put (here d) n c d.cursor.style d.link d.cells some few (omega arith))
    (whole-glyph d.width d.cursor.row (here d) n c d.cursor.style d.link d.cells some few (omega arith) (omega arith) (omega arith) s.whole) in
    kept-place (record d.cursor { column = d.cursor.column + n }) _ put_cells s.sized.cursor_row fits s.in_margins

pub columns-few : (c : ℕ) (t u : Bool) → is_among c no_column ≡ t → is_among c two_columns ≡ u → columns c ≤ 2
unfolding columns
columns-few c true u none two = rw none (omega arith)
columns-few c false true none two = rw (none, two) (omega arith)
columns-few c false false none two = rw (none, two) (omega arith)

-- cells that are all the same
whole-blanks : (width n : ℕ) (space : Cell) → is_right space.part ≡ false
    → is_left space.part ≡ false → IsWhole width (replicate n space)
whole-blanks width n space right left = record { paired = paired-replicate n space right left; rows_begin = λ row. right-replicate n (row * width) space right }

-- a new screen
length-stops : (n : ℕ) → length (stops n) ≡ n
length-stops zero = refl
length-stops (suc n) = length_push (stops n) (n % 8 == 0) ∙ (ap (λ k. k + 1) (length-stops n) ∙ add-one n)

pub new-screen : (width height : ℕ) → 2 ≤ width → width ≤ most_columns → 1 ≤ height → height ≤ most_rows → IsScreen (fresh width height)
new-screen width height wide limit some few =
    let whole : IsWhole width (blanks width height) = whole-blanks width (height * width) (blank plain) refl refl in
    record {
      sized = record { two_columns = wide; columns_limit = limit; a_row = some; rows_limit = few; cells_fill = length-replicate (height * width) (blank plain); hidden_fill = length-replicate (height * width) (blank plain); tabs_fill = length-stops width; cursor_row = omega arith; cursor_column = omega arith; saved_row = omega arith; saved_column = omega arith; hidden_row = omega arith; hidden_column = omega arith; margins = omega arith; margins_within = omega arith };
      whole = whole;
      hidden_whole = whole;
      in_margins = λ relative. cc relative;
    }

-- each change
pub kept-change : (prints : ℕ → Type 0) (switches : Type 0) (d e : Display) → Change prints switches d e → IsScreen d → IsScreen e
unfolding softly_reset
kept-change prints switches d e (go row column relative within) s =
    kept-place (record d.cursor { row = row; column = column; is_relative = relative }) d s (within s).0 (within s).1 (within s).2
kept-change prints switches d e (select groups) s = kept-place (with_style groups d).cursor d s s.sized.cursor_row s.sized.cursor_column s.in_margins
kept-change prints switches d e (choose charsets) s = kept-place (with_charsets charsets d).cursor d s s.sized.cursor_row s.sized.cursor_column s.in_margins
kept-change prints switches d e save s = record { sized = record { two_columns = s.sized.two_columns; columns_limit = s.sized.columns_limit; a_row = s.sized.a_row; rows_limit = s.sized.rows_limit; cells_fill = s.sized.cells_fill; hidden_fill = s.sized.hidden_fill; tabs_fill = s.sized.tabs_fill; cursor_row = s.sized.cursor_row; cursor_column = s.sized.cursor_column; saved_row = s.sized.cursor_row; saved_column = s.sized.cursor_column; hidden_row = s.sized.hidden_row; hidden_column = s.sized.hidden_column; margins = s.sized.margins; margins_within = s.sized.margins_within }; whole = s.whole; hidden_whole = s.hidden_whole; in_margins = s.in_margins }
kept-change prints switches d e (restore row within) s = kept-place (record d.saved { row = row }) d s (within s).0 (within s).1 (within s).2
kept-change prints switches d e (erase start end within) s =
    kept-cells (change start end (erased (space d)) d.cells) d s (length-erased start end (space d) d.cells (within s).0 (within s).1)
    (whole-erased d.width start end (space d) d.cells (within s).0 (within s).1 refl refl s.whole)
kept-change prints switches d e (join on end) s =
    kept-cells (going_on on end d.cells) d s (length-going_on on end d.cells) (whole-going_on d.width on end d.cells s.whole)
kept-change prints switches d e (delete n inside) s = kept-delete n d s (inside s)
kept-change prints switches d e (insert n inside) s = kept-insert n d s (inside s)
kept-change prints switches d e (rows_back n first last within) s =
    let rows = rows-inside first last d s (within s).0 (within s).1 in
    kept-cells _ d s (length-rows_up d.width first last n (space d) d.cells refl refl rows.0 rows.1)
    (whole-rows_up d.width first last n (space d) d.cells refl refl rows.0 rows.1 s.whole)
kept-change prints switches d e (rows_on n first last within) s =
    let rows = rows-inside first last d s (within s).0 (within s).1 in
    let some : 2 ≤ d.width = s.sized.two_columns in
    kept-cells _ d s (length-rows_down d.width first last n (space d) d.cells refl refl rows.0 rows.1)
    (whole-rows_down d.width first last n (space d) d.cells refl refl (omega arith) rows.0 rows.1 s.whole)
kept-change prints switches d e (write n c draws may is wide some few fits) s = kept-write n (drawn_if draws c) d s some few fits
kept-change prints switches d e (add_mark c draws may is none) s =
    kept-cells (marked_before (drawn_if draws c) (here d) d.cells) d s (length-marked (drawn_if draws c) (here d) d.cells) (whole-marked d.width (drawn_if draws c) (here d) d.cells s.whole)
kept-change prints switches d e (narrow top bottom row column order inside within) s =
    let place = within s in
    record { sized = record { two_columns = s.sized.two_columns; columns_limit = s.sized.columns_limit; a_row = s.sized.a_row; rows_limit = s.sized.rows_limit; cells_fill = s.sized.cells_fill; hidden_fill = s.sized.hidden_fill; tabs_fill = s.sized.tabs_fill; cursor_row = place.0; cursor_column = place.1; saved_row = s.sized.saved_row; saved_column = s.sized.saved_column; hidden_row = s.sized.hidden_row; hidden_column = s.sized.hidden_column; margins = omega arith; margins_within = inside }; whole = s.whole; hidden_whole = s.hidden_whole; in_margins = place.2 }
kept-change prints switches d e (stop_at stops long) s = kept-tabs stops d s long
kept-change prints switches d e (to_other may) s =
    let some : 1 ≤ d.height = s.sized.a_row in
    record { sized = record { two_columns = s.sized.two_columns; columns_limit = s.sized.columns_limit; a_row = s.sized.a_row; rows_limit = s.sized.rows_limit; cells_fill = length-replicate (length d.hidden) (space d) ∙ s.sized.hidden_fill; hidden_fill = s.sized.cells_fill; tabs_fill = s.sized.tabs_fill; cursor_row = s.sized.cursor_row; cursor_column = s.sized.cursor_column; saved_row = omega arith; saved_column = omega arith; hidden_row = s.sized.cursor_row; hidden_column = s.sized.cursor_column; margins = s.sized.margins; margins_within = s.sized.margins_within }; whole = whole-blanks d.width (length d.hidden) (space d) refl refl; hidden_whole = s.whole; in_margins = s.in_margins }
kept-change prints switches d e back s =
    let some : 1 ≤ d.height = s.sized.a_row in
    record { sized = record { two_columns = s.sized.two_columns; columns_limit = s.sized.columns_limit; a_row = s.sized.a_row; rows_limit = s.sized.rows_limit; cells_fill = s.sized.hidden_fill; hidden_fill = length-replicate (length d.cells) (blank plain) ∙ s.sized.cells_fill; tabs_fill = s.sized.tabs_fill; cursor_row = s.sized.cursor_row; cursor_column = s.sized.cursor_column; saved_row = s.sized.hidden_row; saved_column = s.sized.hidden_column; hidden_row = omega arith; hidden_column = omega arith; margins = s.sized.margins; margins_within = s.sized.margins_within }; whole = s.hidden_whole; hidden_whole = whole-blanks d.width (length d.cells) (blank plain) refl refl; in_margins = s.in_margins }
kept-change prints switches d e soften s =
    let some : 1 ≤ d.height = s.sized.a_row in
    let none : ℕ = 0 in
    record { sized = record { two_columns = s.sized.two_columns; columns_limit = s.sized.columns_limit; a_row = s.sized.a_row; rows_limit = s.sized.rows_limit; cells_fill = s.sized.cells_fill; hidden_fill = s.sized.hidden_fill; tabs_fill = s.sized.tabs_fill; cursor_row = s.sized.cursor_row; cursor_column = s.sized.cursor_column; saved_row = omega arith; saved_column = omega arith; hidden_row = s.sized.hidden_row; hidden_column = s.sized.hidden_column; margins = omega arith; margins_within = omega arith }; whole = s.whole; hidden_whole = s.hidden_whole; in_margins = λ relative. cc relative }
kept-change prints switches d e renew s =
    new-screen d.width d.height s.sized.two_columns s.sized.columns_limit s.sized.a_row s.sized.rows_limit
kept-change prints switches d e step s = kept-quiet d e refl s
