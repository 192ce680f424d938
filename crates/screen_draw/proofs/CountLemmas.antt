-- How many calls an update has: five at most for each cell that differs, and nine.
use Rattle.std.proofs.Common.{◌≡◌, ◌≤◌, ℕ, zero, suc, ◌+◌, ◌*◌, Bool, true, false, List, [], ◌∷◌, ◌++◌, length, refl, sym, ap, subst, arith, length-append}
use Rattle.std.specs.Prelude.{◌==◌, if◌then◌else◌}
use Rattle.std.specs.Bool.{beq}
use Rattle.anstyle_parse.specs.Stream.Call.{Call}
use Rattle.ansi_style.specs.Style.{are_equal}
use Rattle.ansi_style.specs.declared.style.Style.{Style}
use Rattle.ansi_screen.specs.declared.cell.Cell.{Cell}
use Rattle.ansi_screen.specs.declared.cell.Marks.{Marks}
use Rattle.ansi_screen.specs.declared.cell.Marks.TheVariants.{Unmarked, One, Two}
use Rattle.ansi_screen.specs.declared.place.Place.{Place}
use Rattle.ansi_screen.specs.Display.{Display, row_cells}
use Rattle.screen_draw.specs.declared.changes.Brush.{Brush}
use Rattle.screen_draw.specs.Alike.{are_alike, has_same_margins, is_steady, looks_same}
use Rattle.screen_draw.specs.Bound.{differing, differing_rows, differing_cells, calls_of_cell, calls_of_rest}
use Rattle.screen_draw.specs.Draw.{sequence, position, select, private_mode, marks_calls, character_calls, is_erased, style_calls, margins_calls, last_cell, last_column, shown_screen_calls}
use Rattle.screen_draw.specs.Update.{move_calls, erased_columns, painted_calls, is_done, change_calls, brush_behind, row_calls, begun_at, place_behind, rows_calls, wants_wrap, cursor_changes, mode_changes, margin_changes, place_at_first, changes_calls, cleared_calls, update_calls}
use Rattle.screen_draw.proofs.UnchangedLemmas.{alike-nothing}

if-few : (t : Bool) (xs ys : List Call) (n : ℕ) → length xs ≤ n → length ys ≤ n → length (if t then xs else ys) ≤ n
if-few true xs ys n first second = first
if-few false xs ys n first second = second

move-few : (place : Place) (row column : ℕ) → length (move_calls place row column) ≤ 1
unfolding move_calls
move-few place row column =
    if-few (place.row == row) (if place.column == column then [] else sequence ((column + 1) ∷ []) 0x47 ∷ []) (position row column ∷ []) 1
    (if-few (place.column == column) [] (sequence ((column + 1) ∷ []) 0x47 ∷ []) 1 (omega arith) (omega arith)) (omega arith)

style-few : (selected wanted : Style) → length (style_calls selected wanted) ≤ 1
style-few selected wanted = if-few (are_equal selected wanted) [] (select wanted ∷ []) 1 (omega arith) (omega arith)

marks-few : (marks : Marks) → length (marks_calls marks) ≤ 2
marks-few Unmarked = omega arith
marks-few (One first) = omega arith
marks-few (Two first second) = omega arith

character-few : (cell : Cell) → length (character_calls cell) ≤ 3
character-few cell = omega (arith, marks-few cell.marks)

painted-few : (cell : Cell) (olds cells : List Cell) → length (painted_calls cell olds cells) ≤ 3
painted-few cell olds cells =
    if-few (is_erased cell) (sequence (erased_columns cell.style olds cells ∷ []) 0x58 ∷ []) (character_calls cell) 3 (omega arith) (character-few cell)

change-any : (row column : ℕ) (brush : Brush) (old new : Cell) (olds cells : List Cell) → length (change_calls row column brush old new olds cells) ≤ 5
unfolding change_calls
change-any row column brush old new olds cells =
    let moves = move_calls brush.place row column in
    let styles = style_calls brush.place.style new.style in
    let painted = painted_calls new olds cells in
    if-few (is_done brush old new) [] (moves ++ (styles ++ painted)) 5 (omega arith)
    (omega (arith, length-append moves (styles ++ painted), length-append styles painted, move-few brush.place row column, style-few brush.place.style new.style, painted-few new olds cells))

change-few : (row column : ℕ) (brush : Brush) (old new : Cell) (olds cells : List Cell) (alike : Bool) → are_alike old new ≡ alike
    → length (change_calls row column brush old new olds cells) ≤ 5 * (if are_alike old new then 0 else 1)
change-few row column brush old new olds cells true is =
    subst (λ (calls : List Call). length calls ≤ 5 * (if are_alike old new then 0 else 1)) (sym (alike-nothing row column brush old new olds cells is)) (omega arith)
change-few row column brush old new olds cells false is =
    let one : ◌≡◌ {A = ℕ} (if are_alike old new then 0 else 1) 1 = rw is refl in
    omega (arith, one, change-any row column brush old new olds cells)

row-few : (row column : ℕ) (brush : Brush) (olds news : List Cell) → length (row_calls row column brush olds news) ≤ 5 * differing olds news
row-few row column brush [] news = omega arith
row-few row column brush (old ∷ olds) [] = omega arith
row-few row column brush (old ∷ olds) (new ∷ news) =
    let calls = change_calls row column brush old new olds news in
    let then_brush = brush_behind row column brush old new news in
    omega (
      arith,
      length-append calls (row_calls row (suc column) then_brush olds news),
      change-few row column brush old new olds news (are_alike old new) refl,
      row-few row (suc column) then_brush olds news,
    )

rows-few : (rows : ℕ) (place : Place) (shown wanted : Display) → length (rows_calls rows place shown wanted) ≤ 5 * differing_rows rows shown wanted
rows-few zero place shown wanted = omega arith
rows-few (suc row) place shown wanted =
    let brush = begun_at (place_behind row place shown wanted) in
    let olds = row_cells row shown in
    let news = row_cells row wanted in
    omega (
      arith,
      length-append (rows_calls row place shown wanted) (row_calls row 0 brush olds news),
      rows-few row place shown wanted,
      row-few row 0 brush olds news,
    )

cursor-few : (place : Place) (wanted : Display) → length (cursor_changes place wanted) ≤ 6
cursor-few place wanted =
    let once_more = character_calls (last_cell wanted) in
    let moves = move_calls place wanted.cursor.row wanted.cursor.column in
    let styles = style_calls place.style wanted.cursor.style in
    if-few (wants_wrap place wanted)
    (position wanted.cursor.row (last_column wanted) ∷ ((select (last_cell wanted).style ∷ once_more) ++ select wanted.cursor.style ∷ []))
    (moves ++ styles) 6
    (omega (arith, length-append once_more (select wanted.cursor.style ∷ []), character-few (last_cell wanted)))
    (omega (arith, length-append moves styles, move-few place wanted.cursor.row wanted.cursor.column, style-few place.style wanted.cursor.style))

mode-few : (mode : ℕ) (old new : Bool) → length (mode_changes mode old new) ≤ 1
mode-few mode old new = if-few (beq old new) [] (private_mode mode new ∷ []) 1 (omega arith) (omega arith)

margins-few : (shown wanted : Display) → length (margin_changes shown wanted) ≤ 1
margins-few shown wanted = if-few (has_same_margins shown wanted) [] (margins_calls wanted) 1 (omega arith) (omega arith)

changes-few : (shown wanted : Display) → length (changes_calls shown wanted) ≤ calls_of_cell * differing_cells shown wanted + calls_of_rest
changes-few shown wanted =
    let place = place_at_first shown wanted in
    let rows = rows_calls wanted.height place shown wanted in
    let cursor = cursor_changes (place_behind wanted.height place shown wanted) wanted in
    let wraps = mode_changes 7 shown.wraps wanted.wraps in
    let visible = mode_changes 25 shown.is_visible wanted.is_visible in
    omega (
      arith,
      length-append (margin_changes shown wanted) (rows ++ (cursor ++ (wraps ++ visible))),
      length-append rows (cursor ++ (wraps ++ visible)),
      length-append cursor (wraps ++ visible),
      length-append wraps visible,
      margins-few shown wanted,
      rows-few wanted.height place shown wanted,
      cursor-few (place_behind wanted.height place shown wanted) wanted,
      mode-few 7 shown.wraps wanted.wraps,
      mode-few 25 shown.is_visible wanted.is_visible,
    )

pub update-few : (shown wanted : Display) → is_steady shown wanted ≡ true → length (update_calls shown wanted) ≤ calls_of_cell * differing_cells shown wanted + calls_of_rest
update-few shown wanted steady =
    let calls : update_calls shown wanted ≡ changes_calls shown wanted =
    ap (λ (t : Bool). if t then changes_calls shown wanted else if looks_same shown wanted then [] else cleared_calls shown ++ shown_screen_calls wanted) steady in
    subst (λ (l : List Call). length l ≤ calls_of_cell * differing_cells shown wanted + calls_of_rest) (sym calls) (changes-few shown wanted)
