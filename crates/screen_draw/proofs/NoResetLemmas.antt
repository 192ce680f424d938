-- An update has no reset.
use Rattle.std.proofs.Common.{ℕ, zero, suc, Bool, true, false, List, [], ◌∷◌, ◌++◌, refl}
use Rattle.std.specs.Prelude.{◌+◌, ◌-◌, ◌%◌, ◌/◌, min, ◌&&◌, not, ◌==◌, if◌then◌else◌, Option, None, Some}
use Rattle.std.specs.Bool.{beq}
use Rattle.anstyle_parse.specs.Stream.Call.{Call}
use Rattle.ansi_style.specs.Style.{are_equal}
use Rattle.ansi_style.specs.declared.style.Style.{Style}
use Rattle.ansi_screen.specs.declared.cell.Cell.{Cell}
use Rattle.ansi_screen.specs.declared.cell.Marks.{Marks}
use Rattle.ansi_screen.specs.declared.cell.Marks.TheVariants.{Unmarked, One, Two}
use Rattle.ansi_screen.specs.declared.place.Place.{Place}
use Rattle.ansi_screen.specs.Cells.{is_right}
use Rattle.ansi_screen.specs.Display.{Display, row_cells}
use Rattle.screen_draw.specs.declared.cells.Pen.{Pen}
use Rattle.screen_draw.specs.declared.changes.Brush.{Brush}
use Rattle.screen_draw.specs.Alike.{looks_same, is_steady}
use Rattle.screen_draw.specs.Draw.{escape, sequence, private_mode, position, select, is_erased, is_fresh, space_if, last_cell, last_column, place_cell_calls, marks_calls, character_calls, style_calls, charsets_calls, there_calls, shown_calls, cell_calls, cells_calls, pen_behind, first_pen, wrap_calls, place_calls, plain_calls, saved_calls, screen_calls, covered_calls, stop_calls, stops_calls, cursor_calls, modes_calls, margins_calls, rest_calls, shown_screen_calls}
use Rattle.screen_draw.specs.Drawing.{HaveNoReset}
use Rattle.screen_draw.specs.Update.{erased_columns, is_done, wants_wrap, move_calls, painted_calls, change_calls, brush_behind, row_calls, begun_at, place_behind, rows_calls, cursor_changes, mode_changes, changes_from, margin_changes, place_at_first, changes_calls, reset_stop_calls, reset_stops_calls, leave_calls, reset_modes, cleared_calls, update_calls}

both : (xs ys : List Call) → HaveNoReset xs → HaveNoReset ys → HaveNoReset (xs ++ ys)
both [] ys first second = second
both (x ∷ xs) ys first second = (first.0, both xs ys first.1 second)

either : (t : Bool) (xs ys : List Call) → HaveNoReset xs → HaveNoReset ys → HaveNoReset (if t then xs else ys)
either true xs ys first second = first
either false xs ys first second = second

of-marks : (marks : Marks) → HaveNoReset (marks_calls marks)
of-marks Unmarked = tt
of-marks (One first) = (refl, tt)
of-marks (Two first second) = (refl, (refl, tt))

of-character : (cell : Cell) → HaveNoReset (character_calls cell)
of-character cell = (refl, of-marks cell.marks)

of-style : (selected wanted : Style) → HaveNoReset (style_calls selected wanted)
of-style selected wanted = either (are_equal selected wanted) [] (select wanted ∷ []) tt (refl, tt)

of-plain : HaveNoReset plain_calls
of-plain = (refl, (refl, (refl, (refl, (refl, tt)))))

of-wrap : (last : Option Cell) → HaveNoReset (wrap_calls last)
of-wrap None = tt
of-wrap (Some cell) = (refl, of-character cell)

-- changes
of-move : (place : Place) (row column : ℕ) → HaveNoReset (move_calls place row column)
unfolding move_calls
of-move place row column =
    either (place.row == row)
    (if place.column == column then [] else sequence ((column + 1) ∷ []) 0x47 ∷ [])
    (position row column ∷ [])
    (either (place.column == column) [] (sequence ((column + 1) ∷ []) 0x47 ∷ []) tt (refl, tt))
    (refl, tt)

of-painted : (cell : Cell) (olds cells : List Cell) → HaveNoReset (painted_calls cell olds cells)
of-painted cell olds cells =
    either (is_erased cell) (sequence (erased_columns cell.style olds cells ∷ []) 0x58 ∷ []) (character_calls cell)
    (refl, tt)
    (of-character cell)

of-change : (row column : ℕ) (brush : Brush) (old new : Cell) (olds cells : List Cell) → HaveNoReset (change_calls row column brush old new olds cells)
unfolding change_calls
of-change row column brush old new olds cells =
    let move = move_calls brush.place row column in
    let style = style_calls brush.place.style new.style in
    let painted = painted_calls new olds cells in
    either (is_done brush old new) [] (move ++ (style ++ painted)) tt
    (both move (style ++ painted) (of-move brush.place row column)
    (both style painted (of-style brush.place.style new.style) (of-painted new olds cells)))

of-row : (row column : ℕ) (brush : Brush) (olds news : List Cell) → HaveNoReset (row_calls row column brush olds news)
of-row row column brush [] news = tt
of-row row column brush (old ∷ olds) [] = tt
of-row row column brush (old ∷ olds) (new ∷ news) =
    let behind = brush_behind row column brush old new news in
    both (change_calls row column brush old new olds news) (row_calls row (suc column) behind olds news)
    (of-change row column brush old new olds news)
    (of-row row (suc column) behind olds news)

of-rows : (n : ℕ) (start : Place) (shown wanted : Display) → HaveNoReset (rows_calls n start shown wanted)
of-rows zero start shown wanted = tt
of-rows (suc n) start shown wanted =
    let brush = begun_at (place_behind n start shown wanted) in
    both (rows_calls n start shown wanted) (row_calls n 0 brush (row_cells n shown) (row_cells n wanted))
    (of-rows n start shown wanted)
    (of-row n 0 brush (row_cells n shown) (row_cells n wanted))

of-cursor_changes : (place : Place) (wanted : Display) → HaveNoReset (cursor_changes place wanted)
of-cursor_changes place wanted =
    let wrap = wrap_calls (Some (last_cell wanted)) in
    let selected = select wanted.cursor.style ∷ [] in
    let move = move_calls place wanted.cursor.row wanted.cursor.column in
    let style = style_calls place.style wanted.cursor.style in
    either (wants_wrap place wanted)
    (position wanted.cursor.row (last_column wanted) ∷ (wrap ++ selected))
    (move ++ style)
    (refl, both wrap selected (of-wrap (Some (last_cell wanted))) (refl, tt))
    (both move style
    (of-move place wanted.cursor.row wanted.cursor.column)
    (of-style place.style wanted.cursor.style))

of-mode : (mode : ℕ) (old new : Bool) → HaveNoReset (mode_changes mode old new)
of-mode mode old new = either (beq old new) [] (private_mode mode new ∷ []) tt (refl, tt)

of-changes_from : (start : Place) (shown wanted : Display) → HaveNoReset (changes_from start shown wanted)
of-changes_from start shown wanted =
    let place = place_behind wanted.height start shown wanted in
    let cursor = cursor_changes place wanted in
    let wraps = mode_changes 7 shown.wraps wanted.wraps in
    let visible = mode_changes 25 shown.is_visible wanted.is_visible in
    both (rows_calls wanted.height start shown wanted) (cursor ++ (wraps ++ visible)) (of-rows wanted.height start shown wanted)
    (both cursor (wraps ++ visible) (of-cursor_changes place wanted)
    (both wraps visible (of-mode 7 shown.wraps wanted.wraps) (of-mode 25 shown.is_visible wanted.is_visible)))

of-changes : (shown wanted : Display) → HaveNoReset (changes_calls shown wanted)
of-changes shown wanted =
    let start = place_at_first shown wanted in
    both (margin_changes shown wanted) (changes_from start shown wanted)
    (either _ [] (margins_calls wanted) tt (refl, tt))
    (of-changes_from start shown wanted)

-- all as on a new screen
of-reset_stop : (column : ℕ) (stops : Bool) → HaveNoReset (reset_stop_calls column stops)
of-reset_stop column true =
    either (column % 8 == 0) [] (sequence ((column + 1) ∷ []) 0x47 ∷ sequence (0 ∷ []) 0x67 ∷ []) tt (refl, (refl, tt))
of-reset_stop column false =
    either (column % 8 == 0) (sequence ((column + 1) ∷ []) 0x47 ∷ escape 0x48 ∷ []) [] (refl, (refl, tt)) tt

of-reset_stops : (column : ℕ) (stops : List Bool) → HaveNoReset (reset_stops_calls column stops)
of-reset_stops column [] = tt
of-reset_stops column (stop ∷ stops) =
    both (reset_stop_calls column stop) (reset_stops_calls (suc column) stops)
    (of-reset_stop column stop)
    (of-reset_stops (suc column) stops)

of-cleared : (shown : Display) → HaveNoReset (cleared_calls shown)
of-cleared shown =
    let last = sequence (2 ∷ []) 0x4A ∷ escape 0x37 ∷ [] in
    let stops = reset_stops_calls 0 shown.tabs in
    both (leave_calls shown.is_alternate) (reset_modes ++ (plain_calls ++ (stops ++ (plain_calls ++ last))))
    (either shown.is_alternate (private_mode 1049 false ∷ []) [] (refl, tt) tt)
    (both reset_modes (plain_calls ++ (stops ++ (plain_calls ++ last))) (refl, (refl, (refl, (refl, tt))))
    (both plain_calls (stops ++ (plain_calls ++ last)) of-plain
    (both stops (plain_calls ++ last) (of-reset_stops 0 shown.tabs)
    (both plain_calls last of-plain (refl, (refl, tt))))))

-- a whole screen
of-there : (width place : ℕ) (pen : Pen) → HaveNoReset (there_calls width place pen)
of-there width place pen =
    either (pen.is_there && not (place % width == 0)) [] (position (place / width) (place % width) ∷ []) tt (refl, tt)

of-cell_shown : (cell : Cell) → HaveNoReset (shown_calls cell)
of-cell_shown cell =
    either (is_erased cell) (sequence (1 ∷ []) 0x58 ∷ []) (character_calls cell) (refl, tt) (of-character cell)

of-cell : (width place : ℕ) (pen : Pen) (cell : Cell) → HaveNoReset (cell_calls width place pen cell)
unfolding cell_calls
of-cell width place pen cell =
    let there = there_calls width place pen in
    let style = style_calls pen.style cell.style in
    either (is_fresh cell) [] (if is_right cell.part then [] else place_cell_calls width place pen cell) tt
    (either (is_right cell.part) [] (place_cell_calls width place pen cell) tt
    (both there (style ++ shown_calls cell) (of-there width place pen)
    (both style (shown_calls cell) (of-style pen.style cell.style) (of-cell_shown cell))))

of-cells : (width place : ℕ) (pen : Pen) (cells : List Cell) → HaveNoReset (cells_calls width place pen cells)
of-cells width place pen [] = tt
of-cells width place pen (cell ∷ cells) =
    both (cell_calls width place pen cell) (cells_calls width (suc place) (pen_behind cell pen) cells)
    (of-cell width place pen cell)
    (of-cells width (suc place) (pen_behind cell pen) cells)

of-place : (top column : ℕ) (last : Option Cell) (place : Place) → HaveNoReset (place_calls top column last place)
of-place top column last place = (
  refl,
  (
    refl,
    both (wrap_calls last) (charsets_calls place.charsets ++ (select place.style ∷ [])) (of-wrap last)
        (refl, (refl, (refl, (refl, tt)))),
  ),
)

of-saved : (width : ℕ) (saved : Place) → HaveNoReset (saved_calls width saved)
of-saved width saved =
    let column = min saved.column (width - 1) in
    let space = space_if (saved.column == width) in
    let there = place_calls 0 column space saved in
    both plain_calls (there ++ (escape 0x37 ∷ [])) of-plain
    (both there (escape 0x37 ∷ []) (of-place 0 column space saved) (refl, tt))

of-screen : (width : ℕ) (saved : Place) (cells : List Cell) → HaveNoReset (screen_calls width saved cells)
of-screen width saved cells =
    let drawn = sequence (2 ∷ []) 0x4A ∷ cells_calls width 0 first_pen cells in
    both (saved_calls width saved) (plain_calls ++ drawn) (of-saved width saved)
    (both plain_calls drawn of-plain (refl, of-cells width 0 first_pen cells))

of-stop : (column : ℕ) (stops : Bool) → HaveNoReset (stop_calls column stops)
of-stop column true =
    either (column % 8 == 0) [] (sequence ((column + 1) ∷ []) 0x47 ∷ escape 0x48 ∷ []) tt (refl, (refl, tt))
of-stop column false =
    either (column % 8 == 0) (sequence ((column + 1) ∷ []) 0x47 ∷ sequence (0 ∷ []) 0x67 ∷ []) [] (refl, (refl, tt)) tt

of-stops : (column : ℕ) (stops : List Bool) → HaveNoReset (stops_calls column stops)
of-stops column [] = tt
of-stops column (stop ∷ stops) =
    both (stop_calls column stop) (stops_calls (suc column) stops)
    (of-stop column stop)
    (of-stops (suc column) stops)

of-cursor : (d : Display) → HaveNoReset (cursor_calls d)
of-cursor d =
    either (d.cursor.column == d.width)
    (place_calls d.top (last_column d) (Some (last_cell d)) d.cursor)
    (place_calls d.top d.cursor.column None d.cursor)
    (of-place d.top (last_column d) (Some (last_cell d)) d.cursor)
    (of-place d.top d.cursor.column None d.cursor)

of-rest : (d : Display) → HaveNoReset (rest_calls d)
of-rest d =
    let margins = sequence ((d.top + 1) ∷ d.bottom ∷ []) 0x72 in
    let behind = margins ∷ (cursor_calls d ++ modes_calls d) in
    both plain_calls (stops_calls 0 d.tabs ++ behind) of-plain
    (both (stops_calls 0 d.tabs) behind (of-stops 0 d.tabs)
    (refl, both (cursor_calls d) (modes_calls d) (of-cursor d) (refl, (refl, (refl, tt)))))

of-covered : (d : Display) → HaveNoReset (covered_calls d)
of-covered d =
    let screen = screen_calls d.width d.hidden_saved d.hidden in
    let left = escape 0x38 ∷ private_mode 1049 true ∷ [] in
    either d.is_alternate (screen ++ left) []
    (both screen left (of-screen d.width d.hidden_saved d.hidden) (refl, (refl, tt)))
    tt

of-shown : (d : Display) → HaveNoReset (shown_screen_calls d)
of-shown d =
    let screen = screen_calls d.width d.saved d.cells in
    both (covered_calls d) (screen ++ rest_calls d) (of-covered d)
    (both screen (rest_calls d) (of-screen d.width d.saved d.cells) (of-rest d))

pub no-reset : (shown wanted : Display) → HaveNoReset (update_calls shown wanted)
no-reset shown wanted =
    let drawn = cleared_calls shown ++ shown_screen_calls wanted in
    either (is_steady shown wanted) (changes_calls shown wanted) (if looks_same shown wanted then [] else drawn)
    (of-changes shown wanted)
    (either (looks_same shown wanted) [] drawn tt
    (both (cleared_calls shown) (shown_screen_calls wanted) (of-cleared shown) (of-shown wanted)))
