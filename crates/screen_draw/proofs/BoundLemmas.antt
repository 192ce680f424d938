-- How long a drawing and an update are: the bytes of a call by what it has, and the calls of each part.
use Rattle.std.proofs.Common.{◌≡◌, ℕ, zero, suc, ◌+◌, ◌*◌, ◌<◌, ◌≤◌, Bool, true, false, List, [], ◌∷◌, ◌++◌, length, drop, map, sym, ap, subst, arith, lit<, lt_of_le_of_lt, length-append, length-take}
use Rattle.std.specs.Prelude.{◌-◌, ◌%◌, ◌/◌, min, ◌&&◌, not, ◌==◌, if◌then◌else◌, Option, None, Some}
use Rattle.std.specs.Bool.{beq}
use Rattle.std.specs.Fmt.{decimal}
use Rattle.std.specs.List.{AllByRecursion, concat}
use Rattle.std.proofs.lemmas.Fmt.{length-decimal-le}
use Rattle.std.proofs.lemmas.Str.{length-encode, len_utf8_bounds}
use Rattle.anstyle_parse.specs.Stream.Arguments.{max_fields, max_field, after_marker}
use Rattle.anstyle_parse.specs.Stream.Call.{Call, print, execute, hook, put, unhook, osc_dispatch, csi_dispatch, esc_dispatch}
use Rattle.anstyle_parse.specs.Stream.Bytes.{colon, semicolon}
use Rattle.anstyle_parse.specs.Stream.Canon.{leading_marker, header_text, escape_text, call_text, canon}
use Rattle.anstyle_parse.specs.Stream.Groups.{fields_text, groups_text}
use Rattle.anstyle_parse.specs.Laws.Lawful.{IsGroup, IsHeaderCall}
use Rattle.anstyle_parse.proofs.Canonical.Shown.{leading_marker-after_marker}
use Rattle.anstyle_parse.proofs.Lists.Parts.{spaced, length-join_with_byte}
use Rattle.ansi_style.specs.Style.{are_equal}
use Rattle.ansi_style.specs.declared.style.Style.{Style}
use Rattle.ansi_screen.specs.declared.cell.Cell.{Cell}
use Rattle.ansi_screen.specs.declared.cell.Marks.{Marks}
use Rattle.ansi_screen.specs.declared.cell.Marks.TheVariants.{Unmarked, One, Two}
use Rattle.ansi_screen.specs.declared.place.Charsets.{Charsets}
use Rattle.ansi_screen.specs.declared.place.Place.{Place}
use Rattle.ansi_screen.specs.Cells.{is_right}
use Rattle.ansi_screen.specs.Display.{Display, IsSized, row_cells}
use Rattle.screen_draw.specs.declared.cells.Pen.{Pen}
use Rattle.screen_draw.specs.declared.changes.Brush.{Brush}
use Rattle.screen_draw.specs.Alike.{looks_same, is_steady}
use Rattle.screen_draw.specs.Bound.{cell_bytes, column_bytes, draw_bound, update_bound}
use Rattle.screen_draw.specs.Draw.{escape, sequence, private_mode, position, select, is_erased, is_fresh, space_if, last_cell, last_column, place_cell_calls, marks_calls, character_calls, style_calls, charsets_calls, there_calls, shown_calls, cell_calls, cells_calls, pen_behind, first_pen, wrap_calls, place_calls, plain_calls, saved_calls, screen_calls, covered_calls, stop_calls, stops_calls, cursor_calls, modes_calls, margins_calls, rest_calls, shown_screen_calls, drawn_calls}
use Rattle.screen_draw.specs.Drawing.{IsDrawing}
use Rattle.screen_draw.specs.Update.{erased_columns, is_done, wants_wrap, move_calls, painted_calls, change_calls, brush_behind, row_calls, begun_at, place_behind, rows_calls, cursor_changes, mode_changes, changes_from, margin_changes, place_at_first, changes_calls, reset_stop_calls, reset_stops_calls, leave_calls, reset_modes, cleared_calls, update_calls}

-- the bytes of a call: two, what is collected, and each field with the byte behind it
abbrev weight : Call → ℕ
weight (print c) = 4
weight (execute byte) = 1
weight (csi_dispatch groups intermediates ignore final) = 2 + length intermediates + 6 * min max_fields (length (concat groups))
weight (esc_dispatch intermediates ignore final) = 2 + length intermediates
weight call = 0

abbrev weigh : List Call → ℕ
weigh [] = 0
weigh (call ∷ calls) = weight call + weigh calls

-- a field has five digits at most
digits-of-field : (n : ℕ) → n ≤ max_field → length (decimal n) ≤ 5
digits-of-field n small = length-decimal-le 5 n (omega arith) (omega (arith, small)) (lt_of_le_of_lt small (lit< tt))

spaced-fields : (group : List ℕ) → AllByRecursion (λ n. n ≤ max_field) group → spaced (map decimal group) ≤ 6 * length group
spaced-fields [] are = omega arith
spaced-fields (n ∷ group) are = omega (arith, digits-of-field n are.0, spaced-fields group are.1)

length-group : (group : List ℕ) → IsGroup group → suc (length (fields_text group)) ≤ 6 * length group
length-group [] is = absurd (omega (arith, is.0))
length-group (n ∷ group) is = omega (arith, length-join_with_byte colon (decimal n) (map decimal group), spaced-fields (n ∷ group) is.1)

spaced-groups : (groups : List (List ℕ)) → AllByRecursion IsGroup groups → spaced (map fields_text groups) ≤ 6 * length (concat groups)
spaced-groups [] are = omega arith
spaced-groups (group ∷ groups) are =
    omega (arith, length-group group are.0, spaced-groups groups are.1, length-append group (concat groups))

length-groups : (groups : List (List ℕ)) → AllByRecursion IsGroup groups → 0 < length groups → suc (length (groups_text groups)) ≤ 6 * length (concat groups)
length-groups [] are some = absurd (omega (arith, some))
length-groups (group ∷ groups) are some =
    omega (arith, length-join_with_byte semicolon (fields_text group) (map fields_text groups), spaced-groups (group ∷ groups) are)

length-header : (groups : List (List ℕ)) (intermediates : List ℕ) → length (header_text groups intermediates false) ≡ length intermediates + length (groups_text groups)
unfolding header_text
length-header groups intermediates =
    let first = leading_marker intermediates in
    let rest = after_marker intermediates in
    let fields = groups_text groups in
    omega (
      arith,
      length-append first ((fields ++ []) ++ (rest ++ [])),
      length-append (fields ++ []) (rest ++ []),
      length-append fields [],
      length-append rest [],
      ap length (leading_marker-after_marker intermediates),
      length-append first rest,
    )

length-control : (groups : List (List ℕ)) (intermediates : List ℕ) (final : ℕ) → IsHeaderCall groups intermediates false final
    → length (call_text (csi_dispatch groups intermediates false final)) ≤ weight (csi_dispatch groups intermediates false final)
length-control groups intermediates final is =
    omega (
      arith,
      length-append (header_text groups intermediates false) (final ∷ []),
      length-header groups intermediates,
      length-groups groups is.groups_fit is.some_field,
      is.fields_fit,
    )

length-escape : (intermediates : List ℕ) (final : ℕ) → length (call_text (esc_dispatch intermediates false final)) ≤ weight (esc_dispatch intermediates false final)
unfolding escape_text
length-escape intermediates final =
    omega (arith, length-append (intermediates ++ []) (final ∷ []), length-append intermediates [])

length-call : (call : Call) → IsDrawing call → length (call_text call) ≤ weight call
length-call (print c) is = omega (arith, length-encode c, (len_utf8_bounds c).1)
length-call (execute byte) is = omega arith
length-call (csi_dispatch groups intermediates ignore final) is =
    subst (λ i. length (call_text (csi_dispatch groups intermediates i final)) ≤ weight (csi_dispatch groups intermediates i final)) (sym is.1)
    (length-control groups intermediates final (subst (λ i. IsHeaderCall groups intermediates i final) is.1 is.0))
length-call (esc_dispatch intermediates ignore final) is =
    subst (λ i. length (call_text (esc_dispatch intermediates i final)) ≤ weight (esc_dispatch intermediates i final)) (sym is.1)
    (length-escape intermediates final)
length-call (hook groups intermediates ignore final) is = absurd is
length-call (put byte) is = absurd is
length-call unhook is = absurd is
length-call (osc_dispatch parts bell_terminated) is = absurd is

length-calls : (calls : List Call) → AllByRecursion IsDrawing calls → length (canon calls) ≤ weigh calls
length-calls [] are = omega arith
length-calls (call ∷ calls) are =
    omega (arith, length-append (call_text call) (canon calls), length-call call are.0, length-calls calls are.1)

-- parts, one after another; and one of two
both : (xs ys : List Call) → weigh (xs ++ ys) ≡ weigh xs + weigh ys
both [] ys = omega arith
both (x ∷ xs) ys = omega (arith, both xs ys)

either : (n : ℕ) (t : Bool) (xs ys : List Call) → weigh xs ≤ n → weigh ys ≤ n → weigh (if t then xs else ys) ≤ n
either n true xs ys first second = first
either n false xs ys first second = second

of-select : (style : Style) → weigh (select style ∷ []) ≤ 194
of-select style = omega arith

of-marks : (marks : Marks) → weigh (marks_calls marks) ≤ 8
of-marks Unmarked = omega arith
of-marks (One first) = omega arith
of-marks (Two first second) = omega arith

of-character : (cell : Cell) → weigh (character_calls cell) ≤ 12
of-character cell = omega (arith, of-marks cell.marks)

of-style : (selected wanted : Style) → weigh (style_calls selected wanted) ≤ 194
of-style selected wanted = either 194 (are_equal selected wanted) [] (select wanted ∷ []) (omega arith) (of-select wanted)

of-sets : (sets : Charsets) → weigh (charsets_calls sets) ≤ 7
of-sets sets = omega arith

of-plain : weigh plain_calls ≤ 210
of-plain = omega arith

of-wrap : (last : Option Cell) → weigh (wrap_calls last) ≤ 206
of-wrap None = omega arith
of-wrap (Some cell) = omega (arith, of-select cell.style, of-character cell)

-- changes
of-move : (place : Place) (row column : ℕ) → weigh (move_calls place row column) ≤ 14
unfolding move_calls
of-move place row column =
    either 14 (place.row == row)
    (if place.column == column then [] else sequence ((column + 1) ∷ []) 0x47 ∷ [])
    (position row column ∷ [])
    (either 14 (place.column == column) [] (sequence ((column + 1) ∷ []) 0x47 ∷ []) (omega arith) (omega arith))
    (omega arith)

of-painted : (cell : Cell) (olds cells : List Cell) → weigh (painted_calls cell olds cells) ≤ 12
of-painted cell olds cells =
    either 12 (is_erased cell) (sequence (erased_columns cell.style olds cells ∷ []) 0x58 ∷ []) (character_calls cell)
    (omega arith)
    (of-character cell)

of-change : (row column : ℕ) (brush : Brush) (old new : Cell) (olds cells : List Cell) → weigh (change_calls row column brush old new olds cells) ≤ cell_bytes
unfolding change_calls
of-change row column brush old new olds cells =
    let move = move_calls brush.place row column in
    let style = style_calls brush.place.style new.style in
    let painted = painted_calls new olds cells in
    either cell_bytes (is_done brush old new) [] (move ++ (style ++ painted)) (omega arith)
    (omega (arith, both move (style ++ painted), both style painted, of-move brush.place row column, of-style brush.place.style new.style, of-painted new olds cells))

of-row : (row column : ℕ) (brush : Brush) (olds news : List Cell) → weigh (row_calls row column brush olds news) ≤ cell_bytes * length news
of-row row column brush [] news = omega arith
of-row row column brush (old ∷ olds) [] = omega arith
of-row row column brush (old ∷ olds) (new ∷ news) =
    let behind = brush_behind row column brush old new news in
    omega (arith, both (change_calls row column brush old new olds news) (row_calls row (suc column) behind olds news), of-change row column brush old new olds news, of-row row (suc column) behind olds news)

length-row : (row : ℕ) (d : Display) → length (row_cells row d) ≤ d.width
length-row row d = omega (arith, length-take d.width (drop (row * d.width) d.cells))

of-rows : (n : ℕ) (start : Place) (shown wanted : Display) → weigh (rows_calls n start shown wanted) ≤ cell_bytes * (n * wanted.width)
of-rows zero start shown wanted = omega arith
of-rows (suc n) start shown wanted =
    let brush = begun_at (place_behind n start shown wanted) in
    let row = row_calls n 0 brush (row_cells n shown) (row_cells n wanted) in
    let more : suc n * wanted.width ≡ wanted.width + n * wanted.width = omega arith in
    omega (arith, both (rows_calls n start shown wanted) row, of-rows n start shown wanted, of-row n 0 brush (row_cells n shown) (row_cells n wanted), length-row n wanted, more)

of-cursor_changes : (place : Place) (wanted : Display) → weigh (cursor_changes place wanted) ≤ 414
of-cursor_changes place wanted =
    let wrap = wrap_calls (Some (last_cell wanted)) in
    let selected = select wanted.cursor.style ∷ [] in
    let move = move_calls place wanted.cursor.row wanted.cursor.column in
    let style = style_calls place.style wanted.cursor.style in
    either 414 (wants_wrap place wanted)
    (position wanted.cursor.row (last_column wanted) ∷ (wrap ++ selected))
    (move ++ style)
    (omega (arith, both wrap selected, of-wrap (Some (last_cell wanted)), of-select wanted.cursor.style))
    (omega (arith, both move style, of-move place wanted.cursor.row wanted.cursor.column, of-style place.style wanted.cursor.style))

of-mode : (mode : ℕ) (old new : Bool) → weigh (mode_changes mode old new) ≤ 9
of-mode mode old new = either 9 (beq old new) [] (private_mode mode new ∷ []) (omega arith) (omega arith)

of-changes_from : (start : Place) (shown wanted : Display) → weigh (changes_from start shown wanted) ≤ cell_bytes * (wanted.height * wanted.width) + 432
of-changes_from start shown wanted =
    let place = place_behind wanted.height start shown wanted in
    let cursor = cursor_changes place wanted in
    let wraps = mode_changes 7 shown.wraps wanted.wraps in
    let visible = mode_changes 25 shown.is_visible wanted.is_visible in
    omega (
      arith,
      both (rows_calls wanted.height start shown wanted) (cursor ++ (wraps ++ visible)),
      both cursor (wraps ++ visible),
      both wraps visible,
      of-rows wanted.height start shown wanted,
      of-cursor_changes place wanted,
      of-mode 7 shown.wraps wanted.wraps,
      of-mode 25 shown.is_visible wanted.is_visible,
    )

of-margins : (shown wanted : Display) → weigh (margin_changes shown wanted) ≤ 14
of-margins shown wanted = either 14 _ [] (margins_calls wanted) (omega arith) (omega arith)

of-changes : (shown wanted : Display) → weigh (changes_calls shown wanted) ≤ cell_bytes * (wanted.height * wanted.width) + 446
of-changes shown wanted =
    let start = place_at_first shown wanted in
    omega (arith, both (margin_changes shown wanted) (changes_from start shown wanted), of-margins shown wanted, of-changes_from start shown wanted)

-- all as on a new screen
of-reset_stop : (column : ℕ) (stops : Bool) → weigh (reset_stop_calls column stops) ≤ column_bytes
of-reset_stop column true =
    either column_bytes (column % 8 == 0) [] (sequence ((column + 1) ∷ []) 0x47 ∷ sequence (0 ∷ []) 0x67 ∷ []) (omega arith) (omega arith)
of-reset_stop column false =
    either column_bytes (column % 8 == 0) (sequence ((column + 1) ∷ []) 0x47 ∷ escape 0x48 ∷ []) [] (omega arith) (omega arith)

of-reset_stops : (column : ℕ) (stops : List Bool) → weigh (reset_stops_calls column stops) ≤ column_bytes * length stops
of-reset_stops column [] = omega arith
of-reset_stops column (stop ∷ stops) =
    omega (arith, both (reset_stop_calls column stop) (reset_stops_calls (suc column) stops), of-reset_stop column stop, of-reset_stops (suc column) stops)

of-leave : (is_alternate : Bool) → weigh (leave_calls is_alternate) ≤ 9
of-leave is_alternate = either 9 is_alternate (private_mode 1049 false ∷ []) [] (omega arith) (omega arith)

of-cleared : (shown : Display) → weigh (cleared_calls shown) ≤ column_bytes * length shown.tabs + 473
of-cleared shown =
    let last = sequence (2 ∷ []) 0x4A ∷ escape 0x37 ∷ [] in
    let stops = reset_stops_calls 0 shown.tabs in
    omega (
      arith,
      both (leave_calls shown.is_alternate) (reset_modes ++ (plain_calls ++ (stops ++ (plain_calls ++ last)))),
      both reset_modes (plain_calls ++ (stops ++ (plain_calls ++ last))),
      both plain_calls (stops ++ (plain_calls ++ last)),
      both stops (plain_calls ++ last),
      both plain_calls last,
      of-leave shown.is_alternate,
      of-plain,
      of-reset_stops 0 shown.tabs,
    )

-- a whole screen
of-there : (width place : ℕ) (pen : Pen) → weigh (there_calls width place pen) ≤ 14
of-there width place pen =
    either 14 (pen.is_there && not (place % width == 0)) [] (position (place / width) (place % width) ∷ []) (omega arith) (omega arith)

of-cell_shown : (cell : Cell) → weigh (shown_calls cell) ≤ 12
of-cell_shown cell =
    either 12 (is_erased cell) (sequence (1 ∷ []) 0x58 ∷ []) (character_calls cell) (omega arith) (of-character cell)

of-cell : (width place : ℕ) (pen : Pen) (cell : Cell) → weigh (cell_calls width place pen cell) ≤ cell_bytes
unfolding cell_calls
of-cell width place pen cell =
    let there = there_calls width place pen in
    let style = style_calls pen.style cell.style in
    either cell_bytes (is_fresh cell) [] (if is_right cell.part then [] else place_cell_calls width place pen cell) (omega arith)
    (either cell_bytes (is_right cell.part) [] (place_cell_calls width place pen cell) (omega arith)
    (omega (arith, both there (style ++ shown_calls cell), both style (shown_calls cell), of-there width place pen, of-style pen.style cell.style, of-cell_shown cell)))

of-cells : (width place : ℕ) (pen : Pen) (cells : List Cell) → weigh (cells_calls width place pen cells) ≤ cell_bytes * length cells
of-cells width place pen [] = omega arith
of-cells width place pen (cell ∷ cells) =
    let behind = cells_calls width (suc place) (pen_behind cell pen) cells in
    omega (arith, both (cell_calls width place pen cell) behind, of-cell width place pen cell, of-cells width (suc place) (pen_behind cell pen) cells)

of-place : (top column : ℕ) (last : Option Cell) (place : Place) → weigh (place_calls top column last place) ≤ 430
of-place top column last place =
    let sets = charsets_calls place.charsets in
    let style = select place.style ∷ [] in
    omega (arith, both (wrap_calls last) (sets ++ style), both sets style, of-wrap last, of-sets place.charsets, of-select place.style)

of-saved : (width : ℕ) (saved : Place) → weigh (saved_calls width saved) ≤ 642
of-saved width saved =
    let column = min saved.column (width - 1) in
    let space = space_if (saved.column == width) in
    let there = place_calls 0 column space saved in
    omega (arith, both plain_calls (there ++ (escape 0x37 ∷ [])), both there (escape 0x37 ∷ []), of-plain, of-place 0 column space saved)

of-screen : (width : ℕ) (saved : Place) (cells : List Cell) → weigh (screen_calls width saved cells) ≤ cell_bytes * length cells + 860
of-screen width saved cells =
    let drawn = sequence (2 ∷ []) 0x4A ∷ cells_calls width 0 first_pen cells in
    omega (arith, both (saved_calls width saved) (plain_calls ++ drawn), both plain_calls drawn, of-saved width saved, of-plain, of-cells width 0 first_pen cells)

of-stop : (column : ℕ) (stops : Bool) → weigh (stop_calls column stops) ≤ column_bytes
of-stop column true =
    either column_bytes (column % 8 == 0) [] (sequence ((column + 1) ∷ []) 0x47 ∷ escape 0x48 ∷ []) (omega arith) (omega arith)
of-stop column false =
    either column_bytes (column % 8 == 0) (sequence ((column + 1) ∷ []) 0x47 ∷ sequence (0 ∷ []) 0x67 ∷ []) [] (omega arith) (omega arith)

of-stops : (column : ℕ) (stops : List Bool) → weigh (stops_calls column stops) ≤ column_bytes * length stops
of-stops column [] = omega arith
of-stops column (stop ∷ stops) =
    omega (arith, both (stop_calls column stop) (stops_calls (suc column) stops), of-stop column stop, of-stops (suc column) stops)

of-cursor : (d : Display) → weigh (cursor_calls d) ≤ 430
of-cursor d =
    either 430 (d.cursor.column == d.width)
    (place_calls d.top (last_column d) (Some (last_cell d)) d.cursor)
    (place_calls d.top d.cursor.column None d.cursor)
    (of-place d.top (last_column d) (Some (last_cell d)) d.cursor)
    (of-place d.top d.cursor.column None d.cursor)

of-rest : (d : Display) → weigh (rest_calls d) ≤ column_bytes * length d.tabs + 680
of-rest d =
    let margins = sequence ((d.top + 1) ∷ d.bottom ∷ []) 0x72 in
    let behind = margins ∷ (cursor_calls d ++ modes_calls d) in
    omega (
      arith,
      both plain_calls (stops_calls 0 d.tabs ++ behind),
      both (stops_calls 0 d.tabs) behind,
      both (cursor_calls d) (modes_calls d),
      of-plain,
      of-stops 0 d.tabs,
      of-cursor d,
    )

of-covered : (d : Display) → weigh (covered_calls d) ≤ cell_bytes * length d.hidden + 871
of-covered d =
    let screen = screen_calls d.width d.hidden_saved d.hidden in
    let left = escape 0x38 ∷ private_mode 1049 true ∷ [] in
    either (cell_bytes * length d.hidden + 871) d.is_alternate (screen ++ left) []
    (omega (arith, both screen left, of-screen d.width d.hidden_saved d.hidden))
    (omega arith)

of-shown : (d : Display) → weigh (shown_screen_calls d) ≤ cell_bytes * (length d.cells + length d.hidden) + column_bytes * length d.tabs + 2411
of-shown d =
    let screen = screen_calls d.width d.saved d.cells in
    omega (arith, both (covered_calls d) (screen ++ rest_calls d), both screen (rest_calls d), of-covered d, of-screen d.width d.saved d.cells, of-rest d)

pub drawn-bound : (d : Display) → AllByRecursion IsDrawing (drawn_calls d) → length (canon (drawn_calls d)) ≤ draw_bound d
drawn-bound d are = omega (arith, length-calls (drawn_calls d) are, of-shown d)

pub update-bound : (shown wanted : Display) → IsSized wanted → AllByRecursion IsDrawing (update_calls shown wanted)
    → length (canon (update_calls shown wanted)) ≤ update_bound shown wanted
update-bound shown wanted sized are =
    let drawn = cleared_calls shown ++ shown_screen_calls wanted in
    let most = update_bound shown wanted in
    omega (
      arith,
      length-calls (update_calls shown wanted) are,
      either most (is_steady shown wanted) (changes_calls shown wanted) (if looks_same shown wanted then [] else drawn)
          (omega (arith, of-changes shown wanted, sized.cells_fill))
          (either most (looks_same shown wanted) [] drawn (omega arith)
          (omega (arith, both (cleared_calls shown) (shown_screen_calls wanted), of-cleared shown, of-shown wanted))),
    )
