-- How long a picture can be.
use Rattle.std.proofs.Common.{◌≡◌, ◌≤◌, ℕ, zero, suc, ◌+◌, ◌*◌, ◌%◌, ◌/◌, Bool, true, false, ◌&&◌, eqb, List, [], ◌∷◌, ◌++◌, codes, decimal, length, map, drop, refl, ap, ◌∙◌, arith, length-append}
use Rattle.std.specs.Prelude.{◌-◌, nat_lt, slice_index_or, if◌then◌else◌}
use Rattle.std.specs.List.{flat_map}
use Rattle.std.specs.Fmt.{digit_glyph, digits_onto, digits}
use Rattle.std.proofs.Math.Nat.{suc-mul}
use Rattle.std.proofs.lemmas.Bool.{leb-true}
use Rattle.std.proofs.lemmas.Grind.{flat_map-append}
use Rattle.std.proofs.lemmas.List.{length-take}
use Rattle.std.proofs.lemmas.Str.{length-encode, len_utf8_bounds}
use Rattle.ansi_style.specs.declared.style.Style.{Style}
use Rattle.ansi_html.specs.declared.scheme.Scheme.{Scheme}
use Rattle.ansi_html.specs.declared.scheme.Scheme.TheVariants.{Light, Dark, Both}
use Rattle.ansi_html.specs.Css.{css, declared, is_chosen, behind_of, has_ground, ground_css}
use Rattle.ansi_html.specs.Palette.{shades_of}
use Rattle.ansi_html.specs.Html.{escaped_text, is_plain}
use Rattle.ansi_html.specs.Links.{is_none}
use Rattle.ansi_html.proofs.DeclarationLemmas.{is_safe, AreSafe, escaped_text-safe, AreSafe-css, AreSafe-ground}
use Rattle.ansi_html.proofs.LengthLemmas.{AtMost, AtMost-css, AtMost-declared, length-escaped_text}
use Rattle.ansi_html.proofs.LineTagLemmas.{AreSafe-decimal}
use Rattle.ansi_html.proofs.SoundLemmas.{IsSound}
use Rattle.ansi_screen.specs.declared.cell.Cell.{Cell}
use Rattle.ansi_screen.specs.declared.cell.Marks.{Marks}
use Rattle.ansi_screen.specs.declared.cell.Marks.TheVariants.{Unmarked, One, Two}
use Rattle.ansi_screen.specs.Cells.{is_right}
use Rattle.ansi_screen.specs.Display.{Display, row_cells}
use Rattle.ansi_screen.specs.State.{State}
use Rattle.ansi_screen.specs.Leaving.{kept_rows}
use Rattle.screen_html.specs.Links.{Kept, Table, link_at}
use Rattle.screen_svg.specs.declared.drawing.Drawing.{Drawing}
use Rattle.screen_svg.specs.declared.drawing.Extent.{Extent}
use Rattle.screen_svg.specs.Characters.{replaced, character_text, marks_text, cell_text, text_of}
use Rattle.screen_svg.specs.Xml.{Attribute, attribute, Event, start, byte, end, attribute_xml, event_xml, xml}
use Rattle.screen_svg.specs.Runs.{Run, is_shaped, run_columns, run_cells, run_text, runs_of}
use Rattle.screen_svg.specs.Picture.{element, box, class, rectangle, run_ground, text_columns, text_style, shapes_text, shape_place, shape_element, text_kind, text_attributes, text_element, link_begin, linked, is_drawn, text as text_in, run_events, row_events, left_cells, drawn_cells, rows_in, rows_events, cursor_column, cursor_events, page_rules, shape_rules, rules, title_element, dots, bar_attributes, bar, name_place, name, window_events, pair, units_high, corner, view, picture_attributes, page, head, svg}
use Rattle.screen_svg.proofs.AddsLemmas.{xml-bytes}
use Rattle.screen_svg.proofs.GrammarLemmas.{choose}
use Rattle.screen_svg.proofs.RunLemmas.{cells-runs}
use Rattle.screen_svg.proofs.SafeLemmas.{AreSafe-view}
use Rattle.screen_svg.proofs.ShapeLemmas.{AreSafe-place, shapes-few}

-- a number has 64 digits at most
digits-few : (fuel n : ℕ) (bytes : List ℕ) → length (digits_onto fuel 10 false n bytes) ≤ fuel + length bytes
digits-few zero n bytes = omega arith
digits-few (suc fuel) n bytes =
    by_case (eqb (n / 10) 0) (digits-few fuel (n / 10) (digit_glyph false (n % 10) ∷ bytes))
  where
    by_case : (last : Bool) → length (digits_onto fuel 10 false (n / 10) (digit_glyph false (n % 10) ∷ bytes)) ≤ fuel + suc (length bytes)
        → length (if last then digit_glyph false (n % 10) ∷ bytes else digits_onto fuel 10 false (n / 10) (digit_glyph false (n % 10) ∷ bytes)) ≤ suc fuel + length bytes
    by_case true others = omega arith
    by_case false others = omega (arith, others)

decimal-few : (n : ℕ) → length (decimal n) ≤ 64
unfolding digits
decimal-few n = digits-few 64 n []

-- attributes, tags and elements
attribute-length : (it : Attribute) → length (attribute_xml it) ≡ length it.name + length (escaped_text it.value) + 4
attribute-length it =
    let quoted = escaped_text it.value ++ codes "\"" in
    omega (
      arith,
      length-append (codes " ") (it.name ++ (codes "=\"" ++ quoted)),
      length-append it.name (codes "=\"" ++ quoted),
      length-append (codes "=\"") quoted,
      length-append (escaped_text it.value) (codes "\""),
    )

safe-length : (name value : List ℕ) → AreSafe value → length (attribute_xml (attribute name value)) ≡ length name + length value + 4
safe-length name value safe = omega (arith, attribute-length (attribute name value), ap length (escaped_text-safe value safe))

number-few : (name : List ℕ) (n : ℕ) → length (attribute_xml (attribute name (decimal n))) ≤ length name + 68
number-few name n = omega (arith, safe-length name (decimal n) (AreSafe-decimal n), decimal-few n)

start-length : (name : List ℕ) (attributes : List Attribute) → length (event_xml (start name attributes)) ≡ length name + length (flat_map attribute_xml attributes) + 2
start-length name attributes =
    let values = flat_map attribute_xml attributes in
    omega (arith, length-append (codes "<") (name ++ (values ++ codes ">")), length-append name (values ++ codes ">"), length-append values (codes ">"))

end-length : (name : List ℕ) → length (event_xml (end name)) ≡ length name + 3
end-length name = omega (arith, length-append (codes "</") (name ++ codes ">"), length-append name (codes ">"))

element-length : (name : List ℕ) (attributes : List Attribute) (bytes : List ℕ)
    → length (xml (element name attributes bytes)) ≡ length name + length name + length (flat_map attribute_xml attributes) + length (escaped_text bytes) + 5
element-length name attributes bytes =
    omega (
      arith,
      length-append (event_xml (start name attributes)) (xml (map byte bytes ++ (end name ∷ []))),
      ap length (flat_map-append event_xml (map byte bytes) (end name ∷ [])),
      length-append (xml (map byte bytes)) (xml (end name ∷ [])),
      ap length (xml-bytes bytes),
      length-append (event_xml (end name)) [],
      start-length name attributes,
      end-length name,
    )

more-length : (it : Attribute) (others : List Attribute) → length (flat_map attribute_xml (it ∷ others)) ≡ length (attribute_xml it) + length (flat_map attribute_xml others)
more-length it others = length-append (attribute_xml it) (flat_map attribute_xml others)

-- the attributes of a rectangle: 69 for each place, 73 and 74 for the sizes
box-few : (column row columns rows : ℕ) (others : List Attribute)
    → length (flat_map attribute_xml (box column row columns rows ++ others)) ≤ 285 + length (flat_map attribute_xml others)
box-few column row columns rows others =
    let x : Attribute = attribute (codes "x") (decimal (10 * column)) in
    let y : Attribute = attribute (codes "y") (decimal (20 * row)) in
    let width : Attribute = attribute (codes "width") (decimal (10 * columns)) in
    let height : Attribute = attribute (codes "height") (decimal (20 * rows)) in
    omega (
      arith,
      more-length x (y ∷ width ∷ height ∷ others),
      more-length y (width ∷ height ∷ others),
      more-length width (height ∷ others),
      more-length height others,
      number-few (codes "x") (10 * column),
      number-few (codes "y") (20 * row),
      number-few (codes "width") (10 * columns),
      number-few (codes "height") (20 * rows),
    )

ground-few : (style : Style) → length (ground_css style) ≤ 14
unfolding AtMost
ground-few style =
    choose (λ (l : List ℕ). length l ≤ 14) (is_chosen (behind_of style)) (declared (codes "color:") (shades_of (behind_of style)).fixed) (codes "color:inherit;")
    (AtMost-declared (codes "color:") (shades_of (behind_of style)).fixed) (omega arith)

-- the ground of a run
run_ground-few : (row : ℕ) (run : Run) → length (xml (run_ground row run)) ≤ 330
run_ground-few row run =
    let style : Attribute = attribute (codes "style") (ground_css run.first.style) in
    let places = box run.column row (run_columns run) 1 in
    choose (λ (l : List Event). length (xml l) ≤ 330) (has_ground run.first.style) (rectangle (places ++ (style ∷ []))) []
    (omega (
      arith,
      element-length (codes "rect") (places ++ (style ∷ [])) [],
      box-few run.column row (run_columns run) 1 (style ∷ []),
      more-length style [],
      safe-length (codes "style") (ground_css run.first.style) (AreSafe-ground run.first.style),
      ground-few run.first.style,
    ))
    (omega arith)

-- text: four bytes for a character, and three characters in a cell
character-few : (c : ℕ) → length (character_text c) ≤ 4
character-few c = omega (arith, length-encode (replaced c), (len_utf8_bounds (replaced c)).1)

marks-few : (marks : Marks) → length (marks_text marks) ≤ 8
marks-few Unmarked = omega arith
marks-few (One first) = let one = character-few first in omega (arith, one)
marks-few (Two first second) = omega (arith, length-append (character_text first) (character_text second), character-few first, character-few second)

cell-few : (cell : Cell) → length (cell_text cell) ≤ 12
cell-few cell =
    choose (λ (l : List ℕ). length l ≤ 12) (is_right cell.part) [] (character_text cell.character ++ marks_text cell.marks) (omega arith)
    (omega (arith, length-append (character_text cell.character) (marks_text cell.marks), character-few cell.character, marks-few cell.marks))

cells-few : (cells : List Cell) → length (flat_map cell_text cells) ≤ 12 * length cells
cells-few [] = omega arith
cells-few (cell ∷ cells) =
    let more = cells-few cells in omega (arith, more, length-append (cell_text cell) (flat_map cell_text cells), cell-few cell)

style-few : (scheme : Scheme) (style : Style) → length (flat_map attribute_xml (text_style scheme style)) ≤ 269
unfolding AtMost
style-few scheme style =
    let it : Attribute = attribute (codes "style") (css scheme style) in
    choose (λ (l : List Attribute). length (flat_map attribute_xml l) ≤ 269) (is_plain style) [] (it ∷ []) (omega arith)
    (omega (arith, more-length it [], safe-length (codes "style") (css scheme style) (AreSafe-css scheme style), AtMost-css scheme style))

-- events after events
both-length : (one more : List Event) → length (xml (one ++ more)) ≡ length (xml one) + length (xml more)
both-length one more = ap length (flat_map-append event_xml one more) ∙ length-append (xml one) (xml more)

-- two numbers
pair-few : (first second : ℕ) → length (pair first second) ≤ 129
pair-few first second = omega (arith, length-append (decimal first) (codes " " ++ decimal second), length-append (codes " ") (decimal second), decimal-few first, decimal-few second)

-- shapes, 140 bytes each at most
place-few : (row : ℕ) (run : Run) → length (shape_place row run) ≤ 130 + 140 * length (run_cells run)
place-few row run =
    let place = pair (10 * run.column) (20 * row) in
    let shapes = shapes_text (run_cells run) in
    omega (arith, length-append (codes "M") (place ++ shapes), length-append place shapes, pair-few (10 * run.column) (20 * row), shapes-few (run_cells run))

shape_element-few : (scheme : Scheme) (row : ℕ) (run : Run) → length (xml (shape_element scheme row run)) ≤ 420 + 140 * length (run_cells run)
shape_element-few scheme row run =
    let place : Attribute = attribute (codes "d") (shape_place row run) in
    let style = text_style scheme run.first.style in
    choose (λ (l : List Event). length (xml l) ≤ 420 + 140 * length (run_cells run)) (is_shaped run.first) (element (codes "path") (place ∷ style) []) []
    (omega (
      arith,
      element-length (codes "path") (place ∷ style) [],
      more-length place style,
      safe-length (codes "d") (shape_place row run) (AreSafe-place row run),
      place-few row run,
      style-few scheme run.first.style,
    ))
    (omega arith)

kind-few : (first : Cell) → length (flat_map attribute_xml (text_kind first)) ≤ 14
kind-few first =
    choose (λ (l : List Attribute). length (flat_map attribute_xml l) ≤ 14) (is_shaped first) (class (codes "shape") ∷ []) []
    (leb-true (length (flat_map attribute_xml (class (codes "shape") ∷ []))) 14 refl) (omega arith)

-- a text, and its shapes
text-few : (scheme : Scheme) (row : ℕ) (run : Run)
    → length (xml (element (codes "text") (text_attributes scheme row run) (run_text run))) ≤ 512 + 72 * length (run_cells run)
text-few scheme row run =
    let x : Attribute = attribute (codes "x") (decimal (10 * run.column)) in
    let y : Attribute = attribute (codes "y") (decimal (20 * row + 15)) in
    let columns : Attribute = attribute (codes "textLength") (decimal (10 * text_columns run)) in
    let style = text_style scheme run.first.style in
    let kind = text_kind run.first in
    omega (
      arith,
      element-length (codes "text") (text_attributes scheme row run) (run_text run),
      more-length x (y ∷ columns ∷ (style ++ kind)),
      more-length y (columns ∷ (style ++ kind)),
      more-length columns (style ++ kind),
      number-few (codes "x") (10 * run.column),
      number-few (codes "y") (20 * row + 15),
      number-few (codes "textLength") (10 * text_columns run),
      ap length (flat_map-append attribute_xml style kind),
      length-append (flat_map attribute_xml style) (flat_map attribute_xml kind),
      style-few scheme run.first.style,
      kind-few run.first,
      length-escaped_text (run_text run),
      cells-few (run_cells run),
    )

text_element-few : (scheme : Scheme) (row : ℕ) (run : Run) → length (xml (text_element scheme row run)) ≤ 932 + 212 * length (run_cells run)
text_element-few scheme row run =
    omega (
      arith,
      both-length (shape_element scheme row run) (element (codes "text") (text_attributes scheme row run) (run_text run)),
      shape_element-few scheme row run,
      text-few scheme row run,
    )

linked-few : (link : List ℕ) (events : List Event) → IsSound link → length (xml (linked link events)) ≤ length (xml events) + 6225
linked-few link events sound =
    let href : Attribute = attribute (codes "href") link in
    let last : List Event = end (codes "a") ∷ [] in
    choose (λ (l : List Event). length (xml l) ≤ length (xml events) + 6225) (is_none link) events (link_begin link ++ (events ++ last)) (omega arith)
    (omega (
      arith,
      length-append (event_xml (start (codes "a") (href ∷ []))) (xml (events ++ last)),
      ap length (flat_map-append event_xml events last),
      length-append (xml events) (xml last),
      length-append (event_xml (end (codes "a"))) [],
      start-length (codes "a") (href ∷ []),
      end-length (codes "a"),
      more-length href [],
      attribute-length href,
      length-escaped_text link,
      sound.short,
    ))

module _ (scheme : Scheme) (links : List Kept) (sound : (number : ℕ) → IsSound (link_at number links)) where
  run-few : (row : ℕ) (run : Run) → length (xml (run_events scheme links row run)) ≤ 7700 * length (run_cells run)
  run-few row run =
      let events = text_element scheme row run in
      let link = link_at run.first.link links in
      let drawn : length (xml (text_in scheme links row run)) ≤ 7157 + 212 * length (run_cells run) =
      choose (λ (l : List Event). length (xml l) ≤ 7157 + 212 * length (run_cells run)) (is_drawn run.first) (linked link events) []
      (omega (arith, linked-few link events (sound run.first.link), text_element-few scheme row run)) (omega arith) in
      omega (
        arith,
        ap length (flat_map-append event_xml (run_ground row run) (text_in scheme links row run)),
        length-append (xml (run_ground row run)) (xml (text_in scheme links row run)),
        run_ground-few row run,
        drawn,
      )

  runs-few : (row : ℕ) (runs : List Run) → length (xml (flat_map (run_events scheme links row) runs)) ≤ 7700 * length (flat_map run_cells runs)
  runs-few row [] = omega arith
  runs-few row (run ∷ runs) =
      let more = runs-few row runs in
      let rest = flat_map (run_events scheme links row) runs in
      omega (
        arith,
        more,
        run-few row run,
        ap length (flat_map-append event_xml (run_events scheme links row run) rest),
        length-append (xml (run_events scheme links row run)) (xml rest),
        length-append (run_cells run) (flat_map run_cells runs),
      )

  -- A row, and so many of them.
  row-few : (row : ℕ) (cells : List Cell) → length (xml (row_events scheme links row cells)) ≤ 7700 * length cells
  row-few row cells = omega (arith, runs-few row (runs_of cells), ap length (cells-runs cells))

  drawn-few : (above : ℕ) (s : State) (row : ℕ) → length (drawn_cells above s row) ≤ s.display.width
  drawn-few above s row =
      let kept = kept_rows s.history in
      choose (λ (l : List Cell). length l ≤ s.display.width) (nat_lt row above) (left_cells above s row) (row_cells (row - above) s.display)
      (omega (arith, length-take s.display.width (slice_index_or kept (length kept - above + row) [])))
      (omega (arith, length-take s.display.width (drop ((row - above) * s.display.width) s.display.cells)))

  pub rows-few : (above count : ℕ) (s : State) → length (xml (rows_events scheme links above count s)) ≤ 7700 * (count * s.display.width)
  rows-few above zero s = omega arith
  rows-few above (suc row) s =
      let more = rows-few above row s in
      let cells = drawn_cells above s row in
      omega (
        arith,
        more,
        row-few row cells,
        drawn-few above s row,
        both-length (rows_events scheme links above row s) (row_events scheme links row cells),
        suc-mul row s.display.width,
      )

-- what stands before the rows, and after them
title-few : (title : List ℕ) → length (xml (title_element title)) ≤ 15 + 6 * length (text_of title)
title-few title =
    choose (λ (l : List Event). length (xml l) ≤ 15 + 6 * length (text_of title)) (is_none title) [] (element (codes "title") [] (text_of title)) (omega arith)
    (omega (arith, element-length (codes "title") [] (text_of title), length-escaped_text (text_of title)))

rules-few : (scheme : Scheme) → length (escaped_text (page_rules scheme ++ shape_rules)) ≤ 490
rules-few Light = leb-true (length (escaped_text (page_rules Light ++ shape_rules))) 490 refl
rules-few Dark = leb-true (length (escaped_text (page_rules Dark ++ shape_rules))) 490 refl
rules-few Both = leb-true (length (escaped_text (page_rules Both ++ shape_rules))) 490 refl

class_box-few : (column row columns rows : ℕ) (name : List ℕ) → AreSafe name → length name ≤ 6
    → length (xml (rectangle (box column row columns rows ++ (class name ∷ [])))) ≤ 320
class_box-few column row columns rows name safe few =
    omega (
      arith,
      element-length (codes "rect") (box column row columns rows ++ (class name ∷ [])) [],
      box-few column row columns rows (class name ∷ []),
      more-length (class name) [],
      safe-length (codes "class") name safe,
      few,
    )

cursor-few : (wanted : Bool) (above : ℕ) (d : Display) → length (xml (cursor_events wanted above d)) ≤ 320
unfolding is_safe
cursor-few wanted above d =
    let row = above + d.cursor.row in
    choose (λ (l : List Event). length (xml l) ≤ 320) (wanted && d.is_visible) (rectangle (box (cursor_column d) row 1 1 ++ (class (codes "cursor") ∷ []))) []
    (class_box-few (cursor_column d) row 1 1 (codes "cursor") refl (omega arith)) (omega arith)

bar-few : (width : ℕ) → length (xml (bar width)) ≤ 130
unfolding is_safe
bar-few width =
    let x : Attribute = attribute (codes "x") (codes "0") in
    let y : Attribute = attribute (codes "y") (codes "-30") in
    let wide : Attribute = attribute (codes "width") (decimal (10 * width)) in
    let height : Attribute = attribute (codes "height") (codes "30") in
    let last : Attribute = class (codes "bar") in
    omega (
      arith,
      element-length (codes "rect") (bar_attributes width) [],
      more-length x (y ∷ wide ∷ height ∷ last ∷ []),
      more-length y (wide ∷ height ∷ last ∷ []),
      more-length wide (height ∷ last ∷ []),
      more-length height (last ∷ []),
      more-length last [],
      safe-length (codes "x") (codes "0") refl,
      safe-length (codes "y") (codes "-30") refl,
      number-few (codes "width") (10 * width),
      safe-length (codes "height") (codes "30") refl,
      safe-length (codes "class") (codes "bar") refl,
    )

dots-few : length (xml dots) ≤ 130
dots-few = leb-true (length (xml dots)) 130 refl

name-few : (title : List ℕ) (width : ℕ) → length (xml (name title width)) ≤ 110 + 6 * length (text_of title)
unfolding is_safe
name-few title width =
    let x : Attribute = attribute (codes "x") (decimal (5 * width)) in
    let y : Attribute = attribute (codes "y") (codes "-10") in
    let last : Attribute = class (codes "name") in
    omega (
      arith,
      element-length (codes "text") (name_place width) (text_of title),
      more-length x (y ∷ last ∷ []),
      more-length y (last ∷ []),
      more-length last [],
      number-few (codes "x") (5 * width),
      safe-length (codes "y") (codes "-10") refl,
      safe-length (codes "class") (codes "name") refl,
      length-escaped_text (text_of title),
    )

window-few : (wanted : Bool) (title : List ℕ) (width : ℕ) → length (xml (window_events wanted title width)) ≤ 370 + 6 * length (text_of title)
window-few wanted title width =
    choose (λ (l : List Event). length (xml l) ≤ 370 + 6 * length (text_of title)) wanted (bar width ++ (dots ++ name title width)) []
    (omega (arith, both-length (bar width) (dots ++ name title width), both-length dots (name title width), bar-few width, dots-few, name-few title width)) (omega arith)

view-few : (window : Bool) (columns rows : ℕ) → length (view window columns rows) ≤ 135
view-few window columns rows =
    let numbers = pair (10 * columns) (units_high window rows) in
    let begin : length (corner window) ≤ 6 = choose (λ (l : List ℕ). length l ≤ 6) window (codes "0 -30 ") (codes "0 0 ") (omega arith) (omega arith) in
    omega (arith, length-append (corner window) numbers, begin, pair-few (10 * columns) (units_high window rows))

begin-few : (window : Bool) (font : List ℕ) (columns rows : ℕ)
    → length (xml (start (codes "svg") (picture_attributes window font columns rows) ∷ [])) ≤ 390 + 6 * length (text_of font)
begin-few window font columns rows =
    let space : Attribute = attribute (codes "xmlns") (codes "http://www.w3.org/2000/svg") in
    let seen : Attribute = attribute (codes "viewBox") (view window columns rows) in
    let width : Attribute = attribute (codes "width") (decimal (10 * columns)) in
    let height : Attribute = attribute (codes "height") (decimal (units_high window rows)) in
    let fonts : Attribute = attribute (codes "font-family") (text_of font) in
    let last : List Attribute = attribute (codes "font-size") (codes "16.61") ∷ attribute (codes "xml:space") (codes "preserve") ∷ [] in
    let first : length (attribute_xml space) ≤ 35 = leb-true (length (attribute_xml space)) 35 refl in
    let few : length (flat_map attribute_xml last) ≤ 39 = leb-true (length (flat_map attribute_xml last)) 39 refl in
    omega (
      arith,
      length-append (event_xml (start (codes "svg") (picture_attributes window font columns rows))) [],
      start-length (codes "svg") (picture_attributes window font columns rows),
      more-length space (seen ∷ width ∷ height ∷ fonts ∷ last),
      more-length seen (width ∷ height ∷ fonts ∷ last),
      more-length width (height ∷ fonts ∷ last),
      more-length height (fonts ∷ last),
      more-length fonts last,
      first,
      few,
      safe-length (codes "viewBox") (view window columns rows) (AreSafe-view window columns rows),
      view-few window columns rows,
      number-few (codes "width") (10 * columns),
      number-few (codes "height") (units_high window rows),
      attribute-length fonts,
      length-escaped_text (text_of font),
    )

head-few : (drawing : Drawing) (title font : List ℕ) (columns rows : ℕ)
    → length (xml (head drawing title font columns rows)) ≤ 1620 + (12 * length (text_of title) + 6 * length (text_of font))
unfolding is_safe
head-few drawing title font columns rows =
    let begin : List Event = start (codes "svg") (picture_attributes drawing.window font columns rows) ∷ [] in
    let window = window_events drawing.window title columns in
    let ruled = rules drawing.scheme in
    let paper = page columns rows in
    omega (
      arith,
      both-length begin (title_element title ++ (ruled ++ (paper ++ window))),
      both-length (title_element title) (ruled ++ (paper ++ window)),
      both-length ruled (paper ++ window),
      both-length paper window,
      begin-few drawing.window font columns rows,
      title-few title,
      element-length (codes "style") [] (page_rules drawing.scheme ++ shape_rules),
      rules-few drawing.scheme,
      class_box-few 0 0 columns rows (codes "page") refl (omega arith),
      window-few drawing.window title columns,
    )

-- A picture has at most 7700 bytes for each cell, and those of its title, twice, of its fonts, and 1960 more.
pub length-svg : (drawing : Drawing) (title font : List ℕ) (links : Table) (extent : Extent) (s : State) → ((number : ℕ) → IsSound (link_at number links.places))
    → length (svg drawing title font links extent s) ≤ 7700 * (rows_in extent * s.display.width) + (12 * length (text_of title) + (6 * length (text_of font) + 1960))
length-svg drawing title font links extent s sound =
    let count = rows_in extent in
    let before = head drawing title font s.display.width count in
    let rows = rows_events drawing.scheme links.places extent.above count s in
    let cursor = cursor_events drawing.cursor extent.above s.display in
    let last : List Event = end (codes "svg") ∷ [] in
    omega (
      arith,
      both-length before (rows ++ (cursor ++ last)),
      both-length rows (cursor ++ last),
      both-length cursor last,
      head-few drawing title font s.display.width count,
      rows-few drawing.scheme links.places sound extent.above count s,
      cursor-few drawing.cursor extent.above s.display,
      length-append (event_xml (end (codes "svg"))) [],
      end-length (codes "svg"),
    )
