-- The picture of a screen: what a reader of its XML meets. A cell is 10 units wide and 20 high, so that the one in
-- column c and row r lies from (10 c, 20 r) on. All shapes have the colour of the text that is current where they stand.
--
-- Sources: Scalable Vector Graphics (SVG) 2, 8.2 (`viewBox`, `width`), 9.3 (`path`), 10.2 (`rect`), 11.2 (`text`,
-- `textLength`), 16.3 (links), 13.2 (`currentColor`); SVG 1.1, 10.15 (`xml:space`).
use Rattle.std.specs.Prelude.{ℕ, zero, suc, ◌+◌, ◌-◌, ◌*◌, min, Bool, true, false, ◌&&◌, not, nat_lt, List, [], ◌∷◌, ◌++◌, codes, map, decimal, length, take, slice_index_or, if◌then◌else◌}
use Rattle.std.specs.List.{flat_map}
use Rattle.ansi_style.specs.declared.style.Style.{Style}
use Rattle.ansi_html.specs.declared.scheme.Scheme.{Scheme}
use Rattle.ansi_html.specs.declared.scheme.Scheme.TheVariants.{Light, Dark, Both}
use Rattle.ansi_html.specs.Css.{css, has_ground, ground_css}
use Rattle.ansi_html.specs.Html.{is_plain}
use Rattle.ansi_html.specs.Links.{is_none}
use Rattle.ansi_screen.specs.declared.cell.Cell.{Cell}
use Rattle.ansi_screen.specs.declared.cell.Part.{Part}
use Rattle.ansi_screen.specs.declared.cell.Part.TheVariants.{Left}
use Rattle.ansi_screen.specs.Cells.{is_right}
use Rattle.ansi_screen.specs.Display.{Display, row_cells}
use Rattle.ansi_screen.specs.State.{State}
use Rattle.ansi_screen.specs.Leaving.{kept_rows}
use Rattle.ansi_screen.specs.Text.{is_unprinted, printed_count}
use Rattle.screen_html.specs.Links.{Kept, Table, link_at}
use Rattle.screen_svg.specs.declared.drawing.Drawing.{Drawing}
use Rattle.screen_svg.specs.declared.drawing.Extent.{Extent}
use Rattle.screen_svg.specs.Characters.{text_of}
use Rattle.screen_svg.specs.Xml.{Attribute, attribute, Event, start, byte, end, xml}
use Rattle.screen_svg.specs.Runs.{Run, is_shaped, run_cells, run_columns, run_text, runs_of}
use Rattle.screen_svg.specs.Shapes.{shape_of}

-- an element of text alone
abbrev pub element : (name : List ℕ) → List Attribute → (text : List ℕ) → List Event
element name attributes text = start name attributes ∷ (map byte text ++ (end name ∷ []))

abbrev pub class : (name : List ℕ) → Attribute
class name = attribute (codes "class") name

-- two numbers
abbrev pub pair : (first second : ℕ) → List ℕ
pair first second = decimal first ++ (codes " " ++ decimal second)

-- a rectangle: the cells of a row from a column on
abbrev pub box : (column row columns rows : ℕ) → List Attribute
box column row columns rows =
    attribute (codes "x") (decimal (10 * column)) ∷ attribute (codes "y") (decimal (20 * row))
    ∷ attribute (codes "width") (decimal (10 * columns)) ∷ attribute (codes "height") (decimal (20 * rows)) ∷ []

abbrev pub rectangle : List Attribute → List Event
rectangle attributes = element (codes "rect") attributes []

-- The ground of a run, where its style has one.
abbrev pub run_ground : (row : ℕ) → Run → List Event
run_ground row run =
    if has_ground run.first.style
    then rectangle (box run.column row (run_columns run) 1 ++ (attribute (codes "style") (ground_css run.first.style) ∷ []))
    else []

-- how many columns the text of a run takes: a wide character is a run alone, and stands in two
abbrev pub is_left : Part → Bool
is_left Left = true
is_left part = false

abbrev pub text_columns : Run → ℕ
text_columns run = if is_left run.first.part then 2 else run_columns run

-- The text of a run: it begins at the left of its column, on a line 15 units below its row's top, and is spread over
-- its columns; a style is said as in HTML.
abbrev pub text_place : (row : ℕ) → Run → List Attribute
text_place row run =
    attribute (codes "x") (decimal (10 * run.column)) ∷ attribute (codes "y") (decimal (20 * row + 15))
    ∷ attribute (codes "textLength") (decimal (10 * text_columns run)) ∷ []

abbrev pub text_style : Scheme → Style → List Attribute
text_style scheme style = if is_plain style then [] else attribute (codes "style") (css scheme style) ∷ []

-- Line drawing and blocks are drawn as shapes, from the top left of the first cell on, and their text is there to be found,
-- not to be seen.
abbrev pub shapes_text : List Cell → List ℕ
shapes_text cells = flat_map shape_of (map (λ cell. cell.character) cells)

abbrev pub shape_place : (row : ℕ) → Run → List ℕ
shape_place row run = codes "M" ++ (pair (10 * run.column) (20 * row) ++ shapes_text (run_cells run))

abbrev pub shape_element : Scheme → (row : ℕ) → Run → List Event
shape_element scheme row run =
    if is_shaped run.first
    then element (codes "path") (attribute (codes "d") (shape_place row run) ∷ text_style scheme run.first.style) []
    else []

abbrev pub text_kind : Cell → List Attribute
text_kind first = if is_shaped first then class (codes "shape") ∷ [] else []

abbrev pub text_attributes : Scheme → (row : ℕ) → Run → List Attribute
text_attributes scheme row run = text_place row run ++ (text_style scheme run.first.style ++ text_kind run.first)

abbrev pub text_element : Scheme → (row : ℕ) → Run → List Event
text_element scheme row run =
    shape_element scheme row run ++ element (codes "text") (text_attributes scheme row run) (run_text run)

-- in a link, where it has one
abbrev pub link_begin : (link : List ℕ) → List Event
link_begin link = start (codes "a") (attribute (codes "href") link ∷ []) ∷ []

abbrev pub linked : (link : List ℕ) → List Event → List Event
linked link events = if is_none link then events else link_begin link ++ (events ++ (end (codes "a") ∷ []))

-- Text is drawn where something was printed that is not hidden (SGR 8); the right half of a character has none.
abbrev pub is_drawn : Cell → Bool
is_drawn cell = not (cell.style.hidden) && (not (is_unprinted cell) && not (is_right cell.part))

abbrev pub text : Scheme → List Kept → (row : ℕ) → Run → List Event
text scheme links row run =
    if is_drawn run.first then linked (link_at run.first.link links) (text_element scheme row run) else []

abbrev pub run_events : Scheme → List Kept → (row : ℕ) → Run → List Event
run_events scheme links row run = run_ground row run ++ text scheme links row run

abbrev pub row_events : Scheme → List Kept → (row : ℕ) → List Cell → List Event
row_events scheme links row cells = flat_map (run_events scheme links row) (runs_of cells)

-- The rows that are drawn: all of the screen; or what it showed, the last rows that left it and its own up to the last in
-- which something was printed, and to that of the cursor, where it is drawn. Of what it showed there is a row at least.
abbrev pub all_of : Display → Extent
all_of d = record { above = 0; count = d.height }

abbrev pub most_above : ℕ
most_above = 1000

abbrev pub least_count : (cursor : Bool) → Display → ℕ
least_count cursor d = if cursor && d.is_visible then d.cursor.row + 1 else 1

abbrev pub shown_count : (least : ℕ) → Display → ℕ
shown_count least d = if nat_lt (printed_count d) least then least else printed_count d

abbrev pub all_shown : (cursor : Bool) → State → Extent
all_shown cursor s = record {
  above = min (length (kept_rows s.history)) most_above;
  count = shown_count (least_count cursor s.display) s.display;
}

abbrev pub rows_in : Extent → ℕ
rows_in extent = extent.above + extent.count

-- the cells of a row, of which so many left
abbrev pub left_cells : (above : ℕ) → State → (row : ℕ) → List Cell
left_cells above s row =
    take s.display.width (slice_index_or (kept_rows s.history) (length (kept_rows s.history) - above + row) [])

abbrev pub drawn_cells : (above : ℕ) → State → (row : ℕ) → List Cell
drawn_cells above s row = if nat_lt row above then left_cells above s row else row_cells (row - above) s.display

-- so many rows, from the first on
abbrev pub rows_events : Scheme → List Kept → (above count : ℕ) → State → List Event
rows_events scheme links above zero s = []
rows_events scheme links above (suc row) s =
    rows_events scheme links above row s ++ row_events scheme links row (drawn_cells above s row)

-- The cursor is a frame of its cell, where one is wanted and the screen shows it; after the last column it stands on it.
abbrev pub cursor_column : Display → ℕ
cursor_column d = min d.cursor.column (d.width - 1)

abbrev pub cursor_events : (wanted : Bool) → (above : ℕ) → Display → List Event
cursor_events wanted above d =
    if wanted && d.is_visible
    then rectangle (box (cursor_column d) (above + d.cursor.row) 1 1 ++ (class (codes "cursor") ∷ []))
    else []

-- The rules: text is black on white, and on dark pages white on the lightest ground that `ansi_html` has shades for.
abbrev pub page_rules : Scheme → List ℕ
page_rules Light = codes "svg{color-scheme:light;color:#000000}.page{color:#ffffff}.bar{color:#d9d9d9}"
page_rules Dark = codes "svg{color-scheme:dark;color:#ffffff}.page{color:#1e1e1e}.bar{color:#3b3b3b}"
page_rules Both =
    codes "svg{color-scheme:light dark;color:#000000;color:light-dark(#000000,#ffffff)}"
    ++ (codes ".page{color:#ffffff;color:light-dark(#ffffff,#1e1e1e)}"
    ++ codes ".bar{color:#d9d9d9;color:light-dark(#d9d9d9,#3b3b3b)}")

abbrev pub shape_rules : List ℕ
shape_rules =
    codes "text,path,rect,circle{fill:currentColor}text{white-space:pre}a{color:inherit}.shape{fill:none}"
    ++ codes ".cursor{fill:none;stroke:currentColor}circle{fill-opacity:.15}.name{text-anchor:middle}"

abbrev pub rules : Scheme → List Event
rules scheme = element (codes "style") [] (page_rules scheme ++ shape_rules)

-- a title, where one is given
abbrev pub title_element : (title : List ℕ) → List Event
title_element title = if is_none title then [] else element (codes "title") [] (text_of title)

-- The bar of a window: a strip of 30 units above the screen, with three dots, and the title in its middle.
abbrev pub circle : (x : List ℕ) → List Event
circle x =
    element (codes "circle")
    (attribute (codes "cx") x ∷ attribute (codes "cy") (codes "-15") ∷ attribute (codes "r") (codes "6") ∷ []) []

abbrev pub dots : List Event
dots = circle (codes "20") ++ (circle (codes "40") ++ circle (codes "60"))

abbrev pub bar_attributes : (width : ℕ) → List Attribute
bar_attributes width =
    attribute (codes "x") (codes "0") ∷ attribute (codes "y") (codes "-30")
    ∷ attribute (codes "width") (decimal (10 * width)) ∷ attribute (codes "height") (codes "30") ∷ class (codes "bar") ∷ []

abbrev pub bar : (width : ℕ) → List Event
bar width = rectangle (bar_attributes width)

abbrev pub name_place : (width : ℕ) → List Attribute
name_place width =
    attribute (codes "x") (decimal (5 * width)) ∷ attribute (codes "y") (codes "-10") ∷ class (codes "name") ∷ []

abbrev pub name : (title : List ℕ) → (width : ℕ) → List Event
name title width = element (codes "text") (name_place width) (text_of title)

abbrev pub window_events : (wanted : Bool) → (title : List ℕ) → (width : ℕ) → List Event
window_events wanted title width = if wanted then bar width ++ (dots ++ name title width) else []

-- the units that are seen: those of all cells, and of the bar
abbrev pub units_high : (window : Bool) → (rows : ℕ) → ℕ
units_high window rows = if window then 20 * rows + 30 else 20 * rows

abbrev pub corner : (window : Bool) → List ℕ
corner window = if window then codes "0 -30 " else codes "0 0 "

abbrev pub view : (window : Bool) → (columns rows : ℕ) → List ℕ
view window columns rows = corner window ++ pair (10 * columns) (units_high window rows)

-- They are so many pixels, where nothing else is asked for.
abbrev pub picture_attributes : (window : Bool) → (font : List ℕ) → (columns rows : ℕ) → List Attribute
picture_attributes window font columns rows =
    attribute (codes "xmlns") (codes "http://www.w3.org/2000/svg") ∷ attribute (codes "viewBox") (view window columns rows)
    ∷ attribute (codes "width") (decimal (10 * columns)) ∷ attribute (codes "height") (decimal (units_high window rows))
    ∷ attribute (codes "font-family") (text_of font) ∷ attribute (codes "font-size") (codes "16.61")
    ∷ attribute (codes "xml:space") (codes "preserve") ∷ []

-- the page behind all cells
abbrev pub page : (columns rows : ℕ) → List Event
page columns rows = rectangle (box 0 0 columns rows ++ (class (codes "page") ∷ []))

-- what stands before the rows, and after them
abbrev pub head : Drawing → (title font : List ℕ) → (columns rows : ℕ) → List Event
head drawing title font columns rows =
    (start (codes "svg") (picture_attributes drawing.window font columns rows) ∷ [])
    ++ (title_element title ++ (rules drawing.scheme
    ++ (page columns rows ++ window_events drawing.window title columns)))

abbrev pub picture : Drawing → (title font : List ℕ) → Table → Extent → State → List Event
picture drawing title font links extent s =
    head drawing title font s.display.width (rows_in extent)
    ++ (rows_events drawing.scheme links.places extent.above (rows_in extent) s
    ++ (cursor_events drawing.cursor extent.above s.display ++ (end (codes "svg") ∷ [])))

-- The picture as it is written.
abbrev pub svg : Drawing → (title font : List ℕ) → Table → Extent → State → List ℕ
svg drawing title font links extent s = xml (picture drawing title font links extent s)
