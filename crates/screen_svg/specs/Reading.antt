-- The texts of a picture, as a reader of its XML finds them: each with its attributes, which say where it stands, over
-- how many columns, and in which style; and with the link in which it stands.
use Rattle.std.specs.Prelude.{◌≡◌, ⊤, ℕ, zero, suc, ◌+◌, Bool, true, List, [], ◌∷◌, ◌++◌, codes, if◌then◌else◌}
use Rattle.std.specs.List.{flat_map, AllByRecursion}
use Rattle.std.specs.Str.{bytes_eq}
use Rattle.ansi_html.specs.declared.scheme.Scheme.{Scheme}
use Rattle.ansi_screen.specs.declared.cell.Cell.{Cell}
use Rattle.ansi_screen.specs.State.{State}
use Rattle.screen_html.specs.Links.{Kept, Table, link_at}
use Rattle.screen_svg.specs.declared.drawing.Drawing.{Drawing}
use Rattle.screen_svg.specs.declared.drawing.Extent.{Extent}
use Rattle.screen_svg.specs.Characters.{text_of}
use Rattle.screen_svg.specs.Xml.{Attribute, Event, start, byte, end}
use Rattle.screen_svg.specs.Runs.{Run, run_text, run_columns, goes_with, runs_of}
use Rattle.screen_svg.specs.Picture.{text_attributes, is_drawn, drawn_cells, rows_in, name_place}

pub record Text : Type 0 where
  pub attributes : List Attribute
  pub link : List ℕ
  pub bytes : List ℕ

abbrev pub text : List Attribute → (link bytes : List ℕ) → Text
text attributes link bytes = record { attributes = attributes; link = link; bytes = bytes }

abbrev pub href_of : List Attribute → List ℕ
href_of [] = []
href_of (it ∷ attributes) = if bytes_eq it.name (codes "href") then it.value else href_of attributes

-- a reader is in no text, or in one that has these attributes and bytes so far; in a link, or in none
pub data Reading : Type 0 where
  outside : (link : List ℕ) → Reading
  inside : (link : List ℕ) → (attributes : List Attribute) → (bytes : List ℕ) → Reading

abbrev pub texts_from : Reading → List Event → List Text
texts_from (outside link) [] = []
texts_from (outside link) (start name attributes ∷ events) =
    if bytes_eq name (codes "text") then texts_from (inside link attributes []) events
    else texts_from (outside (if bytes_eq name (codes "a") then href_of attributes else link)) events
texts_from (outside link) (byte b ∷ events) = texts_from (outside link) events
texts_from (outside link) (end name ∷ events) =
    texts_from (outside (if bytes_eq name (codes "a") then [] else link)) events
texts_from (inside link attributes bytes) [] = []
texts_from (inside link attributes bytes) (start name others ∷ events) = texts_from (inside link attributes bytes) events
texts_from (inside link attributes bytes) (byte b ∷ events) = texts_from (inside link attributes (bytes ++ b ∷ [])) events
texts_from (inside link attributes bytes) (end name ∷ events) =
    text attributes link bytes ∷ texts_from (outside link) events

abbrev pub texts : List Event → List Text
texts events = texts_from (outside []) events

-- The texts of a screen: of each run whose text is drawn, in its place, its style and its link.
abbrev pub run_texts : Scheme → List Kept → (row : ℕ) → Run → List Text
run_texts scheme links row run =
    if is_drawn run.first
    then text (text_attributes scheme row run) (link_at run.first.link links) (run_text run) ∷ []
    else []

abbrev pub row_texts : Scheme → List Kept → (row : ℕ) → List Cell → List Text
row_texts scheme links row cells = flat_map (run_texts scheme links row) (runs_of cells)

abbrev pub rows_texts : Scheme → List Kept → (above count : ℕ) → State → List Text
rows_texts scheme links above zero s = []
rows_texts scheme links above (suc row) s =
    rows_texts scheme links above row s ++ row_texts scheme links row (drawn_cells above s row)

-- and that of a window's bar
abbrev pub window_texts : (wanted : Bool) → (title : List ℕ) → (width : ℕ) → List Text
window_texts wanted title width = if wanted then text (name_place width) [] (text_of title) ∷ [] else []

abbrev pub picture_texts : Drawing → (title : List ℕ) → Table → Extent → State → List Text
picture_texts drawing title links extent s =
    window_texts drawing.window title s.display.width
    ++ rows_texts drawing.scheme links.places extent.above (rows_in extent) s

-- Each run begins at the column after those of the runs before it.
abbrev pub StandFrom : (column : ℕ) → List Run → Type 0
StandFrom column [] = ⊤
StandFrom column (run ∷ runs) = (run.column ≡ column) × StandFrom (column + run_columns run) runs

-- The cells of a run go with its first one: they have its style and its link, and each one column, and one byte or a shape.
abbrev pub IsRun : Run → Type 0
IsRun run = AllByRecursion (λ cell. goes_with run.first cell ≡ true) run.others
