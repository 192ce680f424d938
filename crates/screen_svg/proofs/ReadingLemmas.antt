-- The texts of a picture are those of the screen's runs.
use Rattle.std.proofs.Common.{◌≡◌, ℕ, zero, suc, ◌+◌, Bool, true, false, ◌&&◌, List, [], ◌∷◌, ◌++◌, codes, map, refl, sym, ap, ◌∙◌, append_assoc, append-nil}
use Rattle.std.specs.Prelude.{if◌then◌else◌}
use Rattle.std.specs.List.{flat_map}
use Rattle.ansi_html.specs.declared.scheme.Scheme.{Scheme}
use Rattle.ansi_html.specs.Css.{has_ground, ground_css}
use Rattle.ansi_html.specs.Links.{is_none}
use Rattle.std.proofs.lemmas.Bool.{eqb-true}
use Rattle.std.proofs.lemmas.List.{nil_from_length}
use Rattle.std.specs.Prelude.{length}
use Rattle.ansi_screen.specs.Display.{Display}
use Rattle.ansi_screen.specs.State.{State}
use Rattle.screen_html.specs.Links.{Kept, Table, link_at}
use Rattle.screen_svg.specs.declared.drawing.Drawing.{Drawing}
use Rattle.screen_svg.specs.declared.drawing.Extent.{Extent}
use Rattle.screen_svg.specs.Characters.{text_of}
use Rattle.screen_svg.specs.Xml.{Attribute, attribute, Event, start, byte, end}
use Rattle.screen_svg.specs.Runs.{Run, is_shaped, run_columns, run_text, runs_of}
use Rattle.screen_svg.specs.Picture.{element, rectangle, class, box, run_ground, text_style, shape_place, shape_element, text_attributes, text_element, drawn_cells, rows_in, linked, is_drawn, text as text_in, run_events, row_events, rows_events, cursor_column, cursor_events, page_rules, shape_rules, rules, title_element, dots, bar_attributes, bar, name_place, name, window_events, page, head, picture}
use Rattle.screen_svg.specs.Reading.{Text, text, outside, inside, texts_from, texts, run_texts, row_texts, rows_texts, window_texts, picture_texts}

-- these events show these texts, whatever follows, and leave a reader in no link
abbrev Show : List Event → List Text → Type 0
Show events shown = (rest : List Event) → texts_from (outside []) (events ++ rest) ≡ shown ++ texts_from (outside []) rest

Show-append : (one more : List Event) (first second : List Text) → Show one first → Show more second → Show (one ++ more) (first ++ second)
Show-append one more first second shows shows_more rest =
    ap (texts_from (outside [])) (append_assoc one more rest) ∙ shows (more ++ rest)
    ∙ ap (λ l. first ++ l) (shows_more rest) ∙ sym (append_assoc first second (texts_from (outside []) rest))

-- a rectangle, and a circle
Show-rectangle : (attributes : List Attribute) → Show (rectangle attributes) []
Show-rectangle attributes rest = refl

Show-dots : Show dots []
Show-dots rest = refl

-- the bytes of a text, and those of what is none
inside-bytes : (link : List ℕ) (attributes : List Attribute) (so_far bytes name : List ℕ) (rest : List Event)
    → texts_from (inside link attributes so_far) ((map byte bytes ++ (end name ∷ [])) ++ rest) ≡ text attributes link (so_far ++ bytes) ∷ texts_from (outside link) rest
inside-bytes link attributes so_far [] name rest = ap (λ l. text attributes link l ∷ texts_from (outside link) rest) (sym (append-nil so_far))
inside-bytes link attributes so_far (b ∷ bytes) name rest =
    inside-bytes link attributes (so_far ++ b ∷ []) bytes name rest
    ∙ ap (λ l. text attributes link l ∷ texts_from (outside link) rest) (append_assoc so_far (b ∷ []) bytes)

outside-bytes : (link bytes : List ℕ) (rest : List Event) → texts_from (outside link) (map byte bytes ++ rest) ≡ texts_from (outside link) rest
outside-bytes link [] rest = refl
outside-bytes link (b ∷ bytes) rest = outside-bytes link bytes rest

Show-text : (attributes : List Attribute) (bytes : List ℕ) → Show (element (codes "text") attributes bytes) (text attributes [] bytes ∷ [])
Show-text attributes bytes rest = inside-bytes [] attributes [] bytes (codes "text") rest

Show-title : (title : List ℕ) → Show (title_element title) []
Show-title title rest = by_case (is_none title)
  where
    by_case : (none : Bool) → texts_from (outside []) ((if none then [] else element (codes "title") [] (text_of title)) ++ rest) ≡ texts_from (outside []) rest
    by_case true = refl
    by_case false =
        ap (texts_from (outside [])) (append_assoc (map byte (text_of title)) (end (codes "title") ∷ []) rest)
        ∙ outside-bytes [] (text_of title) (end (codes "title") ∷ rest)

Show-rules : (scheme : Scheme) → Show (rules scheme) []
Show-rules scheme rest =
    let all = page_rules scheme ++ shape_rules in
    ap (texts_from (outside [])) (append_assoc (map byte all) (end (codes "style") ∷ []) rest) ∙ outside-bytes [] all (end (codes "style") ∷ rest)

Show-window : (wanted : Bool) (title : List ℕ) (width : ℕ) → Show (window_events wanted title width) (window_texts wanted title width)
Show-window false title width rest = refl
Show-window true title width rest =
    Show-append (bar width) (dots ++ name title width) [] (text (name_place width) [] (text_of title) ∷ []) (Show-rectangle (bar_attributes width))
    (Show-append dots (name title width) [] (text (name_place width) [] (text_of title) ∷ []) Show-dots (Show-text (name_place width) (text_of title))) rest

module _ (scheme : Scheme) (links : List Kept) where
  Show-ground : (row : ℕ) (run : Run) → Show (run_ground row run) []
  Show-ground row run rest = by_case (has_ground run.first.style)
    where
      attributes : List Attribute
      attributes = box run.column row (run_columns run) 1 ++ (attribute (codes "style") (ground_css run.first.style) ∷ [])

      by_case : (has : Bool) → texts_from (outside []) ((if has then rectangle attributes else []) ++ rest) ≡ texts_from (outside []) rest
      by_case true = refl
      by_case false = refl

  -- a shape shows no text, in a link neither
  shape-passed : (link : List ℕ) (row : ℕ) (run : Run) (rest : List Event)
      → texts_from (outside link) (shape_element scheme row run ++ rest) ≡ texts_from (outside link) rest
  shape-passed link row run rest = by_case (is_shaped run.first)
    where
      attributes : List Attribute
      attributes = attribute (codes "d") (shape_place row run) ∷ text_style scheme run.first.style

      by_case : (has : Bool) → texts_from (outside link) ((if has then element (codes "path") attributes [] else []) ++ rest) ≡ texts_from (outside link) rest
      by_case true = refl
      by_case false = refl

  -- the text of a run
  text-met : (link : List ℕ) (row : ℕ) (run : Run) (rest : List Event)
      → texts_from (outside link) (text_element scheme row run ++ rest)
      ≡ text (text_attributes scheme row run) link (run_text run) ∷ texts_from (outside link) rest
  text-met link row run rest =
      let it = element (codes "text") (text_attributes scheme row run) (run_text run) in
      ap (texts_from (outside link)) (append_assoc (shape_element scheme row run) it rest)
      ∙ shape-passed link row run (it ++ rest) ∙ inside-bytes link (text_attributes scheme row run) [] (run_text run) (codes "text") rest

  Show-linked : (link : List ℕ) (row : ℕ) (run : Run)
      → Show (linked link (text_element scheme row run)) (text (text_attributes scheme row run) link (run_text run) ∷ [])
  Show-linked link row run rest = by_case (is_none link) refl
    where
      attributes : List Attribute
      attributes = text_attributes scheme row run

      events : List Event
      events = text_element scheme row run

      by_case : (none : Bool) → is_none link ≡ none
          → texts_from (outside []) ((if none then events else (start (codes "a") (attribute (codes "href") link ∷ []) ∷ []) ++ (events ++ (end (codes "a") ∷ []))) ++ rest)
          ≡ text attributes link (run_text run) ∷ texts_from (outside []) rest
      by_case true none =
          text-met [] row run rest
          ∙ ap (λ (l : List ℕ). text attributes l (run_text run) ∷ texts_from (outside []) rest) (sym (nil_from_length link (eqb-true (length link) 0 none)))
      by_case false some =
          ap (texts_from (outside link)) (append_assoc events (end (codes "a") ∷ []) rest) ∙ text-met link row run (end (codes "a") ∷ rest)

  Show-run_text : (row : ℕ) (run : Run) → Show (text_in scheme links row run) (run_texts scheme links row run)
  Show-run_text row run rest = by_case (is_drawn run.first)
    where
      link : List ℕ
      link = link_at run.first.link links

      by_case : (drawn : Bool)
          → texts_from (outside []) ((if drawn then linked link (text_element scheme row run) else []) ++ rest)
          ≡ (if drawn then text (text_attributes scheme row run) link (run_text run) ∷ [] else []) ++ texts_from (outside []) rest
      by_case true = Show-linked link row run rest
      by_case false = refl

  Show-runs : (row : ℕ) (runs : List Run) → Show (flat_map (run_events scheme links row) runs) (flat_map (run_texts scheme links row) runs)
  Show-runs row [] rest = refl
  Show-runs row (run ∷ runs) rest =
      Show-append (run_events scheme links row run) (flat_map (run_events scheme links row) runs) (run_texts scheme links row run) (flat_map (run_texts scheme links row) runs)
      (Show-append (run_ground row run) (text_in scheme links row run) [] (run_texts scheme links row run) (Show-ground row run) (Show-run_text row run)) (Show-runs row runs) rest

  Show-rows : (above count : ℕ) (s : State) → Show (rows_events scheme links above count s) (rows_texts scheme links above count s)
  Show-rows above zero s rest = refl
  Show-rows above (suc row) s rest =
      let cells = drawn_cells above s row in
      Show-append (rows_events scheme links above row s) (row_events scheme links row cells) (rows_texts scheme links above row s) (row_texts scheme links row cells)
      (Show-rows above row s) (Show-runs row (runs_of cells)) rest

Show-cursor : (wanted : Bool) (above : ℕ) (d : Display) → Show (cursor_events wanted above d) []
Show-cursor wanted above d rest = by_case (wanted && d.is_visible)
  where
    attributes : List Attribute
    attributes = box (cursor_column d) (above + d.cursor.row) 1 1 ++ (class (codes "cursor") ∷ [])

    by_case : (seen : Bool) → texts_from (outside []) ((if seen then rectangle attributes else []) ++ rest) ≡ texts_from (outside []) rest
    by_case true = refl
    by_case false = refl

Show-head : (drawing : Drawing) (title font : List ℕ) (columns rows : ℕ) → Show (head drawing title font columns rows) (window_texts drawing.window title columns)
Show-head drawing title font columns rows rest =
    let paper = page columns rows in
    let window = window_events drawing.window title columns in
    let shown = window_texts drawing.window title columns in
    Show-append (title_element title) (rules drawing.scheme ++ (paper ++ window)) [] shown (Show-title title)
    (Show-append (rules drawing.scheme) (paper ++ window) [] shown (Show-rules drawing.scheme)
    (Show-append paper window [] shown (Show-rectangle (box 0 0 columns rows ++ (class (codes "page") ∷ []))) (Show-window drawing.window title columns))) rest

pub texts-picture : (drawing : Drawing) (title font : List ℕ) (links : Table) (extent : Extent) (s : State)
    → texts (picture drawing title font links extent s) ≡ picture_texts drawing title links extent s
texts-picture drawing title font links extent s =
    let count = rows_in extent in
    let rows = rows_events drawing.scheme links.places extent.above count s in
    let cursor = cursor_events drawing.cursor extent.above s.display in
    let named = window_texts drawing.window title s.display.width in
    let shown = rows_texts drawing.scheme links.places extent.above count s in
    Show-head drawing title font s.display.width count (rows ++ (cursor ++ (end (codes "svg") ∷ [])))
    ∙ ap (λ (l : List Text). named ++ l)
    (Show-rows drawing.scheme links.places extent.above count s (cursor ++ (end (codes "svg") ∷ []))
    ∙ ap (λ (l : List Text). shown ++ l) (Show-cursor drawing.cursor extent.above s.display (end (codes "svg") ∷ [])) ∙ append-nil shown)
