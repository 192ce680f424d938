-- A picture stands in the grammar.
use Rattle.std.proofs.Common.{◌≡◌, ℕ, zero, suc, ◌+◌, ◌*◌, Bool, true, false, ◌&&◌, List, [], ◌∷◌, ◌++◌, codes, map, refl, sym, ap, ◌∙◌, subst, append_assoc, append-nil, inl, inr}
use Rattle.std.specs.Prelude.{if◌then◌else◌}
use Rattle.std.specs.List.{flat_map}
use Rattle.ansi_style.specs.declared.style.Style.{Style}
use Rattle.ansi_html.specs.declared.scheme.Scheme.{Scheme}
use Rattle.ansi_html.specs.Css.{declared, css, colors_css, others_css, is_chosen, behind_of, has_ground, ground_css}
use Rattle.ansi_html.specs.Palette.{shades_of}
use Rattle.ansi_html.specs.Html.{is_plain}
use Rattle.ansi_html.specs.Links.{IsLink, is_none, is_linkable}
use Rattle.ansi_html.proofs.ColorLemmas.{AreColors-css}
use Rattle.ansi_html.proofs.DeclarationLemmas.{AreDeclarations-others}
use Rattle.ansi_screen.specs.declared.cell.Cell.{Cell}
use Rattle.ansi_screen.specs.Display.{Display}
use Rattle.ansi_screen.specs.State.{State}
use Rattle.screen_html.specs.Links.{Kept, Table, link_at}
use Rattle.screen_svg.specs.declared.drawing.Drawing.{Drawing}
use Rattle.screen_svg.specs.declared.drawing.Extent.{Extent}
use Rattle.screen_svg.specs.Characters.{text_of}
use Rattle.screen_svg.specs.Xml.{Attribute, attribute, Event, start, end}
use Rattle.screen_svg.specs.Runs.{Run, is_shaped, run_cells, run_columns, run_text, runs_of}
use Rattle.screen_svg.specs.Picture.{view, units_high, element, box, rectangle, class, run_ground, text as text_in, text_columns, text_place, text_style, shape_place, text_element, is_drawn, linked, run_events, row_events, drawn_cells, rows_in, rows_events, cursor_column, cursor_events, title_element, rules, page, window_events, picture_attributes, picture}
use Rattle.screen_svg.specs.Grammar.{IsGround, selected, inherited, IsTextStyle, plain, styled, IsText, seen, shaped, AreShapes, no_more, filled, text, link, IsTitle, untitled, titled, IsCursor, unseen, frame, IsPicture}
use Rattle.screen_svg.proofs.CharacterLemmas.{IsXmlText-safe, IsXmlText-text, IsXmlText-run}
use Rattle.screen_svg.proofs.SafeLemmas.{AreSafe-view}

-- what holds of either holds of the one that is chosen
pub choose : {A : Type 0} (P : A → Type 0) (wanted : Bool) (one other : A) → P one → P other → P (if wanted then one else other)
choose P true one other x y = x
choose P false one other x y = y

-- shapes after shapes
module _ (scheme : Scheme) where
  AreShapes-append : {one : List Event} (more : List Event) → AreShapes scheme one → AreShapes scheme more → AreShapes scheme (one ++ more)
  AreShapes-append more no_more others = others
  AreShapes-append more (filled column row columns color rest is are) others =
      subst (AreShapes scheme) (sym (append_assoc (rectangle (box column row columns 1 ++ (attribute (codes "style") color ∷ []))) rest more))
      (filled column row columns color (rest ++ more) is (AreShapes-append more are others))
  AreShapes-append more (text it rest is are) others =
      subst (AreShapes scheme) (sym (append_assoc it rest more)) (text it (rest ++ more) is (AreShapes-append more are others))
  AreShapes-append more (link uri it rest may is are) others =
      subst (AreShapes scheme)
      (ap (λ (l : List Event). start (codes "a") (attribute (codes "href") uri ∷ []) ∷ l) (sym (append_assoc it (end (codes "a") ∷ rest) more)))
      (link uri it (rest ++ more) may is (AreShapes-append more are others))

  IsGround-of : (style : Style) → IsGround (ground_css style)
  IsGround-of style = choose IsGround (is_chosen (behind_of style)) (declared (codes "color:") (shades_of (behind_of style)).fixed) (codes "color:inherit;") (selected (shades_of (behind_of style)).fixed) inherited

  IsTextStyle-of : (style : Style) → IsTextStyle scheme (text_style scheme style)
  IsTextStyle-of style =
      choose (IsTextStyle scheme) (is_plain style) [] (attribute (codes "style") (css scheme style) ∷ []) plain (styled (colors_css scheme style) (others_css style) (AreColors-css scheme style) (AreDeclarations-others style))

  AreShapes-ground : (row : ℕ) (run : Run) → AreShapes scheme (run_ground row run)
  AreShapes-ground row run =
      let it = rectangle (box run.column row (run_columns run) 1 ++ (attribute (codes "style") (ground_css run.first.style) ∷ [])) in
      choose (AreShapes scheme) (has_ground run.first.style) it []
      (subst (AreShapes scheme) (append-nil it) (filled run.column row (run_columns run) (ground_css run.first.style) [] (IsGround-of run.first.style) no_more)) no_more

  -- the text of a run, with its shapes, if it has some
  IsText-run : (row : ℕ) (run : Run) → IsText scheme (text_element scheme row run)
  IsText-run row run = by_case (is_shaped run.first)
    where
      x : ℕ
      x = 10 * run.column

      y : ℕ
      y = 20 * row + 15

      long : ℕ
      long = 10 * text_columns run

      style : List Attribute
      style = text_style scheme run.first.style

      characters : List ℕ
      characters = map (λ (cell : Cell). cell.character) (run_cells run)

      by_case : (has : Bool)
          → IsText scheme
          ((if has then element (codes "path") (attribute (codes "d") (shape_place row run) ∷ style) [] else [])
          ++ element (codes "text") (text_place row run ++ (style ++ (if has then class (codes "shape") ∷ [] else []))) (run_text run))
      by_case true = shaped x (20 * row) y long characters style (run_text run) (IsTextStyle-of run.first.style) (IsXmlText-run run)
      by_case false =
          subst (λ (attributes : List Attribute). IsText scheme (element (codes "text") (text_place row run ++ attributes) (run_text run))) (sym (append-nil style))
          (seen x y long style (run_text run) (IsTextStyle-of run.first.style) (IsXmlText-run run))

  -- in a link, or in none
  AreShapes-linked : (uri : List ℕ) (row : ℕ) (run : Run) → IsLink uri → AreShapes scheme (linked uri (text_element scheme row run))
  AreShapes-linked uri row run is = by_case (is_none uri) refl
    where
      events : List Event
      events = text_element scheme row run

      linkable : is_none uri ≡ false → IsLink uri → is_linkable uri ≡ true
      linkable some (inl none) = cc (some, none)
      linkable some (inr may) = may

      by_case : (none : Bool) → is_none uri ≡ none
          → AreShapes scheme (if none then events else (start (codes "a") (attribute (codes "href") uri ∷ []) ∷ []) ++ (events ++ (end (codes "a") ∷ [])))
      by_case true none = subst (AreShapes scheme) (append-nil events) (text events [] (IsText-run row run) no_more)
      by_case false some = link uri events [] (linkable some is) (IsText-run row run) no_more

  module _ (links : List Kept) (are_links : (number : ℕ) → IsLink (link_at number links)) where
    AreShapes-run : (row : ℕ) (run : Run) → AreShapes scheme (run_events scheme links row run)
    AreShapes-run row run =
        AreShapes-append (text_in scheme links row run) (AreShapes-ground row run)
        (choose (AreShapes scheme) (is_drawn run.first) (linked (link_at run.first.link links) (text_element scheme row run)) [] (AreShapes-linked (link_at run.first.link links) row run (are_links run.first.link)) no_more)

    AreShapes-runs : (row : ℕ) (runs : List Run) → AreShapes scheme (flat_map (run_events scheme links row) runs)
    AreShapes-runs row [] = no_more
    AreShapes-runs row (run ∷ runs) = AreShapes-append (flat_map (run_events scheme links row) runs) (AreShapes-run row run) (AreShapes-runs row runs)

    pub AreShapes-rows : (above count : ℕ) (s : State) → AreShapes scheme (rows_events scheme links above count s)
    AreShapes-rows above zero s = no_more
    AreShapes-rows above (suc row) s =
        AreShapes-append (row_events scheme links row (drawn_cells above s row)) (AreShapes-rows above row s) (AreShapes-runs row (runs_of (drawn_cells above s row)))

IsTitle-of : (title : List ℕ) → IsTitle (title_element title)
IsTitle-of title = choose IsTitle (is_none title) [] (element (codes "title") [] (text_of title)) untitled (titled (text_of title) (IsXmlText-text title))

IsCursor-of : (wanted : Bool) (above : ℕ) (d : Display) → IsCursor (cursor_events wanted above d)
IsCursor-of wanted above d =
    choose IsCursor (wanted && d.is_visible) (rectangle (box (cursor_column d) (above + d.cursor.row) 1 1 ++ (class (codes "cursor") ∷ []))) []
    (frame (cursor_column d) (above + d.cursor.row)) unseen

-- what stands before the rows, and the rest
five : (a b c d e rest : List Event) → (a ++ (b ++ (c ++ (d ++ e)))) ++ rest ≡ a ++ (b ++ (c ++ (d ++ (e ++ rest))))
five a b c d e rest =
    append_assoc a (b ++ (c ++ (d ++ e))) rest
    ∙ ap (λ l. a ++ l) (append_assoc b (c ++ (d ++ e)) rest
    ∙ ap (λ l. b ++ l) (append_assoc c (d ++ e) rest ∙ ap (λ l. c ++ l) (append_assoc d e rest)))

pub IsPicture-of : (drawing : Drawing) (title font : List ℕ) (links : Table) (extent : Extent) (s : State) → ((number : ℕ) → IsLink (link_at number links.places))
    → IsPicture drawing.scheme (picture drawing title font links extent s)
IsPicture-of drawing title font links extent s are_links = record {
  view = view drawing.window s.display.width (rows_in extent);
  font = text_of font;
  title = title_element title;
  columns = s.display.width;
  rows = rows_in extent;
  width = 10 * s.display.width;
  height = units_high drawing.window (rows_in extent);
  window = drawing.window;
  name = title;
  shapes = rows_events drawing.scheme links.places extent.above (rows_in extent) s;
  cursor = cursor_events drawing.cursor extent.above s.display;
  is_view = IsXmlText-safe (view drawing.window s.display.width (rows_in extent)) (AreSafe-view drawing.window s.display.width (rows_in extent));
  is_font = IsXmlText-text font;
  is_title = IsTitle-of title;
  are_shapes = AreShapes-rows drawing.scheme links.places are_links extent.above (rows_in extent) s;
  is_cursor = IsCursor-of drawing.cursor extent.above s.display;
  whole = five (start (codes "svg") (picture_attributes drawing.window font s.display.width (rows_in extent)) ∷ []) (title_element title) (rules drawing.scheme)
      (page s.display.width (rows_in extent)) (window_events drawing.window title s.display.width)
      (rows_events drawing.scheme links.places extent.above (rows_in extent) s ++ (cursor_events drawing.cursor extent.above s.display ++ (end (codes "svg") ∷ [])));
}
