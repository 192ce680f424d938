-- The characters that the calls of rows print, in the styles of their cells.
use Rattle.std.proofs.Common.{◌≡◌, ℕ, Bool, true, false, List, [], ◌∷◌, ◌++◌, map, take, refl, sym, ap, ap₂, ◌∙◌, subst, append_assoc, append-nil}
use Rattle.std.specs.Prelude.{zero, suc, if◌then◌else◌}
use Rattle.std.specs.Str.{bytes_eq}
use Rattle.std.specs.List.{AllByRecursion, flat_map}
use Rattle.std.proofs.lemmas.Grind.{flat_map-append}
use Rattle.anstyle_parse.specs.Stream.Call.{Call, execute}
use Rattle.ansi_style.specs.declared.style.Style.{Style}
use Rattle.ansi_style.specs.Style.{plain, are_equal}
use Rattle.ansi_style.specs.Codes.{selection, codes_of}
use Rattle.ansi_style.specs.Rendition.{is_selection}
use Rattle.ansi_style.proofs.CodesLemmas.{selected-codes_of}
use Rattle.ansi_style.proofs.EqualityLemmas.{are_equal-same}
use Rattle.ansi_screen.specs.declared.cell.Cell.{Cell}
use Rattle.ansi_screen.specs.After.{State, after_all}
use Rattle.ansi_screen.specs.Cells.{is_right}
use Rattle.ansi_screen.specs.Leaving.{all_left}
use Rattle.ansi_screen.specs.Reachable.{HasColors}
use Rattle.ansi_screen.specs.Text.{used, is_unprinted, goes_on}
use Rattle.html_urls.specs.Linked.{link_command, with_room, prints}
use Rattle.screen_text.specs.Lines.{showing}
use Rattle.screen_text.specs.Rows.{Handed, leaving, command, all_handed}
use Rattle.screen_text.specs.Shown.{given_all}
use Rattle.screen_html.specs.Links.{Kept, link_at}
use Rattle.screen_html.proofs.HandedLemmas.{rows_in, rows_in-handed}
use Rattle.screen_calls.specs.Calls.{Pen, pen, style_calls, link_calls, characters_of, purse_in, shown_calls_of, cell_calls, pen_behind, cells_calls, pen_after, feed_calls, pen_fed, Hand, printed_cells, behind_cells, row_calls, hand_after, hand_told, handed_calls, hand_behind, closing_calls, at_start, shown_calls}
use Rattle.screen_calls.specs.Laws.{Printed, in_style, printed, shown_in_cell, shown_in_row, shown_rows, AreColored}
use Rattle.screen_calls.proofs.TextLemmas.{rows-of}

-- the plain style has no colours
pub plain-colors : HasColors plain
plain-colors = (tt, tt)

-- what selects a link prints nothing, and selects no style
printed-link : (style : Style) (selected wanted paid : List ℕ) (more : List Call) → printed style (link_calls selected wanted paid ++ more) ≡ printed style more
printed-link style selected wanted paid more = by (bytes_eq selected wanted)
  where
    by : (same : Bool) → printed style ((if same then [] else link_command (with_room paid) ∷ []) ++ more) ≡ printed style more
    by true = refl
    by false = refl

-- what selects a style selects it
printed-style : (selected wanted : Style) (more : List Call) → HasColors wanted → printed selected (style_calls selected wanted ++ more) ≡ printed wanted more
unfolding is_selection
printed-style selected wanted more colors = by (are_equal selected wanted) refl
  where
    by : (same : Bool) → are_equal selected wanted ≡ same → printed selected ((if same then [] else selection (codes_of wanted) ∷ []) ++ more) ≡ printed wanted more
    by true is = ap (λ (style : Style). printed style more) (are_equal-same selected wanted is)
    by false is = ap (λ (style : Style). printed style more) (selected-codes_of wanted selected colors.0 colors.1)

printed-characters : (style : Style) (text : List ℕ) (more : List Call) → printed style (prints text ++ more) ≡ map (in_style style) text ++ printed style more
printed-characters style [] more = refl
printed-characters style (c ∷ text) more = ap (λ l. in_style style c ∷ l) (printed-characters style text more)

-- a cell, and cells
printed-cell : (links : List Kept) (at : Pen) (cell : Cell) (more : List Call) → HasColors cell.style
    → printed at.style (cell_calls links at cell ++ more) ≡ shown_in_cell cell ++ printed (pen_behind links at cell).style more
printed-cell links at cell more colors = by (is_right cell.part)
  where
    by : (right : Bool) → printed at.style ((if right then [] else shown_calls_of links at cell) ++ more)
        ≡ (if right then [] else map (in_style cell.style) (characters_of cell))
        ++ printed (if right then at else pen cell.style (purse_in links at cell)).style more
    by true = refl
    by false =
        let link = link_calls at.purse.last (link_at cell.link links) (purse_in links at cell).last in
        let style = style_calls at.style cell.style in
        let text = prints (characters_of cell) in
        ap (printed at.style) (append_assoc link (style ++ text) more ∙ ap (λ l. link ++ l) (append_assoc style text more))
        ∙ printed-link at.style at.purse.last (link_at cell.link links) (purse_in links at cell).last (style ++ (text ++ more))
        ∙ printed-style at.style cell.style (text ++ more) colors
        ∙ printed-characters cell.style (characters_of cell) more

printed-cells : (links : List Kept) (at : Pen) (cells : List Cell) (more : List Call) → AreColored cells
    → printed at.style (cells_calls links at cells ++ more) ≡ flat_map shown_in_cell cells ++ printed (pen_after links at cells).style more
printed-cells links at [] more colors = refl
printed-cells links at (cell ∷ cells) more colors =
    let next = pen_behind links at cell in
    ap (printed at.style) (append_assoc (cell_calls links at cell) (cells_calls links next cells) more)
    ∙ printed-cell links at cell (cells_calls links next cells ++ more) colors.0
    ∙ ap (λ l. shown_in_cell cell ++ l) (printed-cells links next cells more colors.1)
    ∙ sym (append_assoc (shown_in_cell cell) (flat_map shown_in_cell cells) (printed (pen_after links next cells).style more))

printed-feed : (at : Pen) (more : List Call) → printed at.style (feed_calls at ++ more) ≡ printed plain more
printed-feed at more =
    let link = link_calls at.purse.last [] [] in
    let style = style_calls at.style plain in
    let feed = execute 0x0A ∷ [] in
    ap (printed at.style) (append_assoc link (style ++ feed) more ∙ ap (λ l. link ++ l) (append_assoc style feed more))
    ∙ printed-link at.style at.purse.last [] [] (style ++ (feed ++ more))
    ∙ printed-style at.style plain (feed ++ more) plain-colors

pub colored-take : (n : ℕ) (cells : List Cell) → AreColored cells → AreColored (take n cells)
colored-take zero cells colors = tt
colored-take (suc n) [] colors = tt
colored-take (suc n) (cell ∷ cells) colors = (colors.0, colored-take n cells colors.1)

-- a row, and rows that are handed on
printed-row : (at : Hand) (row : List Cell) (more : List Call) → AreColored row
    → printed at.pen.style (row_calls at row ++ more) ≡ shown_in_row row ++ printed (hand_after at row).pen.style more
printed-row at row more colors =
    let cells = cells_calls at.places at.pen (printed_cells row) in
    let behind = behind_cells at row in
    ap (printed at.pen.style) (append_assoc cells (if goes_on row then [] else feed_calls behind) more)
    ∙ printed-cells at.places at.pen (printed_cells row) ((if goes_on row then [] else feed_calls behind) ++ more) (colored-take (used is_unprinted row) row colors)
    ∙ ap (λ l. shown_in_row row ++ l) (by (goes_on row))
  where
    by : (on : Bool) → printed (behind_cells at row).style ((if on then [] else feed_calls (behind_cells at row)) ++ more)
        ≡ printed (if on then behind_cells at row else pen_fed (behind_cells at row)).style more
    by true = refl
    by false = printed-feed (behind_cells at row) more

printed-handed : (at : Hand) (all : List Handed) (more : List Call) → AllByRecursion AreColored (rows_in all)
    → printed at.pen.style (handed_calls at all ++ more) ≡ flat_map shown_in_row (rows_in all) ++ printed (hand_behind at all).pen.style more
printed-handed at [] more colors = refl
printed-handed at (leaving row ∷ others) more colors =
    let next = hand_after at row in
    ap (printed at.pen.style) (append_assoc (row_calls at row) (handed_calls next others) more)
    ∙ printed-row at row (handed_calls next others ++ more) colors.0
    ∙ ap (λ l. shown_in_row row ++ l) (printed-handed next others more colors.1)
    ∙ sym (append_assoc (shown_in_row row) (flat_map shown_in_row (rows_in others)) (printed (hand_behind next others).pen.style more))
printed-handed at (command number parts ∷ others) more colors = printed-handed (hand_told at number parts) others more colors

printed-closing : (at : Hand) → printed at.pen.style (closing_calls at) ≡ []
printed-closing at = by at.is_open
  where
    by : (on : Bool) → printed at.pen.style (if on then feed_calls at.pen else []) ≡ []
    by true = ap (printed at.pen.style) (sym (append-nil (feed_calls at.pen))) ∙ printed-feed at.pen []
    by false = refl

colored-parts : (rows more : List (List Cell)) → AllByRecursion AreColored (rows ++ more) → AllByRecursion AreColored rows × AllByRecursion AreColored more
colored-parts [] more colors = (tt, colors)
colored-parts (row ∷ rows) more colors = let rest = colored-parts rows more colors.1 in ((colors.0, rest.0), rest.1)

pub printed-shown : (s : State) (calls : List Call) → AllByRecursion AreColored (shown_rows s calls)
    → printed plain (shown_calls s calls) ≡ flat_map shown_in_row (shown_rows s calls)
printed-shown s calls colors =
    let gone = all_handed (given_all calls) s in
    let hand = hand_behind at_start gone in
    let rows = showing (after_all (given_all calls) s).display in
    let still = map leaving rows in
    let left = all_left (given_all calls) s in
    let parts = colored-parts left rows colors in
    printed-handed at_start gone (handed_calls hand still ++ closing_calls (hand_behind hand still))
    (subst (AllByRecursion AreColored) (sym (rows_in-handed (given_all calls) s)) parts.0)
    ∙ ap₂ (λ (l r : List Printed). l ++ r) (ap (flat_map shown_in_row) (rows_in-handed (given_all calls) s))
    (printed-handed hand still (closing_calls (hand_behind hand still)) (subst (AllByRecursion AreColored) (sym (rows-of rows)) parts.1)
    ∙ ap₂ (λ (l r : List Printed). l ++ r) (ap (flat_map shown_in_row) (rows-of rows)) (printed-closing (hand_behind hand still))
    ∙ append-nil (flat_map shown_in_row rows))
    ∙ sym (flat_map-append shown_in_row left rows)
