-- The text of the calls of rows is that of the rows.
use Rattle.std.proofs.Common.{◌≡◌, ℕ, Bool, true, false, List, [], ◌∷◌, ◌++◌, map, refl, ap, ap₂, ◌∙◌, append-nil}
use Rattle.std.specs.Prelude.{encode_utf8, if◌then◌else◌}
use Rattle.std.specs.Str.{bytes_eq}
use Rattle.std.specs.List.{flat_map}
use Rattle.std.proofs.lemmas.Grind.{flat_map-append}
use Rattle.anstyle_parse.specs.Stream.Call.{Call, execute}
use Rattle.ansi_strip.specs.Strip.{stripped_call, stripped}
use Rattle.ansi_style.specs.declared.style.Style.{Style}
use Rattle.ansi_style.specs.Style.{plain, are_equal}
use Rattle.ansi_style.specs.Codes.{selection, codes_of}
use Rattle.ansi_screen.specs.declared.cell.Cell.{Cell}
use Rattle.ansi_screen.specs.declared.cell.Marks.{Marks}
use Rattle.ansi_screen.specs.declared.cell.Marks.TheVariants.{Unmarked, One, Two}
use Rattle.ansi_screen.specs.After.{State, after_all}
use Rattle.ansi_screen.specs.Cells.{is_right}
use Rattle.ansi_screen.specs.Text.{cell_text, marks_text, goes_on}
use Rattle.html_urls.specs.Linked.{link_command, with_room, prints}
use Rattle.screen_text.specs.Lines.{row_text, rows_text, open_after, closing, showing}
use Rattle.screen_text.specs.Rows.{Handed, leaving, command, all_handed}
use Rattle.screen_text.specs.Shown.{given_all, shown_text}
use Rattle.screen_html.specs.Links.{Kept, link_at}
use Rattle.screen_html.proofs.HandedLemmas.{rows_in, rows_in-handed}
use Rattle.screen_calls.specs.Calls.{Pen, style_calls, link_calls, marks_of, characters_of, purse_in, shown_calls_of, cell_calls, pen_behind, cells_calls, feed_calls, Hand, printed_cells, behind_cells, row_calls, hand_after, hand_told, handed_calls, hand_behind, closing_calls, at_start, left_calls, ending_calls, shown_calls}

both : (calls more : List Call) → stripped (calls ++ more) ≡ stripped calls ++ stripped more
both calls more = flat_map-append stripped_call calls more

text-link : (selected wanted paid : List ℕ) → stripped (link_calls selected wanted paid) ≡ []
text-link selected wanted paid = by (bytes_eq selected wanted)
  where
    by : (same : Bool) → stripped (if same then [] else link_command (with_room paid) ∷ []) ≡ []
    by true = refl
    by false = refl

text-style : (selected wanted : Style) → stripped (style_calls selected wanted) ≡ []
text-style selected wanted = by (are_equal selected wanted)
  where
    by : (same : Bool) → stripped (if same then [] else selection (codes_of wanted) ∷ []) ≡ []
    by true = refl
    by false = refl

-- what selects a link and a style, and more calls
text-behind : (selected wanted paid : List ℕ) (style other : Style) (more : List Call)
    → stripped (link_calls selected wanted paid ++ (style_calls style other ++ more)) ≡ stripped more
text-behind selected wanted paid style other more =
    both (link_calls selected wanted paid) (style_calls style other ++ more)
    ∙ ap (λ l. l ++ stripped (style_calls style other ++ more)) (text-link selected wanted paid)
    ∙ both (style_calls style other) more
    ∙ ap (λ l. l ++ stripped more) (text-style style other)

text-marks : (marks : Marks) → stripped (prints (marks_of marks)) ≡ marks_text marks
text-marks Unmarked = refl
text-marks (One first) = append-nil (encode_utf8 first)
text-marks (Two first second) = ap (λ l. encode_utf8 first ++ l) (append-nil (encode_utf8 second))

text-cell : (links : List Kept) (at : Pen) (cell : Cell) → stripped (cell_calls links at cell) ≡ cell_text cell
unfolding cell_text
text-cell links at cell = by (is_right cell.part)
  where
    by : (right : Bool) → stripped (if right then [] else shown_calls_of links at cell) ≡ (if right then [] else encode_utf8 cell.character ++ marks_text cell.marks)
    by true = refl
    by false = text-behind at.purse.last (link_at cell.link links) (purse_in links at cell).last at.style cell.style (prints (characters_of cell)) ∙ ap (λ l. encode_utf8 cell.character ++ l) (text-marks cell.marks)

text-cells : (links : List Kept) (at : Pen) (cells : List Cell) → stripped (cells_calls links at cells) ≡ flat_map cell_text cells
text-cells links at [] = refl
text-cells links at (cell ∷ cells) =
    both (cell_calls links at cell) (cells_calls links (pen_behind links at cell) cells)
    ∙ ap₂ (λ (l r : List ℕ). l ++ r) (text-cell links at cell) (text-cells links (pen_behind links at cell) cells)

text-feed : (at : Pen) → stripped (feed_calls at) ≡ 0x0A ∷ []
text-feed at = text-behind at.purse.last [] [] at.style plain (execute 0x0A ∷ [])

text-row : (at : Hand) (row : List Cell) → stripped (row_calls at row) ≡ row_text row
text-row at row =
    both (cells_calls at.places at.pen (printed_cells row)) (if goes_on row then [] else feed_calls (behind_cells at row))
    ∙ ap₂ (λ (l r : List ℕ). l ++ r) (text-cells at.places at.pen (printed_cells row)) (by (goes_on row))
  where
    by : (on : Bool) → stripped (if on then [] else feed_calls (behind_cells at row)) ≡ (if on then [] else 0x0A ∷ [])
    by true = refl
    by false = text-feed (behind_cells at row)

pub text-handed : (at : Hand) (all : List Handed) → stripped (handed_calls at all) ≡ rows_text (rows_in all)
text-handed at [] = refl
text-handed at (leaving row ∷ others) =
    both (row_calls at row) (handed_calls (hand_after at row) others)
    ∙ ap₂ (λ (l r : List ℕ). l ++ r) (text-row at row) (text-handed (hand_after at row) others)
text-handed at (command number parts ∷ others) = text-handed (hand_told at number parts) others

pub text-closing : (at : Hand) → stripped (closing_calls at) ≡ closing at.is_open
text-closing at = by at.is_open
  where
    by : (on : Bool) → stripped (if on then feed_calls at.pen else []) ≡ (if on then 0x0A ∷ [] else [])
    by true = text-feed at.pen
    by false = refl

-- whether a line is open after what was handed on
open-behind : (at : Hand) (all : List Handed) → (hand_behind at all).is_open ≡ open_after at.is_open (rows_in all)
open-behind at [] = refl
open-behind at (leaving row ∷ others) = open-behind (hand_after at row) others
open-behind at (command number parts ∷ others) = open-behind (hand_told at number parts) others

pub rows-of : (rows : List (List Cell)) → rows_in (map leaving rows) ≡ rows
rows-of [] = refl
rows-of (row ∷ rows) = ap (λ l. row ∷ l) (rows-of rows)

pub text-shown : (s : State) (calls : List Call) → stripped (shown_calls s calls) ≡ shown_text s calls
text-shown s calls =
    let gone = all_handed (given_all calls) s in
    let hand = hand_behind at_start gone in
    let rows = showing (after_all (given_all calls) s).display in
    let still = map leaving rows in
    both (left_calls s calls) (ending_calls s calls)
    ∙ ap₂ (λ (l r : List ℕ). l ++ r)
    (text-handed at_start gone ∙ ap rows_text (rows_in-handed (given_all calls) s))
    (both (handed_calls hand still) (closing_calls (hand_behind hand still))
    ∙ ap₂ (λ (l r : List ℕ). l ++ r)
    (text-handed hand still ∙ ap rows_text (rows-of rows))
    (text-closing (hand_behind hand still)
    ∙ ap closing
    (open-behind hand still
    ∙ ap₂ open_after (open-behind at_start gone ∙ ap (open_after false) (rows_in-handed (given_all calls) s)) (rows-of rows))))
