-- The calls of what a screen showed are a list of calls that a parser can make.
use Rattle.std.proofs.Common.{◌≡◌, ◌≤◌, ℕ, Bool, true, false, List, [], ◌∷◌, ◌++◌, map, refl, sym, subst, append_assoc, append-nil}
use Rattle.std.specs.Prelude.{if◌then◌else◌}
use Rattle.std.specs.Str.{bytes_eq}
use Rattle.std.specs.List.{AllByRecursion}
use Rattle.anstyle_parse.specs.Stream.Call.{Call, execute}
use Rattle.anstyle_parse.specs.Stream.Calls.{is_executed, AreCalls}
use Rattle.anstyle_parse.specs.Laws.Lawful.{is_character, AreLawful, AreMade}
use Rattle.anstyle_parse.specs.Stream.Bytes.{is_control, is_within}
use Rattle.anstyle_parse.proofs.Lawful.Calls.{lawful}
use Rattle.anstyle_parse.proofs.Lists.Parts.{AllByRecursion-take}
use Rattle.anstyle_parse.proofs.Canonical.Bytes.{lawful_exactly}
use Rattle.ansi_strip.proofs.Showable.{AreShowable-lawful}
use Rattle.ansi_style.specs.declared.style.Style.{Style}
use Rattle.ansi_style.specs.Style.{plain, are_equal}
use Rattle.ansi_style.specs.Codes.{selection, codes_of}
use Rattle.ansi_style.proofs.CodesLemmas.{AreLawful-selection}
use Rattle.ansi_screen.specs.declared.cell.Cell.{Cell}
use Rattle.ansi_screen.specs.declared.cell.Marks.{Marks}
use Rattle.ansi_screen.specs.declared.cell.Marks.TheVariants.{Unmarked, One, Two}
use Rattle.ansi_screen.specs.After.{State, new_state, after_all}
use Rattle.ansi_screen.specs.Cells.{is_right}
use Rattle.ansi_screen.specs.Display.{Display, most_columns, most_rows}
use Rattle.ansi_screen.specs.Reachable.{HasColors, IsScreen, HasContents}
use Rattle.ansi_screen.specs.Text.{used, is_unprinted, goes_on}
use Rattle.ansi_screen.proofs.CharacterLemmas.{PrintsCharacter, AreGoodMarks, IsGoodCell, AreGood, IsGoodState, good-new, good-after_all, good-left}
use Rattle.ansi_screen.proofs.ContentLemmas.{contents-new, contents-after_all}
use Rattle.ansi_screen.proofs.KeptLemmas.{new-screen}
use Rattle.html_urls.specs.Linked.{link_command, with_room, prints}
use Rattle.screen_text.specs.Lines.{showing}
use Rattle.screen_text.specs.Rows.{Handed, leaving, command, all_handed}
use Rattle.screen_text.specs.Shown.{given_all}
use Rattle.screen_text.proofs.CleanLemmas.{all-print, good-showing}
use Rattle.screen_html.specs.Links.{Kept, link_at}
use Rattle.screen_html.proofs.HandedLemmas.{rows_in, rows_in-handed}
use Rattle.screen_html.proofs.PaidLemmas.{link-either}
use Rattle.screen_calls.specs.Calls.{Pen, style_calls, link_calls, marks_of, characters_of, purse_in, shown_calls_of, cell_calls, pen_behind, cells_calls, feed_calls, Hand, printed_cells, behind_cells, row_calls, hand_after, hand_told, handed_calls, hand_behind, closing_calls, at_start, left_calls, ending_calls, shown_calls}
use Rattle.screen_calls.specs.Laws.{AreColored}
use Rattle.screen_calls.proofs.ColoredLemmas.{colored-left, colored-showing}
use Rattle.screen_calls.proofs.FitLemmas.{Fits, AreFit, fits-nothing, fit-none, fits-link_at, fit-after, command-parts}
use Rattle.screen_calls.proofs.StyleLemmas.{plain-colors, colored-take}
use Rattle.screen_calls.proofs.TextLemmas.{rows-of}

-- These calls may come before any that a parser can make.
abbrev MayCome : List Call → Type 0
MayCome first = (calls : List Call) → AreLawful calls → AreLawful (first ++ calls)

may-none : MayCome []
may-none = λ calls more. more

may-both : (first second : List Call) → MayCome first → MayCome second → MayCome (first ++ second)
may-both first second one other =
    λ calls more. subst AreLawful (sym (append_assoc first second calls)) (one (second ++ calls) (other calls more))

may-if : (t : Bool) (first second : List Call) → MayCome first → MayCome second → MayCome (if t then first else second)
may-if true first second one other = one
may-if false first second one other = other

-- what selects a link, a style, and what prints characters
may-link : (selected wanted paid : List ℕ) → Fits paid → MayCome (link_calls selected wanted paid)
may-link selected wanted paid fits =
    may-if (bytes_eq selected wanted) [] (link_command (with_room paid) ∷ []) may-none (λ calls more. (command-parts paid fits, more))

may-style : (selected wanted : Style) → HasColors wanted → MayCome (style_calls selected wanted)
may-style selected wanted colors =
    may-if (are_equal selected wanted) [] (selection (codes_of wanted) ∷ []) may-none
    (λ calls more. ((AreLawful-selection wanted colors.0 colors.1).0, more))

may-print : (text : List ℕ) → AllByRecursion (λ c. is_character c ≡ true) text → MayCome (prints text)
may-print [] are = may-none
may-print (c ∷ text) are = λ calls more. (are.0, may-print text are.1 calls more)

printed-marks : (marks : Marks) → AreGoodMarks marks → AllByRecursion (λ c. is_character c ≡ true) (marks_of marks)
printed-marks Unmarked are = tt
printed-marks (One first) are = (are.0, tt)
printed-marks (Two first second) are = (are.0.0, (are.1.0, tt))

-- a cell, and cells
may-cell : (links : List Kept) (at : Pen) (cell : Cell) → AreFit links → IsGoodCell cell → HasColors cell.style → MayCome (cell_calls links at cell)
may-cell links at cell fit good colors =
    let wanted = link_at cell.link links in
    let link = link_calls at.purse.last wanted (purse_in links at cell).last in
    let style = style_calls at.style cell.style in
    let text = prints (characters_of cell) in
    may-if (is_right cell.part) [] (shown_calls_of links at cell) may-none
    (may-both link (style ++ text)
    (may-link at.purse.last wanted (purse_in links at cell).last (link-either Fits at.purse wanted (fits-link_at cell.link links fit) fits-nothing))
    (may-both style text (may-style at.style cell.style colors) (may-print (characters_of cell) (good.0.0, printed-marks cell.marks good.1))))

may-cells : (links : List Kept) (at : Pen) (cells : List Cell) → AreFit links → AreGood cells → AreColored cells → MayCome (cells_calls links at cells)
may-cells links at [] fit good colors = may-none
may-cells links at (cell ∷ cells) fit good colors =
    may-both (cell_calls links at cell) (cells_calls links (pen_behind links at cell) cells)
    (may-cell links at cell fit good.0 colors.0) (may-cells links (pen_behind links at cell) cells fit good.1 colors.1)

feed-executed : is_executed 0x0A ≡ true
unfolding is_executed is_control is_within
feed-executed = refl

may-feed : (at : Pen) → MayCome (feed_calls at)
may-feed at =
    let style = style_calls at.style plain in
    may-both (link_calls at.purse.last [] []) (style ++ execute 0x0A ∷ []) (may-link at.purse.last [] [] fits-nothing)
    (may-both style (execute 0x0A ∷ []) (may-style at.style plain plain-colors) (λ calls more. (feed-executed, more)))

-- a row, and rows that are handed on
may-row : (at : Hand) (row : List Cell) → AreFit at.places → AreGood row → AreColored row → MayCome (row_calls at row)
may-row at row fit good colors =
    may-both (cells_calls at.places at.pen (printed_cells row)) (if goes_on row then [] else feed_calls (behind_cells at row))
    (may-cells at.places at.pen (printed_cells row) fit (AllByRecursion-take IsGoodCell (used is_unprinted row) row good) (colored-take (used is_unprinted row) row colors))
    (may-if (goes_on row) [] (feed_calls (behind_cells at row)) may-none (may-feed (behind_cells at row)))

may-handed : (at : Hand) (all : List Handed) → AreFit at.places → AllByRecursion AreGood (rows_in all) → AllByRecursion AreColored (rows_in all)
    → MayCome (handed_calls at all)
may-handed at [] fit good colors = may-none
may-handed at (leaving row ∷ others) fit good colors =
    may-both (row_calls at row) (handed_calls (hand_after at row) others) (may-row at row fit good.0 colors.0)
    (may-handed (hand_after at row) others fit good.1 colors.1)
may-handed at (command number parts ∷ others) fit good colors =
    may-handed (hand_told at number parts) others (fit-after number parts at.places fit) good colors

fit-behind : (at : Hand) (all : List Handed) → AreFit at.places → AreFit (hand_behind at all).places
fit-behind at [] fit = fit
fit-behind at (leaving row ∷ others) fit = fit-behind (hand_after at row) others fit
fit-behind at (command number parts ∷ others) fit = fit-behind (hand_told at number parts) others (fit-after number parts at.places fit)

may-close : (at : Hand) → MayCome (closing_calls at)
may-close at = may-if at.is_open (feed_calls at.pen) [] (may-feed at.pen) may-none

-- all that a screen of some size showed of a stream
module _ (columns rows : ℕ) (wide : 2 ≤ columns) (narrow : columns ≤ most_columns) (some : 1 ≤ rows) (few : rows ≤ most_rows)
    (bytes : List ℕ) (calls : List Call) (are : AreCalls bytes calls) where
  abbrev new : State
  new = new_state columns rows

  abbrev given : List Call
  given = given_all calls

  abbrev last : Display
  last = (after_all given new).display

  prints-all : AllByRecursion PrintsCharacter given
  prints-all = all-print calls (AreShowable-lawful false calls (lawful bytes calls are))

  good : IsGoodState new
  good = record { display = good-new columns rows; last = tt }

  screen : IsScreen new.display
  screen = new-screen columns rows wide narrow some few

  contents : HasContents new.display
  contents = contents-new columns rows

  may-left : MayCome (left_calls new calls)
  may-left =
      let all = all_handed given new in
      may-handed at_start all fit-none
      (subst (AllByRecursion AreGood) (sym (rows_in-handed given new)) (good-left given new prints-all good))
      (subst (AllByRecursion AreColored) (sym (rows_in-handed given new)) (colored-left given new screen contents))

  may-end : MayCome (ending_calls new calls)
  may-end =
      let at = hand_behind at_start (all_handed given new) in
      let still = map leaving (showing last) in
      may-both (handed_calls at still) (closing_calls (hand_behind at still))
      (may-handed at still (fit-behind at_start (all_handed given new) fit-none)
      (subst (AllByRecursion AreGood) (sym (rows-of (showing last))) (good-showing last (good-after_all given new prints-all good).display))
      (subst (AllByRecursion AreColored) (sym (rows-of (showing last))) (colored-showing last (contents-after_all given new screen contents))))
      (may-close (hand_behind at still))

  pub shown-made : AreMade (shown_calls new calls)
  shown-made =
      (lawful_exactly (shown_calls new calls)).0
      (subst AreLawful (append-nil (shown_calls new calls)) (may-both (left_calls new calls) (ending_calls new calls) may-left may-end [] tt))
