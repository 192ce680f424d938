-- What holds of the encoding of each character and of a line feed holds of all texts that a screen showed.
use Rattle.std.proofs.Common.{ℕ, Bool, true, false, List, [], ◌∷◌, ◌++◌, map, take, sym, subst}
use Rattle.std.specs.Prelude.{encode_utf8, if◌then◌else◌}
use Rattle.std.specs.List.{AllByRecursion}
use Rattle.anstyle_parse.specs.Stream.Call.{Call, print, execute, hook, put, unhook, osc_dispatch, csi_dispatch, esc_dispatch}
use Rattle.anstyle_parse.specs.Stream.Calls.{AreCalls}
use Rattle.anstyle_parse.proofs.Lawful.Calls.{lawful}
use Rattle.anstyle_parse.proofs.Lists.Parts.{AllByRecursion-take}
use Rattle.ansi_strip.proofs.Showable.{AreShowable, IsShowable, AreShowable-lawful}
use Rattle.ansi_html.specs.Styled.{Styled, bytes_of}
use Rattle.ansi_screen.specs.declared.cell.Cell.{Cell}
use Rattle.ansi_screen.specs.declared.cell.Marks.{Marks}
use Rattle.ansi_screen.specs.declared.cell.Marks.TheVariants.{Unmarked, One, Two}
use Rattle.ansi_screen.specs.Cells.{is_right}
use Rattle.ansi_screen.specs.After.{State, new_state, after_all}
use Rattle.ansi_screen.specs.Text.{marks_text, cell_text, used, is_unprinted, goes_on, printed_count, printed_rows}
use Rattle.ansi_screen.specs.Leaving.{all_left}
use Rattle.ansi_screen.proofs.CharacterLemmas.{PrintsCharacter, IsGood, AreGoodMarks, IsGoodCell, AreGood, IsGoodState, good-new, good-after_all, good-left, good-first_rows}
use Rattle.screen_text.specs.Lines.{open_after, showing}
use Rattle.screen_text.specs.Shown.{given_all}
use Rattle.screen_text.proofs.CleanLemmas.{all-print, good-showing}
use Rattle.screen_text.specs.Rows.{Handed, leaving, command, all_handed}
use Rattle.screen_html.specs.Links.{Kept, Table}
use Rattle.screen_html.specs.Paid.{purse, paid}
use Rattle.screen_html.proofs.HandedLemmas.{rows_in, rows_in-handed}
use Rattle.screen_html.proofs.PaidLemmas.{all-paid}
use Rattle.screen_html.specs.Shown.{cell_styled, line_feed, Linking, linked, no_linking, row_styled, row_linking, command_linking, rows_styled, handed_styled, linking_behind, closing_styled, shown_styled}
use Rattle.screen_html.specs.Page.{lines_styled}

-- calls that may be shown print characters
prints-call : (call : Call) → IsShowable call → PrintsCharacter call
prints-call (print c) is = is
prints-call (execute byte) is = tt
prints-call (hook groups intermediates ignore final) is = tt
prints-call (put byte) is = tt
prints-call unhook is = tt
prints-call (osc_dispatch parts bell) is = tt
prints-call (csi_dispatch groups intermediates ignore final) is = tt
prints-call (esc_dispatch intermediates ignore final) is = tt

prints-all : (calls : List Call) → AreShowable calls → AllByRecursion PrintsCharacter calls
prints-all [] are = tt
prints-all (call ∷ calls) are = (prints-call call are.0, prints-all calls are.1)

module _ (Holds : List ℕ → Type 0) (none : Holds []) (both : (first second : List ℕ) → Holds first → Holds second → Holds (first ++ second))
    (character : (c : ℕ) → IsGood c → Holds (encode_utf8 c)) (feed : Holds (0x0A ∷ [])) where
  abbrev HoldsOfAll : List Styled → Type 0
  HoldsOfAll texts = AllByRecursion (λ it. Holds (bytes_of it)) texts

  all-append : (texts more : List Styled) → HoldsOfAll texts → HoldsOfAll more → HoldsOfAll (texts ++ more)
  all-append [] more are others = others
  all-append (it ∷ texts) more are others = (are.0, all-append texts more are.1 others)

  of-if : (t : Bool) (first second : List ℕ) → Holds first → Holds second → Holds (if t then first else second)
  of-if true first second one other = one
  of-if false first second one other = other

  of-marks : (marks : Marks) → AreGoodMarks marks → Holds (marks_text marks)
  of-marks Unmarked are = none
  of-marks (One first) are = character first are
  of-marks (Two first second) are = both (encode_utf8 first) (encode_utf8 second) (character first are.0) (character second are.1)

  of-cell : (cell : Cell) → IsGoodCell cell → Holds (cell_text cell)
  unfolding cell_text
  of-cell cell good =
      of-if (is_right cell.part) [] (encode_utf8 cell.character ++ marks_text cell.marks) none
      (both (encode_utf8 cell.character) (marks_text cell.marks) (character cell.character good.0) (of-marks cell.marks good.1))

  of-cells : (links : List Kept) (cells : List Cell) → AreGood cells → HoldsOfAll (map (cell_styled links) cells)
  of-cells links [] are = tt
  of-cells links (cell ∷ cells) are = (of-cell cell are.0, of-cells links cells are.1)

  of-line_end : (on : Bool) → HoldsOfAll (if on then [] else line_feed ∷ [])
  of-line_end true = tt
  of-line_end false = (feed, tt)

  of-closing : (on : Bool) → HoldsOfAll (closing_styled on)
  of-closing true = (feed, tt)
  of-closing false = tt

  of-row : (at : Linking) (row : List Cell) → AreGood row → HoldsOfAll (row_styled at row)
  of-row at row are =
      let cells : List Cell = take (used is_unprinted row) row in
      all-append (paid (purse at.last at.spare) (map (cell_styled at.places) cells)) (if goes_on row then [] else line_feed ∷ [])
      (all-paid Holds (purse at.last at.spare) (map (cell_styled at.places) cells)
      (of-cells at.places cells (AllByRecursion-take IsGoodCell (used is_unprinted row) row are))) (of-line_end (goes_on row))

  of-rows : (at : Linking) (rows : List (List Cell)) → AllByRecursion AreGood rows → HoldsOfAll (rows_styled at rows)
  of-rows at [] are = tt
  of-rows at (row ∷ rows) are = all-append (row_styled at row) (rows_styled (row_linking at row) rows) (of-row at row are.0) (of-rows (row_linking at row) rows are.1)

  of-handed : (at : Linking) (all : List Handed) → AllByRecursion AreGood (rows_in all) → HoldsOfAll (handed_styled at all)
  of-handed at [] are = tt
  of-handed at (leaving row ∷ others) are =
      all-append (row_styled at row) (handed_styled (row_linking at row) others) (of-row at row are.0) (of-handed (row_linking at row) others are.1)
  of-handed at (command number parts ∷ others) are = of-handed (command_linking at number parts) others are

  pub of-shown : (columns rows : ℕ) (bytes : List ℕ) (calls : List Call) → AreCalls bytes calls
      → AllByRecursion (λ it. Holds (bytes_of it)) (shown_styled (new_state columns rows) calls)
  of-shown columns rows bytes calls are =
      let s : State = new_state columns rows in
      let prints : AllByRecursion PrintsCharacter (given_all calls) = all-print calls (AreShowable-lawful false calls (lawful bytes calls are)) in
      let new : IsGoodState s = record { display = good-new columns rows; last = tt } in
      let left : List (List Cell) = all_left (given_all calls) s in
      let behind : State = after_all (given_all calls) s in
      let last : List (List Cell) = showing behind.display in
      let good : IsGoodState behind = good-after_all (given_all calls) s prints new in
      let all : List Handed = all_handed (given_all calls) s in
      let at : Linking = linking_behind no_linking all in
      all-append (handed_styled no_linking all) (rows_styled at last ++ closing_styled (open_after (open_after false left) last))
      (of-handed no_linking all (subst (AllByRecursion AreGood) (sym (rows_in-handed (given_all calls) s)) (good-left (given_all calls) s prints new)))
      (all-append (rows_styled at last) (closing_styled (open_after (open_after false left) last))
      (of-rows at last (good-showing behind.display good.display))
      (of-closing (open_after (open_after false left) last)))

  -- of rows of such cells, and of the end of the last
  pub of-lines : (links : Table) (rows : List (List Cell)) → AllByRecursion AreGood rows
      → AllByRecursion (λ it. Holds (bytes_of it)) (lines_styled links rows)
  of-lines links rows are =
      all-append (rows_styled (linked [] links) rows) (closing_styled (open_after false rows)) (of-rows (linked [] links) rows are)
      (of-closing (open_after false rows))

-- the calls of a stream print characters
pub prints-bytes : (bytes : List ℕ) (calls : List Call) → AreCalls bytes calls → AllByRecursion PrintsCharacter calls
prints-bytes bytes calls are = prints-all calls (AreShowable-lawful false calls (lawful bytes calls are))

-- what shows after them
pub good-page : (columns rows : ℕ) (bytes : List ℕ) (calls : List Call) → AreCalls bytes calls
    → AllByRecursion AreGood (printed_rows (after_all calls (new_state columns rows)).display)
good-page columns rows bytes calls are =
    let s : State = new_state columns rows in
    let new : IsGoodState s = record { display = good-new columns rows; last = tt } in
    let behind : State = after_all calls s in
    let good : IsGoodState behind = good-after_all calls s (prints-bytes bytes calls are) new in
    good-first_rows (printed_count behind.display) behind.display good.display
