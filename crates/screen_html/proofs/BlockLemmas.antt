-- HTML in blocks is that of the rows, in parts; in each part of the HTML of a stream stands a fragment.
use Rattle.std.proofs.Common.{◌≡◌, ℕ, Bool, true, false, List, [], ◌∷◌, ◌++◌, map, refl, sym, ap, ap₂, ◌∙◌, subst, append_assoc, append-nil}
use Rattle.std.specs.Prelude.{◌==◌, ◌-◌, if◌then◌else◌}
use Rattle.anstyle_parse.specs.Stream.Call.{Call}
use Rattle.ansi_html.specs.declared.scheme.Styling.{Styling}
use Rattle.ansi_html.specs.Blocks.{block_begin, block_end, lines_a_block, AreBlocksOf}
use Rattle.ansi_html.specs.Html.{Element, no_element, element_end}
use Rattle.ansi_html.specs.Styled.{Styled, styled_html, shown_after}
use Rattle.ansi_html.proofs.LinerLemmas.{element_end-none}
use Rattle.ansi_html.proofs.PartLemmas.{Rest, Rest-text, Rest-last}
use Rattle.ansi_html.proofs.StyledLemmas.{shown_after-append}
use Rattle.ansi_screen.specs.declared.cell.Cell.{Cell}
use Rattle.ansi_screen.specs.After.{State, after_all}
use Rattle.ansi_screen.specs.Text.{goes_on}
use Rattle.screen_text.specs.declared.performer.ShownWriter.{ShownWriter}
use Rattle.screen_text.specs.Lines.{showing}
use Rattle.screen_text.specs.Rows.{Handed, leaving, command, all_handed, rows_from, after_rows, last_rows_from}
use Rattle.screen_text.specs.Shown.{given_all}
use Rattle.screen_text.specs.Writer.{rows_of, screen_of, text_from, ending_from}
use Rattle.screen_html.specs.Paid.{purse, paid}
use Rattle.screen_html.specs.Shown.{line_feed, Linking, cells_styled, row_linking, closing_styled, shown_html}
use Rattle.screen_html.specs.Writer.{Between, row_html, after_row, after_command, closing_html}
use Rattle.screen_html.specs.Blocks.{Blocked, blocked, at_start, blocked_at_start, left_with_row, row_blocked, after_row_blocked, after_command_blocked, closing_blocked, left_blocked, ending_blocked, shown_blocked}
use Rattle.screen_html.proofs.ShownLemmas.{left-rows, ending-rows}

-- what writers write of rows, and then of others, of which the last closes
last_rows-append : {S : Type 0} (row_text : S → List Cell → List ℕ) (next : S → List Cell → S) (told : S → ℕ → List (List ℕ) → S) (close : S → List ℕ)
    (at : S) (all more : List Handed)
    → rows_from row_text next told at all ++ last_rows_from row_text next told close (after_rows next told at all) more
    ≡ last_rows_from row_text next told close at (all ++ more)
last_rows-append row_text next told close at [] more = refl
last_rows-append row_text next told close at (leaving row ∷ others) more =
    let there = next at row in
    append_assoc (row_text at row) (rows_from row_text next told there others) (last_rows_from row_text next told close (after_rows next told there others) more)
    ∙ ap (λ l. row_text at row ++ l) (last_rows-append row_text next told close there others more)
    ∙ sym (append_assoc (row_text at row) (rows_from row_text next told there (others ++ more)) (close (after_rows next told there (others ++ more))))
last_rows-append row_text next told close at (command number parts ∷ others) more =
    last_rows-append row_text next told close (told at number parts) others more

-- the HTML of all that is handed on, in blocks and without them
abbrev pub all_blocked : Blocked → List Handed → List ℕ
all_blocked it all = last_rows_from row_blocked after_row_blocked after_command_blocked closing_blocked it all

abbrev pub all_html : Between → List Handed → List ℕ
all_html at all = last_rows_from row_html after_row after_command closing_html at all

-- Where no block is open, no element is, and no line.
pub record IsOutside (it : Blocked) : Type 0 where
  pub shown : (it.left == 0) ≡ true → it.inside.shown ≡ no_element
  pub closed : (it.left == 0) ≡ true → it.inside.is_open ≡ false

pub outside-start : (styling : Styling) → IsOutside (blocked_at_start styling)
outside-start styling = record { shown = λ none. refl; closed = λ none. refl }

-- With a row some lines are left.
pub left-some : (it : Blocked) → (left_with_row it == 0) ≡ false
left-some it = by_case (it.left == 0) refl
  where
    by_case : (none : Bool) → (it.left == 0) ≡ none → ((if none then lines_a_block else it.left) == 0) ≡ false
    by_case true e = refl
    by_case false e = e

pub outside-row : (it : Blocked) (row : List Cell) → IsOutside (after_row_blocked it row)
outside-row it row = by_case (goes_on row)
  where
    at : Linking
    at = it.inside.linking

    cells : List Styled
    cells = paid (purse at.last at.spare) (cells_styled at.places row)

    after_by : Bool → Blocked
    after_by on =
        blocked (record {
          styling = it.inside.styling;
          shown = shown_after it.inside.shown (cells ++ (if on then [] else line_feed ∷ []));
          linking = row_linking at row;
          is_open = on;
        })
        (if on then left_with_row it else left_with_row it - 1)

    by_case : (on : Bool) → IsOutside (after_by on)
    by_case true = record { shown = λ none. absurd (cc (sym none ∙ left-some it)); closed = λ none. absurd (cc (sym none ∙ left-some it)) }
    by_case false = record { shown = λ none. shown_after-append it.inside.shown cells (line_feed ∷ []); closed = λ none. refl }

-- What is written of a row is followed by what is written after it.
Rest-row : (none ends : Bool) (text lines html : List ℕ) → Rest ends lines html
    → Rest none (text ++ lines) ((if none then block_begin else []) ++ (text ++ ((if ends then block_end else []) ++ html)))
Rest-row none true text lines html more = Rest-last none text lines html more
Rest-row none false text lines html more = Rest-text none text lines html more

pub regroup : (opening text closing others rest : List ℕ)
    → ((opening ++ (text ++ closing)) ++ others) ++ rest ≡ opening ++ (text ++ (closing ++ (others ++ rest)))
regroup opening text closing others rest =
    append_assoc (opening ++ (text ++ closing)) others rest
    ∙ append_assoc opening (text ++ closing) (others ++ rest)
    ∙ ap (λ l. opening ++ l) (append_assoc text closing (others ++ rest))

-- At the end nothing is written where no block is open.
pub closing-none : (at : Between) → at.shown ≡ no_element → at.is_open ≡ false → closing_html at ≡ []
closing-none at shown closed =
    ap₂ (λ (element : Element) (on : Bool). styled_html at.styling element (closing_styled on) ++ element_end (shown_after element (closing_styled on))) shown closed
    ∙ element_end-none

Rest-end : (it : Blocked) → IsOutside it → Rest (it.left == 0) (closing_html it.inside) (closing_blocked it)
Rest-end it outside = by_case (it.left == 0) outside.shown outside.closed
  where
    by_case : (none : Bool) → (none ≡ true → it.inside.shown ≡ no_element) → (none ≡ true → it.inside.is_open ≡ false)
        → Rest none (closing_html it.inside) (closing_html it.inside ++ (if none then [] else block_end))
    by_case true shown closed =
        let nothing = closing-none it.inside (shown refl) (closed refl) in
        record { first = []; parts = []; whole = append-nil (closing_html it.inside) ∙ nothing; same = nothing }
    by_case false shown closed = record {
      first = closing_html it.inside;
      parts = [];
      whole = sym (append-nil (closing_html it.inside ++ block_end));
      same = sym (append-nil (closing_html it.inside));
    }

Rest-all : (it : Blocked) (all : List Handed) → IsOutside it → Rest (it.left == 0) (all_html it.inside all) (all_blocked it all)
Rest-all it [] outside = Rest-end it outside
Rest-all it (leaving row ∷ others) outside =
    let after = after_row_blocked it row in
    let text = row_html it.inside row in
    let opening = if it.left == 0 then block_begin else [] in
    let closing = if after.left == 0 then block_end else [] in
    let lines = rows_from row_html after_row after_command after.inside others in
    let last = closing_html (after_rows after_row after_command after.inside others) in
    let blocks = rows_from row_blocked after_row_blocked after_command_blocked after others in
    let close = closing_blocked (after_rows after_row_blocked after_command_blocked after others) in
    subst (λ l. Rest (it.left == 0) l (((opening ++ (text ++ closing)) ++ blocks) ++ close)) (sym (append_assoc text lines last))
    (subst (Rest (it.left == 0) (text ++ (lines ++ last))) (sym (regroup opening text closing blocks close))
    (Rest-row (it.left == 0) (after.left == 0) text (lines ++ last) (blocks ++ close) (Rest-all after others (outside-row it row))))
Rest-all it (command number parts ∷ others) outside =
    Rest-all (after_command_blocked it number parts) others (record { shown = outside.shown; closed = outside.closed })

module _ (styling : Styling) (s : State) (calls : List Call) where
  -- what a stream hands on, as rows leave and at the end
  abbrev pub all_given : List Handed
  all_given = all_handed (given_all calls) s ++ map leaving (showing (after_all (given_all calls) s).display)

  pub blocked-all : all_blocked (blocked_at_start styling) all_given ≡ shown_blocked styling s calls
  blocked-all =
      sym (last_rows-append row_blocked after_row_blocked after_command_blocked closing_blocked (blocked_at_start styling)
      (all_handed (given_all calls) s) (map leaving (showing (after_all (given_all calls) s).display)))

  pub html-all : all_html (at_start styling) all_given ≡ shown_html styling s calls
  html-all =
      sym (last_rows-append row_html after_row after_command closing_html (at_start styling)
      (all_handed (given_all calls) s) (map leaving (showing (after_all (given_all calls) s).display)))
      ∙ ap₂ (λ l m. l ++ m) (left-rows styling s calls) (ending-rows styling s calls)

  -- Without the tags of the blocks it is the HTML without them.
  pub AreBlocksOf-shown : AreBlocksOf (shown_html styling s calls) (shown_blocked styling s calls)
  AreBlocksOf-shown =
      let rest = Rest-all (blocked_at_start styling) all_given (outside-start styling) in
      record { parts = rest.parts; blocks = sym blocked-all ∙ rest.whole; joined = sym html-all ∙ rest.same }

  -- what a new writer writes
  module _ {R : Type 0} (standing_of : R → Blocked) (performer : ShownWriter R) (is : screen_of performer ≡ s)
      (new : standing_of (rows_of performer) ≡ blocked_at_start styling) where
    pub left-new : text_from standing_of row_blocked after_row_blocked after_command_blocked performer calls ≡ left_blocked styling s calls
    left-new =
        ap₂ (λ at (x : State). rows_from row_blocked after_row_blocked after_command_blocked at (all_handed (given_all calls) x)) new is

    pub ending-new : ending_from standing_of row_blocked after_row_blocked after_command_blocked closing_blocked performer calls
        ≡ ending_blocked styling s calls
    ending-new =
        ap₂ (λ at (x : State). all_blocked (after_rows after_row_blocked after_command_blocked at (all_handed (given_all calls) x))
        (map leaving (showing (after_all (given_all calls) x).display))) new is
