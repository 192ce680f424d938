-- In each block of what a screen showed of a stream stands a fragment.
use Rattle.std.proofs.Common.{◌≡◌, ℕ, Bool, true, false, List, [], ◌∷◌, ◌++◌, map, refl, sym, ap, ◌∙◌, subst, append_assoc, append-nil}
use Rattle.std.specs.Prelude.{encode_utf8, ◌==◌, if◌then◌else◌}
use Rattle.std.specs.List.{AllByRecursion}
use Rattle.anstyle_parse.specs.Stream.Call.{Call}
use Rattle.anstyle_parse.specs.Stream.Calls.{AreCalls}
use Rattle.ansi_html.specs.declared.scheme.Styling.{Styling}
use Rattle.ansi_html.specs.Blocks.{block_begin, block_end, AreBlocksOfFragments}
use Rattle.ansi_html.specs.Html.{Element, no_element, element_end}
use Rattle.ansi_html.specs.Styled.{Styled, shown_after, bytes_of}
use Rattle.ansi_html.proofs.GrammarLemmas.{IsInElement, IsInside-nothing}
use Rattle.ansi_html.proofs.LawfulText.{AreTextual, ArePrinted-encode, AreTextual-printed}
use Rattle.ansi_html.proofs.LinerLemmas.{element_end-none}
use Rattle.ansi_html.proofs.SoundLemmas.{IsSound, IsSound-none}
use Rattle.ansi_html.proofs.StyledLemmas.{IsInside-styled, IsSound-shown_after}
use Rattle.ansi_screen.specs.After.{State, new_state, after_all}
use Rattle.ansi_screen.specs.Leaving.{all_left}
use Rattle.ansi_screen.specs.Text.{goes_on}
use Rattle.screen_text.specs.Lines.{open_after, showing}
use Rattle.screen_text.specs.Rows.{Handed, leaving, command, all_handed, rows_from, after_rows}
use Rattle.screen_text.specs.Shown.{given_all}
use Rattle.screen_html.specs.Shown.{Linking, no_linking, row_styled, row_linking, command_linking, rows_styled, handed_styled, linking_behind, closing_styled, shown_styled}
use Rattle.screen_html.specs.Writer.{row_html, closing_html}
use Rattle.screen_html.specs.Blocks.{Blocked, blocked, left_after_row, row_blocked, after_row_blocked, after_command_blocked, closing_blocked, shown_blocked}
use Rattle.screen_html.proofs.BlockLemmas.{IsOutside, outside-start, outside-row, regroup, closing-none, all_blocked, all_given, blocked-all}
use Rattle.screen_html.proofs.CellLemmas.{of-shown}
use Rattle.screen_html.proofs.FragmentLemmas.{Others, Others-text, Others-last}
use Rattle.screen_html.proofs.HandedLemmas.{AreKept, kept-none, kept-after, handed-append, links-row, links-closing}
use Rattle.screen_html.proofs.ShownLemmas.{between}
use Rattle.screen_html.proofs.WholeLemmas.{AreTextual-append, textual_feed}

-- what holds of all texts holds of the first ones and of the others
module _ (Holds : Styled → Type 0) where
  pub all-first : (texts more : List Styled) → AllByRecursion Holds (texts ++ more) → AllByRecursion Holds texts
  all-first [] more are = tt
  all-first (it ∷ texts) more are = (are.0, all-first texts more are.1)

  pub all-others : (texts more : List Styled) → AllByRecursion Holds (texts ++ more) → AllByRecursion Holds more
  all-others [] more are = are
  all-others (it ∷ texts) more are = all-others texts more are.1

-- The texts of all that is handed on are those that are shown, but for the line feed at the end.
pub all-given : (Holds : Styled → Type 0) (styling : Styling) (s : State) (calls : List Call) → AllByRecursion Holds (shown_styled s calls)
    → AllByRecursion Holds (handed_styled no_linking (all_given styling s calls))
all-given Holds styling s calls are =
    let all = all_handed (given_all calls) s in
    let at = linking_behind no_linking all in
    let rows = showing (after_all (given_all calls) s).display in
    let closing = closing_styled (open_after (open_after false (all_left (given_all calls) s)) rows) in
    let last = rows_styled at rows in
    subst (AllByRecursion Holds)
    (sym (handed-append no_linking all (map leaving rows)))
    (all-first Holds (handed_styled no_linking all ++ last) closing
    (subst (AllByRecursion Holds) (sym (append_assoc (handed_styled no_linking all) last closing)) are))

textual-closing : (on : Bool) → AllByRecursion (λ it. AreTextual (bytes_of it)) (closing_styled on)
textual-closing true = ((textual_feed, tt), tt)
textual-closing false = tt

module _ (styling : Styling) where
  -- Where no element is open nothing need follow.
  in_none : (next : Element) → next ≡ no_element → IsInElement styling next []
  in_none next is = subst (IsInElement styling next) (ap element_end is ∙ element_end-none) (IsInside-nothing styling next)

  Others-row : (none ends : Bool) (shown next : Element) (text html : List ℕ) → (none ≡ true → shown ≡ no_element) → (ends ≡ true → next ≡ no_element)
      → ((first : List ℕ) → IsInElement styling next first → IsInElement styling shown (text ++ first)) → Others styling ends next html
      → Others styling none shown ((if none then block_begin else []) ++ (text ++ ((if ends then block_end else []) ++ html)))
  Others-row none true shown next text html closed closes follows more =
      Others-last styling none shown next text html closed (subst (IsInElement styling shown) (append-nil text) (follows [] (in_none next (closes refl)))) more
  Others-row none false shown next text html closed closes follows more = Others-text styling none shown next text html closed follows more

  abbrev standing : Element → Linking → Bool → ℕ → Blocked
  standing shown at on left = blocked (between styling shown at on) left

  Others-end : (shown : Element) (at : Linking) (on : Bool) (left : ℕ) → IsOutside (standing shown at on left) → IsSound shown.link
      → Others styling (left == 0) shown (closing_blocked (standing shown at on left))
  Others-end shown at on left outside sound = by_case (left == 0) outside.shown outside.closed
    where
      close : List ℕ
      close = closing_html (between styling shown at on)

      by_case : (none : Bool) → (none ≡ true → shown ≡ no_element) → (none ≡ true → on ≡ false)
          → Others styling none shown (close ++ (if none then [] else block_end))
      by_case true shown_is closed = record {
        first = [];
        parts = [];
        whole = append-nil close ∙ closing-none (between styling shown at on) (shown_is refl) (closed refl);
        stands = λ is. absurd (cc is);
        fragments = tt;
      }
      by_case false shown_is closed = record {
        first = close;
        parts = [];
        whole = sym (append-nil (close ++ block_end));
        stands = λ is. IsInside-styled styling shown (closing_styled on) (element_end (shown_after shown (closing_styled on))) sound (links-closing on) (textual-closing on)
            (IsInside-nothing styling (shown_after shown (closing_styled on)));
        fragments = tt;
      }

  Others-all : (shown : Element) (at : Linking) (on : Bool) (left : ℕ) (all : List Handed) → IsOutside (standing shown at on left)
      → IsSound shown.link → AreKept at.places → AllByRecursion (λ it. AreTextual (bytes_of it)) (handed_styled at all)
      → Others styling (left == 0) shown (all_blocked (standing shown at on left) all)
  Others-all shown at on left [] outside sound kept are = Others-end shown at on left outside sound
  Others-all shown at on left (leaving row ∷ others) outside sound kept are =
      let it = standing shown at on left in
      let texts = row_styled at row in
      let after = after_row_blocked it row in
      let next = shown_after shown texts in
      let text = row_html it.inside row in
      let opening = if left == 0 then block_begin else [] in
      let closing = if after.left == 0 then block_end else [] in
      let blocks = rows_from row_blocked after_row_blocked after_command_blocked after others in
      let close = closing_blocked (after_rows after_row_blocked after_command_blocked after others) in
      let haves = links-row at row kept in
      let firsts = all-first (λ it. AreTextual (bytes_of it)) texts (handed_styled (row_linking at row) others) are in
      let outside_after = outside-row it row in
      subst (Others styling (left == 0) shown) (sym (regroup opening text closing blocks close))
      (Others-row (left == 0) (after.left == 0) shown next text (blocks ++ close) outside.shown outside_after.shown
      (λ first is. IsInside-styled styling shown texts first sound haves firsts is)
      (Others-all next (row_linking at row) (goes_on row) (left_after_row it row) others outside_after (IsSound-shown_after styling shown texts sound haves) kept
      (all-others (λ it. AreTextual (bytes_of it)) texts (handed_styled (row_linking at row) others) are)))
  Others-all shown at on left (command number parts ∷ others) outside sound kept are =
      Others-all shown (command_linking at number parts) on left others (record { shown = outside.shown; closed = outside.closed }) sound
      (kept-after number parts at.places kept) are

  pub AreBlocksOfFragments-shown : (columns rows : ℕ) (bytes : List ℕ) (calls : List Call) → AreCalls bytes calls
      → AreBlocksOfFragments styling (shown_blocked styling (new_state columns rows) calls)
  AreBlocksOfFragments-shown columns rows bytes calls are =
      let s = new_state columns rows in
      let textual = of-shown AreTextual tt AreTextual-append (λ c good. AreTextual-printed (encode_utf8 c) (ArePrinted-encode c good.0)) (textual_feed, tt) columns rows bytes calls are in
      let all = Others-all no_element no_linking false 0 (all_given styling s calls) (outside-start styling) IsSound-none kept-none
      (all-given (λ it. AreTextual (bytes_of it)) styling s calls textual) in
      record { parts = all.parts; blocks = sym (blocked-all styling s calls) ∙ all.whole; fragments = all.fragments }
