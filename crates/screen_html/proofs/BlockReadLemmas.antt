-- HTML in blocks: a reader sees what it sees of the HTML without them; and it is UTF-8.
use Rattle.std.proofs.Common.{◌≡◌, ℕ, Bool, true, false, List, [], ◌∷◌, ◌++◌, map, refl, sym, ap, ◌∙◌, subst, append_assoc, append-nil}
use Rattle.std.specs.Prelude.{◌==◌, if◌then◌else◌}
use Rattle.std.specs.List.{AllByRecursion, flat_map}
use Rattle.std.specs.Str.{IsUtf8}
use Rattle.std.proofs.lemmas.Str.{IsUtf8-append, IsUtf8-nil}
use Rattle.anstyle_parse.specs.Stream.Call.{Call, print, execute}
use Rattle.anstyle_parse.specs.Stream.Calls.{AreCalls}
use Rattle.ansi_html.specs.declared.scheme.Styling.{Styling}
use Rattle.ansi_html.specs.Blocks.{block_begin, block_end}
use Rattle.ansi_html.specs.Html.{Element, no_element, element_end, escaped_text}
use Rattle.ansi_html.specs.Reader.{Attributes, Seen, in_text, seen_from, seen, read_of, read, byte_of}
use Rattle.ansi_html.specs.Styled.{Styled, styled_html, shown_after, bytes_of, all_shown}
use Rattle.ansi_html.proofs.BlockLemmas.{in_block}
use Rattle.ansi_html.proofs.ColorLemmas.{choose}
use Rattle.ansi_html.proofs.NewlineLemmas.{is_not_return, HasNoReturn, HasNoReturn-append, HasNoReturn-end, normalized-same}
use Rattle.ansi_html.proofs.ReadLemmas.{open_in, open-none, seen-element_end}
use Rattle.ansi_html.proofs.SoundLemmas.{IsSound, IsSound-none}
use Rattle.ansi_html.proofs.StyledLemmas.{HaveLinks, HasNoReturn-styled, IsSound-shown_after, IsUtf8-styled_html, seen_styled, seen-styled_html}
use Rattle.ansi_html.proofs.TextLemmas.{IsUtf8-ascii, IsUtf8-end, IsUtf8-stripped}
use Rattle.ansi_screen.specs.After.{State, new_state}
use Rattle.ansi_screen.specs.Text.{goes_on}
use Rattle.screen_text.specs.Rows.{Handed, leaving, command, rows_from, after_rows}
use Rattle.screen_text.specs.Shown.{shown_text}
use Rattle.screen_html.specs.Shown.{Linking, no_linking, row_styled, row_linking, command_linking, handed_styled, closing_styled, shown_styled, shown_html}
use Rattle.screen_html.specs.Writer.{row_html, after_row, after_command, closing_html}
use Rattle.screen_html.specs.Blocks.{Blocked, blocked, at_start, blocked_at_start, left_after_row, row_blocked, after_row_blocked, after_command_blocked, closing_blocked, shown_blocked}
use Rattle.screen_html.proofs.BlockLemmas.{IsOutside, outside-start, outside-row, regroup, all_blocked, all_html, all_given, blocked-all, html-all}
use Rattle.screen_html.proofs.BlockPartLemmas.{all-first, all-others, all-given}
use Rattle.screen_html.proofs.CellLemmas.{of-shown}
use Rattle.screen_html.proofs.HandedLemmas.{AreKept, kept-none, kept-after, links-row, links-closing}
use Rattle.screen_html.proofs.ShownLemmas.{between, shown_html-all}
use Rattle.screen_html.proofs.WholeLemmas.{IsUtf8-escaped, read-shown, text-shown}

-- the elements in which the text of a block stands; and where none is open
abbrev around : (none : Bool) → List Attributes
around none = if none then [] else in_block

module _ (styling : Styling) where
  abbrev standing : Element → Linking → Bool → ℕ → Blocked
  standing shown at on left = blocked (between styling shown at on) left

  -- what is seen behind text of an element, in these others
  abbrev seen_in : List Attributes → Element → List ℕ → List Seen
  seen_in outer shown bytes = seen_from (in_text (open_in outer styling shown)) bytes

  seen-outside : (outer : List Attributes) (shown : Element) (bytes : List ℕ) → shown ≡ no_element → seen_in outer shown bytes ≡ seen_from (in_text outer) bytes
  seen-outside outer shown bytes is = ap (λ element. seen_in outer element bytes) is ∙ ap (λ opened. seen_from (in_text opened) bytes) (open-none styling outer)

  -- A block begins, and ends.
  seen-opening : (none : Bool) (shown : Element) (rest : List ℕ) → (none ≡ true → shown ≡ no_element)
      → seen_in (around none) shown ((if none then block_begin else []) ++ rest) ≡ seen_in in_block shown rest
  seen-opening true shown rest closed = seen-outside [] shown (block_begin ++ rest) (closed refl) ∙ sym (seen-outside in_block shown rest (closed refl))
  seen-opening false shown rest closed = refl

  seen-closing : (ends : Bool) (next : Element) (rest : List ℕ) → (ends ≡ true → next ≡ no_element)
      → seen_in in_block next ((if ends then block_end else []) ++ rest) ≡ seen_in (around ends) next rest
  seen-closing true next rest closes = seen-outside in_block next (block_end ++ rest) (closes refl) ∙ sym (seen-outside [] next rest (closes refl))
  seen-closing false next rest closes = refl

  seen-row : (none ends : Bool) (shown : Element) (texts : List Styled) (html lines : List ℕ) → (none ≡ true → shown ≡ no_element)
      → (ends ≡ true → shown_after shown texts ≡ no_element) → seen_in (around ends) (shown_after shown texts) html ≡ seen_in [] (shown_after shown texts) lines
      → seen_in (around none) shown ((if none then block_begin else []) ++ (styled_html styling shown texts ++ ((if ends then block_end else []) ++ html)))
      ≡ seen_in [] shown (styled_html styling shown texts ++ lines)
  seen-row none ends shown texts html lines closed closes same =
      let next = shown_after shown texts in
      let closing = if ends then block_end else [] in
      seen-opening none shown (styled_html styling shown texts ++ (closing ++ html)) closed
      ∙ seen-styled_html styling in_block refl shown texts (closing ++ html)
      ∙ ap (λ l. seen_styled styling texts ++ l) (seen-closing ends next html closes ∙ same)
      ∙ sym (seen-styled_html styling [] refl shown texts lines)

  -- at the end
  seen-last : (outer : List Attributes) (shown : Element) (rest : List ℕ) → seen_in outer shown (element_end shown ++ rest) ≡ seen_from (in_text outer) rest
  seen-last outer shown rest = seen-element_end outer rest styling shown

  seen-end : (none : Bool) (shown : Element) (at : Linking) (on : Bool)
      → seen_in (around none) shown (closing_html (between styling shown at on) ++ (if none then [] else block_end))
      ≡ seen_in [] shown (closing_html (between styling shown at on))
  seen-end true shown at on = ap (seen_in [] shown) (append-nil (closing_html (between styling shown at on)))
  seen-end false shown at on =
      let texts = closing_styled on in
      let html = styled_html styling shown texts in
      let last = shown_after shown texts in
      ap (seen_in in_block shown) (append_assoc html (element_end last) block_end)
      ∙ seen-styled_html styling in_block refl shown texts (element_end last ++ block_end)
      ∙ ap (λ l. seen_styled styling texts ++ l)
      (seen-last in_block last block_end ∙ sym (ap (seen_in [] last) (sym (append-nil (element_end last))) ∙ seen-last [] last []))
      ∙ sym (seen-styled_html styling [] refl shown texts (element_end last))

  seen-rows : (shown : Element) (at : Linking) (on : Bool) (left : ℕ) (all : List Handed) → IsOutside (standing shown at on left)
      → seen_in (around (left == 0)) shown (all_blocked (standing shown at on left) all) ≡ seen_in [] shown (all_html (between styling shown at on) all)
  seen-rows shown at on left [] outside = seen-end (left == 0) shown at on
  seen-rows shown at on left (leaving row ∷ others) outside =
      let it = standing shown at on left in
      let texts = row_styled at row in
      let after = after_row_blocked it row in
      let text = row_html it.inside row in
      let opening = if left == 0 then block_begin else [] in
      let closing = if after.left == 0 then block_end else [] in
      let blocks = rows_from row_blocked after_row_blocked after_command_blocked after others in
      let close = closing_blocked (after_rows after_row_blocked after_command_blocked after others) in
      let lines = rows_from row_html after_row after_command after.inside others in
      let last = closing_html (after_rows after_row after_command after.inside others) in
      let outside_after = outside-row it row in
      ap (seen_in (around (left == 0)) shown) (regroup opening text closing blocks close)
      ∙ seen-row (left == 0) (after.left == 0) shown texts (blocks ++ close) (lines ++ last) outside.shown outside_after.shown
      (seen-rows (shown_after shown texts) (row_linking at row) (goes_on row) (left_after_row it row) others outside_after)
      ∙ ap (seen_in [] shown) (sym (append_assoc text lines last))
  seen-rows shown at on left (command number parts ∷ others) outside =
      seen-rows shown (command_linking at number parts) on left others (record { shown = outside.shown; closed = outside.closed })

-- What holds of the HTML of texts, of what ends an element and of the tags of blocks holds of all.
module _ (styling : Styling) (Holds : List ℕ → Type 0) (Fits : Styled → Type 0) (nothing : Holds [])
    (append : (first second : List ℕ) → Holds first → Holds second → Holds (first ++ second)) (begin : Holds block_begin) (end : Holds block_end)
    (last : (shown : Element) → Holds (element_end shown)) (closes : (on : Bool) → AllByRecursion Fits (closing_styled on))
    (texts_hold : (shown : Element) (texts : List Styled) → IsSound shown.link → HaveLinks texts → AllByRecursion Fits texts → Holds (styled_html styling shown texts)) where
  holds-closing : (shown : Element) (at : Linking) (on : Bool) → IsSound shown.link → Holds (closing_html (between styling shown at on))
  holds-closing shown at on sound =
      append (styled_html styling shown (closing_styled on)) (element_end (shown_after shown (closing_styled on)))
      (texts_hold shown (closing_styled on) sound (links-closing on) (closes on)) (last (shown_after shown (closing_styled on)))

  holds-blocks : (shown : Element) (at : Linking) (on : Bool) (left : ℕ) (all : List Handed) → IsSound shown.link → AreKept at.places
      → AllByRecursion Fits (handed_styled at all) → Holds (all_blocked (blocked (between styling shown at on) left) all)
  holds-blocks shown at on left [] sound kept are =
      append (closing_html (between styling shown at on)) (if left == 0 then [] else block_end) (holds-closing shown at on sound)
      (choose Holds (left == 0) [] block_end nothing end)
  holds-blocks shown at on left (leaving row ∷ others) sound kept are =
      let it = blocked (between styling shown at on) left in
      let texts = row_styled at row in
      let after = after_row_blocked it row in
      let text = row_html it.inside row in
      let opening = if left == 0 then block_begin else [] in
      let closing = if after.left == 0 then block_end else [] in
      let blocks = rows_from row_blocked after_row_blocked after_command_blocked after others in
      let close = closing_blocked (after_rows after_row_blocked after_command_blocked after others) in
      let haves = links-row at row kept in
      subst Holds (sym (regroup opening text closing blocks close))
      (append opening (text ++ (closing ++ (blocks ++ close))) (choose Holds (left == 0) block_begin [] begin nothing)
      (append text (closing ++ (blocks ++ close)) (texts_hold shown texts sound haves (all-first Fits texts (handed_styled (row_linking at row) others) are))
      (append closing (blocks ++ close) (choose Holds (after.left == 0) block_end [] end nothing)
      (holds-blocks (shown_after shown texts) (row_linking at row) (goes_on row) (left_after_row it row) others (IsSound-shown_after styling shown texts sound haves) kept
      (all-others Fits texts (handed_styled (row_linking at row) others) are)))))
  holds-blocks shown at on left (command number parts ∷ others) sound kept are =
      holds-blocks shown (command_linking at number parts) on left others sound (kept-after number parts at.places kept) are

  pub holds-shown : (s : State) (calls : List Call) → AllByRecursion Fits (shown_styled s calls) → Holds (shown_blocked styling s calls)
  holds-shown s calls are =
      subst Holds (blocked-all styling s calls)
      (holds-blocks no_element no_linking false 0 (all_given styling s calls) IsSound-none kept-none (all-given Fits styling s calls are))

-- None of it is 0D,
abbrev fits_any : Styled → Type 0
fits_any it = Unit {0}

all-any : (texts : List Styled) → AllByRecursion fits_any texts
all-any [] = tt
all-any (it ∷ texts) = (tt, all-any texts)

no_return-begin : HasNoReturn block_begin
unfolding is_not_return
no_return-begin = refl

no_return-end : HasNoReturn block_end
unfolding is_not_return
no_return-end = refl

HasNoReturn-blocked : (styling : Styling) (s : State) (calls : List Call) → HasNoReturn (shown_blocked styling s calls)
HasNoReturn-blocked styling s calls =
    holds-shown styling HasNoReturn fits_any refl HasNoReturn-append no_return-begin no_return-end HasNoReturn-end (λ on. all-any (closing_styled on))
    (λ shown texts sound links are. HasNoReturn-styled styling shown texts) s calls (all-any (shown_styled s calls))

-- and so nothing else is seen of it than of the HTML without blocks.
module _ (styling : Styling) (s : State) (calls : List Call) where
  no_return-html : HasNoReturn (shown_html styling s calls)
  no_return-html =
      subst HasNoReturn (sym (shown_html-all styling s calls))
      (HasNoReturn-append (styled_html styling no_element (shown_styled s calls)) (element_end (shown_after no_element (shown_styled s calls)))
      (HasNoReturn-styled styling no_element (shown_styled s calls)) (HasNoReturn-end (shown_after no_element (shown_styled s calls))))

  pub seen-blocks : seen (shown_blocked styling s calls) ≡ seen (shown_html styling s calls)
  seen-blocks =
      ap (seen_from (in_text [])) (normalized-same (shown_blocked styling s calls) (HasNoReturn-blocked styling s calls) ∙ sym (blocked-all styling s calls))
      ∙ sym (seen-outside styling [] no_element (all_blocked (blocked_at_start styling) (all_given styling s calls)) refl)
      ∙ seen-rows styling no_element no_linking false 0 (all_given styling s calls) (outside-start styling)
      ∙ seen-outside styling [] no_element (all_html (at_start styling) (all_given styling s calls)) refl
      ∙ ap (seen_from (in_text [])) (html-all styling s calls ∙ sym (normalized-same (shown_html styling s calls) no_return-html))

  pub read-blocks : read (shown_blocked styling s calls) ≡ all_shown styling (shown_styled s calls)
  read-blocks = ap (flat_map read_of) seen-blocks ∙ read-shown styling s calls

  pub text-blocks : map byte_of (read (shown_blocked styling s calls)) ≡ shown_text s calls
  text-blocks = ap (λ l. map byte_of (flat_map read_of l)) seen-blocks ∙ text-shown styling s calls

-- It is UTF-8.
utf8-closing : (on : Bool) → AllByRecursion (λ it. IsUtf8 (escaped_text (bytes_of it))) (closing_styled on)
utf8-closing true = (IsUtf8-stripped (execute 0x0A) tt, tt)
utf8-closing false = tt

pub IsUtf8-blocks : (styling : Styling) (columns rows : ℕ) (bytes : List ℕ) (calls : List Call) → AreCalls bytes calls
    → IsUtf8 (shown_blocked styling (new_state columns rows) calls)
IsUtf8-blocks styling columns rows bytes calls are =
    holds-shown styling IsUtf8 (λ it. IsUtf8 (escaped_text (bytes_of it))) IsUtf8-nil IsUtf8-append (IsUtf8-ascii block_begin refl) (IsUtf8-ascii block_end refl)
    IsUtf8-end utf8-closing (IsUtf8-styled_html styling) (new_state columns rows) calls
    (of-shown (λ text. IsUtf8 (escaped_text text)) IsUtf8-nil IsUtf8-escaped (λ c good. IsUtf8-stripped (print c) good.0) (IsUtf8-stripped (execute 0x0A) tt) columns rows bytes calls are)
