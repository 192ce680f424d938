-- Plain text needs no screen: the HTML of what a screen showed of it is that of the stream.
use Rattle.std.proofs.Common.{◌≡◌, ℕ, ◌≤◌, Bool, true, false, List, [], ◌∷◌, ◌++◌, map, take, refl, sym, ap, ap₂, ◌∙◌, subst, append_assoc, append-nil}
use Rattle.std.specs.Prelude.{⊤, ◌==◌, if◌then◌else◌}
use Rattle.std.specs.List.{AllByRecursion}
use Rattle.std.proofs.lemmas.Grind.{flat_map-append}
use Rattle.anstyle_parse.specs.Stream.Call.{Call, print, execute, hook, put, unhook, osc_dispatch, csi_dispatch, esc_dispatch}
use Rattle.anstyle_parse.specs.Stream.Calls.{AreCalls}
use Rattle.anstyle_parse.proofs.Lists.Parts.{AllByRecursion-take}
use Rattle.ansi_strip.specs.Strip.{stripped_call, stripped}
use Rattle.ansi_style.specs.Style.{plain}
use Rattle.ansi_style.proofs.EqualityLemmas.{are_equal-refl}
use Rattle.ansi_html.specs.declared.scheme.Styling.{Styling}
use Rattle.ansi_html.specs.Html.{escaped, escaped_text, Element, element, no_element, element_end, Standing, at_start, after_text, text_html, is_executed, call_html, standing_after, standing_at_end, html_from, html}
use Rattle.ansi_html.specs.Styled.{Styled, behind, styled_html, shown_after, all_html, all_bytes}
use Rattle.ansi_screen.specs.declared.cell.Cell.{Cell}
use Rattle.ansi_screen.specs.After.{State, new_state, after, after_all}
use Rattle.ansi_screen.specs.Leaving.{rows_left, all_left}
use Rattle.ansi_screen.specs.Text.{used, is_unprinted, goes_on}
use Rattle.ansi_screen.specs.Laws.{printing, line_feed as feed}
use Rattle.screen_text.specs.Laws.{ArePlain, LastIsNotEmpty, lines_bytes}
use Rattle.screen_text.specs.Lines.{open_after, showing}
use Rattle.screen_text.specs.Rows.{Handed, leaving, command, all_handed}
use Rattle.screen_text.specs.Shown.{given, given_all}
use Rattle.screen_text.proofs.RowTextLemmas.{IsPlainCell, ArePlainCells, ArePlainRows}
use Rattle.screen_text.proofs.TextLemmas.{plain-marked_lines, lines_calls}
use Rattle.screen_text.proofs.ThroughLemmas.{lines-only, stripped-through, through-plain}
use Rattle.screen_html.specs.Links.{Kept, no_places, link_at}
use Rattle.screen_html.specs.Paid.{Purse, purse, purse_with, purse_behind, paid}
use Rattle.screen_html.specs.Shown.{cell_styled, line_feed, Linking, no_linking, row_styled, row_linking, rows_styled, handed_styled, linking_behind, closing_styled, shown_styled, shown_html}
use Rattle.screen_html.proofs.HandedLemmas.{rows_in, rows_in-handed}
use Rattle.screen_html.proofs.PaidLemmas.{link-either}
use Rattle.screen_html.proofs.ShownLemmas.{shown_html-all, bytes-shown}

-- a text that is plain, and in no link; such texts
abbrev IsUnstyled : Styled → Type 0
IsUnstyled it = (it.style ≡ plain) × (it.link ≡ [])

abbrev AreUnstyled : List Styled → Type 0
AreUnstyled texts = AllByRecursion IsUnstyled texts

unstyled-append : (texts more : List Styled) → AreUnstyled texts → AreUnstyled more → AreUnstyled (texts ++ more)
unstyled-append [] more are others = others
unstyled-append (it ∷ texts) more are others = (are.0, unstyled-append texts more are.1 others)

after_text-same : {A : Type 0} (at : A) (text : List ℕ) → after_text at at text ≡ at
after_text-same at [] = refl
after_text-same at (b ∷ text) = refl

abbrev in_none : (selected : Element) → Standing
in_none selected = record { shown = no_element; selected = selected; returned = false }

end-none : element_end no_element ≡ []
end-none = rw (are_equal-refl plain) refl

module _ (styling : Styling) where
  text-plain : (is_feed : Bool) (text : List ℕ) → text_html styling (in_none no_element) is_feed text ≡ escaped_text text
  unfolding text_html
  text-plain is_feed [] = refl
  text-plain is_feed (b ∷ text) = rw (are_equal-refl plain) refl

  -- their HTML is their bytes, escaped
  behind-plain : (it : Styled) → IsUnstyled it → behind no_element it ≡ no_element
  behind-plain it is = ap₂ (λ s l. after_text no_element (element s l) it.text) is.0 is.1 ∙ after_text-same no_element it.text

  styled-plain : (texts : List Styled) → AreUnstyled texts → styled_html styling no_element texts ≡ escaped_text (all_bytes texts)
  styled-plain [] are = refl
  styled-plain (it ∷ texts) are =
      ap₂ (λ s l. text_html styling (in_none (element s l)) false it.text ++ styled_html styling (behind no_element it) texts) are.0.0 are.0.1
      ∙ (ap (λ l. l ++ styled_html styling (behind no_element it) texts) (text-plain false it.text)
      ∙ (ap (λ e. escaped_text it.text ++ styled_html styling e texts) (behind-plain it are.0)
      ∙ (ap (λ l. escaped_text it.text ++ l) (styled-plain texts are.1) ∙ sym (flat_map-append escaped it.text (all_bytes texts)))))

  shown-plain : (texts : List Styled) → AreUnstyled texts → shown_after no_element texts ≡ no_element
  shown-plain [] are = refl
  shown-plain (it ∷ texts) are = ap (λ e. shown_after e texts) (behind-plain it are.0) ∙ shown-plain texts are.1

  all-plain : (texts : List Styled) → AreUnstyled texts → all_html styling texts ≡ escaped_text (all_bytes texts)
  all-plain texts are =
      ap₂ (λ l e. l ++ element_end e) (styled-plain texts are) (shown-plain texts are)
      ∙ (ap (λ l. escaped_text (all_bytes texts) ++ l) end-none ∙ append-nil (escaped_text (all_bytes texts)))

-- Characters and line feeds, of which a screen and HTML are told alike.
abbrev IsTyped : Call → Type 0
IsTyped (print c) = ⊤
IsTyped (execute byte) = byte ≡ 0x0A
IsTyped call = ⊥

abbrev AreTyped : List Call → Type 0
AreTyped calls = AllByRecursion IsTyped calls

typed-printing : (line : List ℕ) (calls : List Call) → AreTyped calls → AreTyped (printing line ++ calls)
typed-printing [] calls are = are
typed-printing (c ∷ line) calls are = (tt, typed-printing line calls are)

typed-lines : (lines : List (List ℕ)) → AreTyped (lines_calls lines)
typed-lines [] = tt
typed-lines (line ∷ lines) =
    subst (λ l. AreTyped l) (sym (append_assoc (printing line) (feed ∷ []) (lines_calls lines)))
    (typed-printing line (feed ∷ lines_calls lines) (refl, typed-lines lines))

module _ (styling : Styling) where
  call-plain : (call : Call) → IsTyped call → call_html styling at_start call ≡ escaped_text (stripped_call call)
  call-plain (print c) is = text-plain styling false (stripped_call (print c))
  call-plain (execute byte) is = text-plain styling (is_executed 0x0A (execute byte)) (stripped_call (execute byte))
  call-plain (hook groups intermediates ignore final) is = absurd is
  call-plain (put byte) is = absurd is
  call-plain unhook is = absurd is
  call-plain (osc_dispatch parts bell) is = absurd is
  call-plain (csi_dispatch groups intermediates ignore final) is = absurd is
  call-plain (esc_dispatch intermediates ignore final) is = absurd is

standing-by : (returned : Bool) (text : List ℕ) → returned ≡ false
    → record { shown = after_text no_element no_element text; selected = no_element; returned = after_text false returned text } ≡ at_start
standing-by returned text is =
    ap (λ r. record { shown = after_text no_element no_element text; selected = no_element; returned = after_text false r text }) is
    ∙ ap₂ (λ (e : Element) (r : Bool). record { shown = e; selected = no_element; returned = r }) (after_text-same no_element text) (after_text-same false text)

standing-plain : (call : Call) → IsTyped call → standing_after call at_start ≡ at_start
standing-plain (print c) is = standing-by false (stripped_call (print c)) refl
standing-plain (execute byte) is = standing-by (byte == 0x0D) (stripped_call (execute byte)) (ap (λ b. b == 0x0D) is)
standing-plain (hook groups intermediates ignore final) is = absurd is
standing-plain (put byte) is = absurd is
standing-plain unhook is = absurd is
standing-plain (osc_dispatch parts bell) is = absurd is
standing-plain (csi_dispatch groups intermediates ignore final) is = absurd is
standing-plain (esc_dispatch intermediates ignore final) is = absurd is

module _ (styling : Styling) where
  from-plain : (calls : List Call) → AreTyped calls → html_from styling at_start calls ≡ escaped_text (stripped calls)
  from-plain [] are = refl
  from-plain (call ∷ calls) are =
      ap₂ (λ l at. l ++ html_from styling at calls) (call-plain styling call are.0) (standing-plain call are.0)
      ∙ (ap (λ l. escaped_text (stripped_call call) ++ l) (from-plain calls are.1) ∙ sym (flat_map-append escaped (stripped_call call) (stripped calls)))

  end-plain : (calls : List Call) → AreTyped calls → standing_at_end at_start calls ≡ at_start
  end-plain [] are = refl
  end-plain (call ∷ calls) are = ap (λ at. standing_at_end at calls) (standing-plain call are.0) ∙ end-plain calls are.1

  html-plain : (calls : List Call) → AreTyped calls → html styling calls ≡ escaped_text (stripped calls)
  html-plain calls are =
      ap₂ (λ l (at : Standing). l ++ element_end at.shown) (from-plain calls are) (end-plain calls are)
      ∙ (ap (λ l. escaped_text (stripped calls) ++ l) end-none ∙ append-nil (escaped_text (stripped calls)))

-- what is handed on by characters and controls is rows
abbrev IsNoCommand : Call → Type 0
IsNoCommand (print c) = ⊤
IsNoCommand (execute byte) = ⊤
IsNoCommand call = ⊥

abbrev AreNoCommands : List Call → Type 0
AreNoCommands calls = AllByRecursion IsNoCommand calls

no-commands_append : (calls more : List Call) → AreNoCommands calls → AreNoCommands more → AreNoCommands (calls ++ more)
no-commands_append [] more are others = others
no-commands_append (call ∷ calls) more are others = (are.0, no-commands_append calls more are.1 others)

given-control : (byte : ℕ) (t : Bool) → (byte == 0x0A) ≡ t → AreNoCommands (given (execute byte))
given-control byte true is = rw is (tt, (tt, tt))
given-control byte false is = rw is (tt, tt)

given-typed : (call : Call) → IsTyped call → AreNoCommands (given call)
given-typed (print c) is = (tt, tt)
given-typed (execute byte) is = given-control byte _ refl
given-typed (hook groups intermediates ignore final) is = absurd is
given-typed (put byte) is = absurd is
given-typed unhook is = absurd is
given-typed (osc_dispatch parts bell) is = absurd is
given-typed (csi_dispatch groups intermediates ignore final) is = absurd is
given-typed (esc_dispatch intermediates ignore final) is = absurd is

given-all : (calls : List Call) → AreTyped calls → AreNoCommands (given_all calls)
given-all [] are = tt
given-all (call ∷ calls) are = no-commands_append (given call) (given_all calls) (given-typed call are.0) (given-all calls are.1)

abbrev IsRow : Handed → Type 0
IsRow (leaving row) = ⊤
IsRow (command number parts) = ⊥

abbrev AreRows : List Handed → Type 0
AreRows all = AllByRecursion IsRow all

rows-all : (rows : List (List Cell)) → AreRows (map leaving rows)
rows-all [] = tt
rows-all (row ∷ rows) = (tt, rows-all rows)

rows-more : (rows : List (List Cell)) (others : List Handed) → AreRows others → AreRows (map leaving rows ++ others)
rows-more [] others are = are
rows-more (row ∷ rows) others are = (tt, rows-more rows others are)

handed-call : (call : Call) (calls : List Call) (s : State) → IsNoCommand call
    → all_handed (call ∷ calls) s ≡ map leaving (rows_left call s) ++ all_handed calls (after call s)
handed-call (print c) calls s is = append_assoc (map leaving (rows_left (print c) s)) [] (all_handed calls (after (print c) s))
handed-call (execute byte) calls s is = append_assoc (map leaving (rows_left (execute byte) s)) [] (all_handed calls (after (execute byte) s))
handed-call (hook groups intermediates ignore final) calls s is = absurd is
handed-call (put byte) calls s is = absurd is
handed-call unhook calls s is = absurd is
handed-call (osc_dispatch parts bell) calls s is = absurd is
handed-call (csi_dispatch groups intermediates ignore final) calls s is = absurd is
handed-call (esc_dispatch intermediates ignore final) calls s is = absurd is

rows-handed : (calls : List Call) (s : State) → AreNoCommands calls → AreRows (all_handed calls s)
rows-handed [] s are = tt
rows-handed (call ∷ calls) s are =
    subst AreRows (sym (handed-call call calls s are.0))
    (rows-more (rows_left call s) (all_handed calls (after call s)) (rows-handed calls (after call s) are.1))

places-stay : (at : Linking) (all : List Handed) → AreRows all → (linking_behind at all).places ≡ at.places
places-stay at [] are = refl
places-stay at (leaving row ∷ others) are = places-stay (row_linking at row) others are.1
places-stay at (command number parts ∷ others) are = absurd are.0

rows_in-all : (rows : List (List Cell)) → rows_in (map leaving rows) ≡ rows
rows_in-all [] = refl
rows_in-all (row ∷ rows) = ap (λ l. row ∷ l) (rows_in-all rows)

-- plain rows are unstyled
no-link : link_at 0 no_places ≡ []
unfolding link_at
no-link = refl

unstyled-cells : (cells : List Cell) → ArePlainCells cells → AreUnstyled (map (cell_styled no_places) cells)
unstyled-cells [] are = tt
unstyled-cells (cell ∷ cells) are = ((are.0.0, ap (λ n. link_at n no_places) are.0.1 ∙ no-link), unstyled-cells cells are.1)

unstyled-line_end : (on : Bool) → AreUnstyled (if on then [] else line_feed ∷ [])
unstyled-line_end true = tt
unstyled-line_end false = ((refl, refl), tt)

unstyled-closing : (on : Bool) → AreUnstyled (closing_styled on)
unstyled-closing true = ((refl, refl), tt)
unstyled-closing false = tt

unstyled-paid : (it : Purse) (texts : List Styled) → AreUnstyled texts → AreUnstyled (paid it texts)
unstyled-paid it [] are = tt
unstyled-paid it (text ∷ texts) are = ((are.0.0, of-text text.text), unstyled-paid (purse_behind it text) texts are.1)
  where
    of-text : (bytes : List ℕ) → after_text text.link (purse_with it text.link).last bytes ≡ []
    of-text [] = are.0.1
    of-text (b ∷ bytes) = link-either (λ link. link ≡ []) it text.link are.0.1 refl

unstyled-row : (at : Linking) (row : List Cell) → at.places ≡ no_places → ArePlainCells row → AreUnstyled (row_styled at row)
unstyled-row at row none are =
    let cells = take (used is_unprinted row) row in
    unstyled-append (paid (purse at.last at.spare) (map (cell_styled at.places) cells)) (if goes_on row then [] else line_feed ∷ [])
    (unstyled-paid (purse at.last at.spare) (map (cell_styled at.places) cells)
    (subst (λ (places : List Kept). AreUnstyled (map (cell_styled places) cells)) (sym none)
    (unstyled-cells cells (AllByRecursion-take IsPlainCell (used is_unprinted row) row are)))) (unstyled-line_end (goes_on row))

unstyled-handed : (at : Linking) (all : List Handed) → at.places ≡ no_places → AreRows all → ArePlainRows (rows_in all) → AreUnstyled (handed_styled at all)
unstyled-handed at [] none rows are = tt
unstyled-handed at (leaving row ∷ others) none rows are =
    unstyled-append (row_styled at row) (handed_styled (row_linking at row) others) (unstyled-row at row none are.0)
    (unstyled-handed (row_linking at row) others none rows.1 are.1)
unstyled-handed at (command number parts ∷ others) none rows are = absurd rows.0

plain-first : (rows more : List (List Cell)) → ArePlainRows (rows ++ more) → ArePlainRows rows
plain-first [] more are = tt
plain-first (row ∷ rows) more are = (are.0, plain-first rows more are.1)

plain-second : (rows more : List (List Cell)) → ArePlainRows (rows ++ more) → ArePlainRows more
plain-second [] more are = are
plain-second (row ∷ rows) more are = plain-second rows more are.1

module _ (width height : ℕ) (lines : List (List ℕ)) (wide : 2 ≤ width) (some : 1 ≤ height) (are : ArePlain lines) (last : LastIsNotEmpty lines) where
  unstyled-shown : AreUnstyled (shown_styled (new_state width height) (lines_calls lines))
  unstyled-shown =
      let s : State = new_state width height in
      let calls : List Call = given_all (lines_calls lines) in
      let typed : AreNoCommands calls = given-all (lines_calls lines) (typed-lines lines) in
      let left = all_left calls s in
      let rows = showing (after_all calls s).display in
      let on = open_after (open_after false left) rows in
      let plain_rows : ArePlainRows (left ++ rows) = through-plain width height lines wide some (plain-marked_lines lines are) last in
      let all = all_handed calls s in
      let at = linking_behind no_linking all in
      let only : AreRows all = rows-handed calls s typed in
      unstyled-append (handed_styled no_linking all) (rows_styled at rows ++ closing_styled on)
      (unstyled-handed no_linking all refl only (subst ArePlainRows (sym (rows_in-handed calls s)) (plain-first left rows plain_rows)))
      (unstyled-append (rows_styled at rows) (closing_styled on)
      (unstyled-handed at (map leaving rows) (places-stay no_linking all only) (rows-all rows) (subst ArePlainRows (sym (rows_in-all rows)) (plain-second left rows plain_rows)))
      (unstyled-closing on))

pub plain-html : (styling : Styling) (width height : ℕ) (lines : List (List ℕ)) (calls : List Call) → 2 ≤ width → 1 ≤ height → ArePlain lines → LastIsNotEmpty lines
    → AreCalls (lines_bytes lines) calls → shown_html styling (new_state width height) calls ≡ html styling calls
plain-html styling width height lines calls wide some are last made =
    let s : State = new_state width height in
    let same : calls ≡ lines_calls lines = lines-only lines calls (plain-marked_lines lines are) made in
    shown_html-all styling s calls
    ∙ (all-plain styling (shown_styled s calls) (subst (λ l. AreUnstyled (shown_styled s l)) (sym same) (unstyled-shown width height lines wide some are last))
    ∙ (ap escaped_text (bytes-shown s calls ∙ stripped-through width height lines calls wide some are last made)
    ∙ sym (html-plain styling calls (subst (λ l. AreTyped l) (sym same) (typed-lines lines)))))
