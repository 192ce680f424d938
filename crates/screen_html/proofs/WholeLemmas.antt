-- The HTML of what a screen showed is read back, has the text's lines, stands in the grammar, is UTF-8, and is bounded.
use Rattle.std.proofs.Common.{◌≡◌, ◌≤◌, ℕ, ◌+◌, ◌*◌, length, true, false, eqb, List, [], ◌∷◌, ◌++◌, map, refl, sym, ap, ap₂, ◌∙◌, subst, arith}
use Rattle.std.specs.Prelude.{encode_utf8, not, if◌then◌else◌}
use Rattle.std.specs.List.{list_all, AllByRecursion}
use Rattle.std.specs.Str.{IsUtf8}
use Rattle.std.proofs.lemmas.Bool.{and_from, ne_eqb}
use Rattle.std.proofs.lemmas.Grind.{flat_map-append}
use Rattle.std.proofs.lemmas.Str.{IsUtf8-append, IsUtf8-nil}
use Rattle.anstyle_parse.specs.Stream.Call.{Call, print, execute, hook, put, unhook, osc_dispatch, csi_dispatch, esc_dispatch}
use Rattle.anstyle_parse.specs.Stream.Calls.{AreCalls}
use Rattle.ansi_html.specs.declared.scheme.Styling.{Styling}
use Rattle.ansi_html.specs.Links.{IsLink}
use Rattle.ansi_html.specs.Grammar.{IsFragment}
use Rattle.ansi_html.specs.Html.{escaped, escaped_text}
use Rattle.ansi_html.specs.Reader.{byte_of, href_of, read, drawn}
use Rattle.ansi_html.specs.Styled.{Styled, all_html, all_shown}
use Rattle.ansi_html.proofs.LawfulText.{is_textual, AreTextual, ArePrinted, ArePrinted-encode, AreTextual-printed}
use Rattle.ansi_html.proofs.NewlineLemmas.{is_not_return, HasNoReturn, HasNoReturn-append}
use Rattle.ansi_html.proofs.StyledLemmas.{links-styled, read-styled, text-styled, drawn-styled, IsFragment-styled, IsUtf8-styled, length-styled}
use Rattle.ansi_html.proofs.TextLemmas.{IsUtf8-stripped}
use Rattle.ansi_screen.specs.declared.cell.Cell.{Cell}
use Rattle.ansi_screen.specs.After.{State, new_state, after, after_all}
use Rattle.ansi_screen.specs.Display.{Display}
use Rattle.ansi_screen.specs.Text.{printed_rows}
use Rattle.ansi_screen.specs.Edits.{swapped}
use Rattle.ansi_screen.specs.Leaving.{all_left}
use Rattle.ansi_screen.proofs.CharacterLemmas.{AreGood}
use Rattle.screen_text.specs.Lines.{open_after}
use Rattle.screen_text.specs.Rows.{all_handed}
use Rattle.screen_text.specs.Shown.{given_all, shown_text}
use Rattle.screen_html.specs.Shown.{Linking, linked, no_linking, rows_styled, closing_styled, shown_styled, shown_html}
use Rattle.screen_html.specs.Links.{Table, no_links}
use Rattle.screen_html.specs.Page.{lines_styled, lines_html, lines_text, page_html, links_by, all_links}
use Rattle.screen_html.proofs.HandedLemmas.{AreKept, kept-none, kept-after, rows_in-handed, handed-none, behind-handed, links-lines, links-shown}
use Rattle.screen_html.proofs.CellLemmas.{of-shown, of-lines}
use Rattle.screen_html.proofs.ShownLemmas.{shown_html-all, bytes-lines, bytes-shown}

pub AreTextual-append : (first second : List ℕ) → AreTextual first → AreTextual second → AreTextual (first ++ second)
AreTextual-append [] second are others = others
AreTextual-append (b ∷ first) second are others = (are.0, AreTextual-append first second are.1 others)

pub textual_feed : is_textual 0x0A ≡ true
unfolding is_textual
textual_feed = refl

HasNoReturn-printed : (bytes : List ℕ) → ArePrinted bytes → HasNoReturn bytes
unfolding is_not_return
HasNoReturn-printed [] printed = refl
HasNoReturn-printed (b ∷ bytes) printed =
    and_from (not (eqb b 0x0D)) (list_all (λ x. not (eqb x 0x0D)) bytes) (ap not (ne_eqb b 0x0D (λ e. omega (arith, printed.0)))) (HasNoReturn-printed bytes printed.1)

no_return-feed : HasNoReturn (0x0A ∷ [])
unfolding is_not_return
no_return-feed = refl

pub IsUtf8-escaped : (first second : List ℕ) → IsUtf8 (escaped_text first) → IsUtf8 (escaped_text second) → IsUtf8 (escaped_text (first ++ second))
IsUtf8-escaped first second one other =
    subst IsUtf8 (sym (flat_map-append escaped first second)) (IsUtf8-append (escaped_text first) (escaped_text second) one other)

module _ (styling : Styling) where
  pub read-shown : (s : State) (calls : List Call) → read (shown_html styling s calls) ≡ all_shown styling (shown_styled s calls)
  read-shown s calls = ap read (shown_html-all styling s calls) ∙ read-styled styling (shown_styled s calls)

  pub text-shown : (s : State) (calls : List Call) → map byte_of (read (shown_html styling s calls)) ≡ shown_text s calls
  text-shown s calls =
      ap (λ l. map byte_of (read l)) (shown_html-all styling s calls) ∙ text-styled styling (shown_styled s calls) ∙ bytes-shown s calls

  pub links-shown-html : (s : State) (calls : List Call) → AllByRecursion IsLink (map href_of (read (shown_html styling s calls)))
  links-shown-html s calls =
      subst (λ l. AllByRecursion IsLink (map href_of (read l))) (sym (shown_html-all styling s calls)) (links-styled styling (shown_styled s calls) (links-shown s calls))

  pub length-shown : (s : State) (calls : List Call) → length (shown_html styling s calls) ≤ 6527 * length (shown_text s calls) + 11
  length-shown s calls =
      omega (arith, ap length (shown_html-all styling s calls), length-styled styling (shown_styled s calls) (links-shown s calls), ap length (bytes-shown s calls))

  module _ (columns rows : ℕ) (bytes : List ℕ) (calls : List Call) (are : AreCalls bytes calls) where
    abbrev new : State
    new = new_state columns rows

    pub drawn-shown : drawn (shown_html styling new calls) ≡ shown_text new calls
    drawn-shown =
        ap drawn (shown_html-all styling new calls)
        ∙ drawn-styled styling (shown_styled new calls)
        (of-shown HasNoReturn refl HasNoReturn-append (λ c good. HasNoReturn-printed (encode_utf8 c) (ArePrinted-encode c good.0)) no_return-feed columns rows bytes calls are)
        ∙ bytes-shown new calls

    pub IsFragment-shown : IsFragment styling (shown_html styling new calls)
    IsFragment-shown =
        subst (IsFragment styling) (sym (shown_html-all styling new calls))
        (IsFragment-styled styling (shown_styled new calls) (links-shown new calls)
        (of-shown AreTextual tt AreTextual-append (λ c good. AreTextual-printed (encode_utf8 c) (ArePrinted-encode c good.0)) (textual_feed, tt) columns rows bytes calls are))

    pub IsUtf8-shown : IsUtf8 (shown_html styling new calls)
    IsUtf8-shown =
        subst IsUtf8 (sym (shown_html-all styling new calls))
        (IsUtf8-styled styling (shown_styled new calls) (links-shown new calls)
        (of-shown (λ text. IsUtf8 (escaped_text text)) IsUtf8-nil IsUtf8-escaped (λ c good. IsUtf8-stripped (print c) good.0) (IsUtf8-stripped (execute 0x0A) tt) columns rows bytes calls are))

-- the links that are kept after the calls of a stream may stand in the HTML
kept-by : (call : Call) (s : State) (links : Table) → AreKept links.places → AreKept (links_by call s links).places
kept-by (osc_dispatch parts bell) s links are = kept-after s.display.link parts links.places are
kept-by (print c) s links are = are
kept-by (execute byte) s links are = are
kept-by (hook groups intermediates ignore final) s links are = are
kept-by (put byte) s links are = are
kept-by unhook s links are = are
kept-by (csi_dispatch groups intermediates ignore final) s links are = are
kept-by (esc_dispatch intermediates ignore final) s links are = are

pub kept-all : (calls : List Call) (s : State) (links : Table) → AreKept links.places → AreKept (all_links calls s links).places
kept-all [] s links are = are
kept-all (call ∷ calls) s links are = kept-all calls (after call s) (links_by call (after call s) links) (kept-by call (after call s) links are)

-- Where no row has left and the main screen shows, a page has all that the screen showed.
styled-page : (s : State) (calls : List Call) → all_left (given_all calls) s ≡ [] → (after_all (given_all calls) s).display.is_alternate ≡ false
    → shown_styled s calls ≡ lines_styled (all_links (given_all calls) s no_links) (printed_rows (after_all (given_all calls) s).display)
styled-page s calls none is_main =
    let given : List Call = given_all calls in
    let d : Display = (after_all given s).display in
    let rows : List (List Cell) = printed_rows d in
    let links : Table = all_links given s no_links in
    ap₂ (λ (a : List Styled) b. a ++ b) (handed-none no_linking (all_handed given s) (rows_in-handed given s ∙ none))
    (ap₂ (λ (at : Linking) (rs : List (List Cell)). rows_styled at rs ++ closing_styled (open_after (open_after false (all_left given s)) rs)) (behind-handed given s [] no_links none)
    (ap (λ t. (if t then printed_rows (swapped d) else []) ++ rows) is_main)
    ∙ ap (λ (left : List (List Cell)). rows_styled (linked [] links) rows ++ closing_styled (open_after (open_after false left) rows)) none)

-- what holds of rows, wherever they are from
module _ (styling : Styling) where
  pub whole-page : (s : State) (calls : List Call) → all_left (given_all calls) s ≡ [] → (after_all (given_all calls) s).display.is_alternate ≡ false
      → shown_html styling s calls ≡ page_html styling (all_links (given_all calls) s no_links) (after_all (given_all calls) s).display
  whole-page s calls none is_main = shown_html-all styling s calls ∙ ap (λ (texts : List Styled). all_html styling texts) (styled-page s calls none is_main)

  pub read-lines : (links : Table) (rows : List (List Cell)) → read (lines_html styling links rows) ≡ all_shown styling (lines_styled links rows)
  read-lines links rows = read-styled styling (lines_styled links rows)

  pub text-lines : (links : Table) (rows : List (List Cell)) → map byte_of (read (lines_html styling links rows)) ≡ lines_text rows
  text-lines links rows = text-styled styling (lines_styled links rows) ∙ bytes-lines links rows

  pub links-of_lines : (links : Table) (rows : List (List Cell)) → AreKept links.places
      → AllByRecursion IsLink (map href_of (read (lines_html styling links rows)))
  links-of_lines links rows kept = links-styled styling (lines_styled links rows) (links-lines links rows kept)

  pub links-in_lines : (s : State) (calls : List Call) (rows : List (List Cell))
      → AllByRecursion IsLink (map href_of (read (lines_html styling (all_links calls s no_links) rows)))
  links-in_lines s calls rows = links-of_lines (all_links calls s no_links) rows (kept-all calls s no_links kept-none)

  pub length-lines : (s : State) (calls : List Call) (rows : List (List Cell))
      → length (lines_html styling (all_links calls s no_links) rows) ≤ 6527 * length (lines_text rows) + 11
  length-lines s calls rows =
      let links : Table = all_links calls s no_links in
      omega (arith, length-styled styling (lines_styled links rows) (links-lines links rows (kept-all calls s no_links kept-none)), ap length (bytes-lines links rows))

  -- of rows whose cells have characters that may be printed
  module _ (links : Table) (rows : List (List Cell)) (good : AllByRecursion AreGood rows) where
    pub drawn-lines : drawn (lines_html styling links rows) ≡ lines_text rows
    drawn-lines =
        drawn-styled styling (lines_styled links rows)
        (of-lines HasNoReturn refl HasNoReturn-append (λ c good. HasNoReturn-printed (encode_utf8 c) (ArePrinted-encode c good.0)) no_return-feed links rows good)
        ∙ bytes-lines links rows

    pub IsFragment-lines : AreKept links.places → IsFragment styling (lines_html styling links rows)
    IsFragment-lines kept =
        IsFragment-styled styling (lines_styled links rows) (links-lines links rows kept)
        (of-lines AreTextual tt AreTextual-append (λ c good. AreTextual-printed (encode_utf8 c) (ArePrinted-encode c good.0)) (textual_feed, tt) links rows good)

    pub IsUtf8-lines : AreKept links.places → IsUtf8 (lines_html styling links rows)
    IsUtf8-lines kept =
        IsUtf8-styled styling (lines_styled links rows) (links-lines links rows kept)
        (of-lines (λ text. IsUtf8 (escaped_text text)) IsUtf8-nil IsUtf8-escaped (λ c good. IsUtf8-stripped (print c) good.0) (IsUtf8-stripped (execute 0x0A) tt) links rows good)
