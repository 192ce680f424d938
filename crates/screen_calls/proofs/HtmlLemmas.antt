-- The HTML of what a screen showed, with hidden text or without, with links for addresses or without, is that of a stream.
use Rattle.std.proofs.Common.{◌≡◌, ℕ, Bool, true, false, List, map, sym, ◌∙◌, subst}
use Rattle.std.specs.List.{AllByRecursion, flat_map}
use Rattle.std.specs.Str.{IsUtf8}
use Rattle.anstyle_parse.specs.Stream.Call.{Call}
use Rattle.anstyle_parse.specs.Stream.Calls.{AreCalls}
use Rattle.anstyle_parse.specs.Laws.Lawful.{AreMade}
use Rattle.anstyle_parse.proofs.Lawful.Calls.{lawful}
use Rattle.ansi_strip.proofs.Showable.{AreShowable, AreShowable-lawful}
use Rattle.ansi_strip.specs.Strip.{stripped}
use Rattle.ansi_style.specs.Style.{plain}
use Rattle.ansi_html.specs.declared.scheme.Styling.{Styling}
use Rattle.ansi_html.specs.Affordable.{affordable}
use Rattle.ansi_html.specs.Blocks.{blocked_html, calls_seen, AreBlocks}
use Rattle.ansi_html.specs.Grammar.{IsFragment}
use Rattle.ansi_html.specs.Html.{html}
use Rattle.ansi_html.specs.Lines.{lined_html, AreLines}
use Rattle.ansi_html.specs.Links.{IsLink}
use Rattle.ansi_html.specs.Reader.{Seen, byte_of, href_of, read_of, read}
use Rattle.ansi_html.proofs.BlockLemmas.{seen-blocked_html, text-blocked_html, IsUtf8-blocked_html}
use Rattle.ansi_html.proofs.GrammarLemmas.{IsFragment-html}
use Rattle.ansi_html.proofs.LineLemmas.{seen-lined_html, text-lined_html, IsUtf8-lined_html}
use Rattle.ansi_html.proofs.NumberLemmas.{AreLines-html}
use Rattle.ansi_html.proofs.ReadLemmas.{text-html}
use Rattle.ansi_html.proofs.ShownLemmas.{AreLinks-html}
use Rattle.ansi_html.proofs.TextLemmas.{IsUtf8-html}
use Rattle.ansi_html.proofs.WholeBlockLemmas.{AreBlocks-html}
use Rattle.ansi_screen.specs.declared.size.Size.{Size}
use Rattle.ansi_screen.specs.After.{new_state}
use Rattle.ansi_screen.specs.Size.{IsTaken}
use Rattle.html_urls.proofs.LawfulLemmas.{linked-made}
use Rattle.html_urls.proofs.TextLemmas.{linked-text}
use Rattle.screen_text.specs.Shown.{shown_text}
use Rattle.screen_calls.specs.Calls.{shown_calls}
use Rattle.screen_calls.specs.Laws.{kept_calls, converted, shown_by}
use Rattle.screen_calls.proofs.LawfulLemmas.{shown-made}
use Rattle.screen_calls.proofs.TextLemmas.{text-shown}
use Rattle.without_hidden.proofs.LawfulLemmas.{without-made}

-- some bytes make them
pub made-shown : (size : Size) (bytes : List ℕ) (calls : List Call) → IsTaken size → AreCalls bytes calls
    → AreMade (shown_calls (new_state size.columns size.rows) calls)
made-shown size bytes calls taken are = shown-made size.columns size.rows taken.0 taken.1 taken.2 taken.3 bytes calls are

made-kept : (no_hidden : Bool) (calls : List Call) → AreMade calls → AreMade (kept_calls no_hidden calls)
made-kept true calls made = without-made plain calls made
made-kept false calls made = made

pub made-converted : (no_hidden has_urls : Bool) (calls : List Call) → AreMade calls → AreMade (converted no_hidden has_urls calls)
made-converted no_hidden true calls made =
    let kept = made-kept no_hidden calls made in
    linked-made kept.0 (kept_calls no_hidden calls) kept.2
made-converted no_hidden false calls made = made-kept no_hidden calls made

-- so what is said of such calls holds of them
showable : (size : Size) (no_hidden has_urls : Bool) (bytes : List ℕ) (calls : List Call) → IsTaken size → AreCalls bytes calls
    → AreShowable (shown_by size no_hidden has_urls calls)
showable size no_hidden has_urls bytes calls taken are =
    let all = shown_by size no_hidden has_urls calls in
    let made = made-converted no_hidden has_urls (shown_calls (new_state size.columns size.rows) calls) (made-shown size bytes calls taken are) in
    AreShowable-lawful false all (lawful made.0 all made.2)

pub grammar-shown : (size : Size) (no_hidden has_urls : Bool) (styling : Styling) (bytes : List ℕ) (calls : List Call) → IsTaken size
    → AreCalls bytes calls → IsFragment styling (html styling (shown_by size no_hidden has_urls calls))
grammar-shown size no_hidden has_urls styling bytes calls taken are =
    IsFragment-html styling (shown_by size no_hidden has_urls calls) (showable size no_hidden has_urls bytes calls taken are)

pub lines-shown : (size : Size) (no_hidden has_urls : Bool) (styling : Styling) (bytes : List ℕ) (calls : List Call) → IsTaken size
    → AreCalls bytes calls → AreLines styling 0 (lined_html styling (shown_by size no_hidden has_urls calls))
lines-shown size no_hidden has_urls styling bytes calls taken are =
    AreLines-html styling (shown_by size no_hidden has_urls calls) (showable size no_hidden has_urls bytes calls taken are)

pub blocks-shown : (size : Size) (no_hidden has_urls has_numbers : Bool) (styling : Styling) (bytes : List ℕ) (calls : List Call) → IsTaken size
    → AreCalls bytes calls → AreBlocks has_numbers styling 0 (blocked_html has_numbers styling (shown_by size no_hidden has_urls calls))
blocks-shown size no_hidden has_urls has_numbers styling bytes calls taken are =
    AreBlocks-html has_numbers styling (shown_by size no_hidden has_urls calls) (showable size no_hidden has_urls bytes calls taken are)

pub utf8-shown : (size : Size) (no_hidden has_urls : Bool) (styling : Styling) (bytes : List ℕ) (calls : List Call) → IsTaken size
    → AreCalls bytes calls → IsUtf8 (html styling (shown_by size no_hidden has_urls calls))
utf8-shown size no_hidden has_urls styling bytes calls taken are =
    IsUtf8-html styling (shown_by size no_hidden has_urls calls) (showable size no_hidden has_urls bytes calls taken are)

pub lines_utf8-shown : (size : Size) (no_hidden has_urls : Bool) (styling : Styling) (bytes : List ℕ) (calls : List Call) → IsTaken size
    → AreCalls bytes calls → IsUtf8 (lined_html styling (shown_by size no_hidden has_urls calls))
lines_utf8-shown size no_hidden has_urls styling bytes calls taken are =
    IsUtf8-lined_html styling (shown_by size no_hidden has_urls calls) (showable size no_hidden has_urls bytes calls taken are)

pub blocks_utf8-shown : (size : Size) (no_hidden has_urls has_numbers : Bool) (styling : Styling) (bytes : List ℕ) (calls : List Call) → IsTaken size
    → AreCalls bytes calls → IsUtf8 (blocked_html has_numbers styling (shown_by size no_hidden has_urls calls))
blocks_utf8-shown size no_hidden has_urls has_numbers styling bytes calls taken are =
    IsUtf8-blocked_html has_numbers styling (shown_by size no_hidden has_urls calls) (showable size no_hidden has_urls bytes calls taken are)

-- the links that a reader sees, as it sees the same of lines and blocks
abbrev AreLinks : List Seen → Type 0
AreLinks all = AllByRecursion IsLink (map href_of (flat_map read_of all))

pub links-shown : (size : Size) (no_hidden has_urls : Bool) (styling : Styling) (calls : List Call)
    → AllByRecursion IsLink (map href_of (read (html styling (shown_by size no_hidden has_urls calls))))
links-shown size no_hidden has_urls styling calls = AreLinks-html styling (shown_by size no_hidden has_urls calls)

pub lines_links-shown : (size : Size) (no_hidden has_urls : Bool) (styling : Styling) (calls : List Call)
    → AllByRecursion IsLink (map href_of (read (lined_html styling (shown_by size no_hidden has_urls calls))))
lines_links-shown size no_hidden has_urls styling calls =
    let all = shown_by size no_hidden has_urls calls in
    subst AreLinks (sym (seen-lined_html styling all)) (AreLinks-html styling (affordable all))

pub blocks_links-shown : (size : Size) (no_hidden has_urls has_numbers : Bool) (styling : Styling) (calls : List Call)
    → AllByRecursion IsLink (map href_of (read (blocked_html has_numbers styling (shown_by size no_hidden has_urls calls))))
blocks_links-shown size no_hidden has_urls has_numbers styling calls =
    let all = shown_by size no_hidden has_urls calls in
    subst AreLinks (sym (seen-blocked_html has_numbers styling all)) (AreLinks-html styling (calls_seen has_numbers all))

-- the text
same-shown : (size : Size) (has_urls : Bool) (calls : List Call) → stripped (shown_by size false has_urls calls) ≡ shown_text (new_state size.columns size.rows) calls
same-shown size true calls =
    linked-text (shown_calls (new_state size.columns size.rows) calls) ∙ text-shown (new_state size.columns size.rows) calls
same-shown size false calls = text-shown (new_state size.columns size.rows) calls

pub text-html_shown : (size : Size) (has_urls : Bool) (styling : Styling) (calls : List Call)
    → map byte_of (read (html styling (shown_by size false has_urls calls))) ≡ shown_text (new_state size.columns size.rows) calls
text-html_shown size has_urls styling calls = text-html styling (shown_by size false has_urls calls) ∙ same-shown size has_urls calls

pub lines_text-shown : (size : Size) (has_urls : Bool) (styling : Styling) (calls : List Call)
    → map byte_of (read (lined_html styling (shown_by size false has_urls calls))) ≡ shown_text (new_state size.columns size.rows) calls
lines_text-shown size has_urls styling calls = text-lined_html styling (shown_by size false has_urls calls) ∙ same-shown size has_urls calls

pub blocks_text-shown : (size : Size) (has_urls has_numbers : Bool) (styling : Styling) (calls : List Call)
    → map byte_of (read (blocked_html has_numbers styling (shown_by size false has_urls calls))) ≡ shown_text (new_state size.columns size.rows) calls
blocks_text-shown size has_urls has_numbers styling calls =
    text-blocked_html has_numbers styling (shown_by size false has_urls calls) ∙ same-shown size has_urls calls
