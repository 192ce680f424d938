-- What is written of a log: of its calls, or of what a screen showed of them.
use Rattle.std.specs.Prelude.{◌≡◌, ℕ, Bool, true, false, ◌||◌, ◌&&◌, List, ◌++◌, Option, None, Some, if◌then◌else◌}
use Rattle.std.specs.Option.{option_map}
use Rattle.anstyle_parse.specs.Machine.AsRead.{as_read_whole}
use Rattle.anstyle_parse.specs.Stream.Call.{Call}
use Rattle.anstyle_parse.specs.Stream.Calls.{AreCalls}
use Rattle.ansi_html.specs.declared.scheme.Styling.{Styling}
use Rattle.ansi_html.specs.Html.{html}
use Rattle.ansi_html.specs.Lines.{lined_html}
use Rattle.ansi_screen.specs.After.{State}
use Rattle.ansi_strip.specs.Inert.{inert_text}
use Rattle.ansi_style.specs.Style.{plain}
use Rattle.html_urls.specs.Linked.{linked}
use Rattle.safe_text.specs.Marks.{safe_marked}
use Rattle.screen_calls.specs.Calls.{shown_calls}
use Rattle.screen_html.specs.Shown.{left_html, ending_html}
use Rattle.screen_safe.specs.Shown.{safe_left, safe_ending}
use Rattle.screen_text.specs.declared.recording.ShownSize.{ShownSize}
use Rattle.screen_text.specs.Recording.{is_decided, screen_for}
use Rattle.screen_text.specs.Shown.{left_text, ending_text}
use Rattle.without_hidden.specs.Hidden.{without_hidden}
use Rattle.shown_pieces.specs.declared.how.Form.{Form}
use Rattle.shown_pieces.specs.declared.how.Form.TheVariants.{Text, Safe, Html}
use Rattle.shown_pieces.specs.declared.how.How.{How}

-- how a log is written of which a form is said, and no more
abbrev pub how_of_form : Form → How
how_of_form form = record { form = form; has_lines = false; has_urls = false; no_hidden = false }

-- the calls of a log, or, where there is a screen, of what that showed of them
abbrev pub seen : Option State → List Call → List Call
seen None calls = calls
seen (Some screen) calls = shown_calls screen calls

-- without hidden text, or with it
abbrev pub kept : (no_hidden : Bool) → List Call → List Call
kept no_hidden calls = if no_hidden then without_hidden plain calls else calls

-- with addresses as links, or as they are
abbrev pub linked_where : (has_urls : Bool) → List Call → List Call
linked_where has_urls calls = if has_urls then linked calls else calls

-- the HTML of calls, in lines or not
abbrev pub html_in : (has_lines : Bool) → Styling → List Call → List ℕ
html_in has_lines styling calls = if has_lines then lined_html styling calls else html styling calls

-- the same with what a stream's calls are first
abbrev pub html_by : How → Styling → Option State → List Call → List ℕ
html_by how styling screen calls =
    html_in how.has_lines styling (linked_where how.has_urls (kept how.no_hidden (seen screen calls)))

-- The text, the safe text or the HTML of calls, or of what a screen showed of them.
abbrev pub converted_as : How → Form → Option State → List Call → List ℕ
converted_as how Text screen calls = inert_text (kept how.no_hidden (seen screen calls))
converted_as how Safe screen calls = safe_marked (kept how.no_hidden (seen screen calls))
converted_as how (Html styling) screen calls = html_by how styling screen calls

abbrev pub converted : How → Option State → List Call → List ℕ
converted how screen calls = converted_as how how.form screen calls

-- What a screen showed of calls, row by row: what is written as rows leave it, and at the end.
abbrev pub left_as : Form → State → List Call → List ℕ
left_as Text screen calls = left_text screen calls
left_as Safe screen calls = safe_left screen calls
left_as (Html styling) screen calls = left_html styling screen calls

abbrev pub ending_as : Form → State → List Call → List ℕ
ending_as Text screen calls = ending_text screen calls
ending_as Safe screen calls = safe_ending screen calls
ending_as (Html styling) screen calls = ending_html styling screen calls

abbrev pub rows_as : Form → State → List Call → List ℕ
rows_as form screen calls = left_as form screen calls ++ ending_as form screen calls

-- This is the text of the calls of a log of these bytes, which is read as the programs read it.
abbrev pub IsTextOf : (text : List Call → List ℕ) → (bytes written : List ℕ) → Type 0
IsTextOf text bytes written = (calls : List Call) × AreCalls (as_read_whole bytes) calls × (written ≡ text calls)

-- This is what a screen of the size showed of it, row by row.
abbrev pub IsShownByRows : ShownSize → Form → (bytes written : List ℕ) → Type 0
IsShownByRows size form bytes written = IsTextOf (rows_as form (screen_for size bytes)) bytes written

-- Whether what a screen showed is converted as a stream is: else its rows are written as they are.
abbrev pub is_html : Form → Bool
is_html (Html styling) = true
is_html form = false

abbrev pub goes_further : How → Bool
goes_further how = how.no_hidden || is_html how.form && (how.has_lines || how.has_urls)

abbrev pub written_by : How → Option State → List Call → List ℕ
written_by how None calls = converted how None calls
written_by how (Some screen) calls =
    if goes_further how then converted how (Some screen) calls else rows_as how.form screen calls

-- The screen that shows a log, if one does.
abbrev pub screen_by : Option ShownSize → (read : List ℕ) → Option State
screen_by size read = option_map (λ shown. screen_for shown read) size

-- This is what is written of a log of these bytes, by a screen of the size, or by none.
abbrev pub IsShown : Option ShownSize → How → (bytes written : List ℕ) → Type 0
IsShown size how bytes written = IsTextOf (written_by how (screen_by size bytes)) bytes written
