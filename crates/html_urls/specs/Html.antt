-- The HTML of a stream whose addresses are links: that of its calls with these links. What is held back at the end is
-- written with the ending.
use Rattle.std.specs.Prelude.{ℕ, Bool, List, ◌++◌}
use Rattle.anstyle_parse.specs.Stream.Call.{Call}
use Rattle.ansi_html.specs.declared.scheme.Styling.{Styling}
use Rattle.ansi_html.specs.Html as html
use Rattle.ansi_html.specs.Lines as lines
use Rattle.ansi_html.specs.Blocks as blocks
use Rattle.html_urls.specs.Linked.{at_start, handed_from, left_from, linked}

-- the calls that are handed on as the stream comes, and those that are left at its end
abbrev pub handed_on : List Call → List Call
handed_on calls = handed_from at_start calls

abbrev pub left : List Call → List Call
left calls = left_from at_start calls

abbrev pub urls_text : Styling → List Call → List ℕ
urls_text styling calls = html.html_text styling (handed_on calls)

abbrev pub urls_ending : Styling → List Call → List ℕ
urls_ending styling calls =
    html.html_from styling (html.standing_at_end html.at_start (handed_on calls)) (left calls)
    ++ html.html_ending (linked calls)

-- the same in lines
abbrev pub lined_urls_text : Styling → List Call → List ℕ
lined_urls_text styling calls = lines.lined_text styling (handed_on calls)

abbrev pub lined_urls_ending : Styling → List Call → List ℕ
lined_urls_ending styling calls =
    lines.lined_from styling (lines.lined_at_end lines.lined_at_start (handed_on calls)) (left calls)
    ++ lines.lined_ending (linked calls)

-- the same in blocks
abbrev pub blocked_urls_text : (numbered : Bool) → Styling → List Call → List ℕ
blocked_urls_text numbered styling calls = blocks.blocked_text numbered styling (handed_on calls)

abbrev pub blocked_urls_ending : (numbered : Bool) → Styling → List Call → List ℕ
blocked_urls_ending numbered styling calls =
    blocks.blocked_from numbered styling (blocks.blocked_at_end numbered blocks.blocked_at_start (handed_on calls))
    (left calls)
    ++ blocks.blocked_ending numbered (linked calls)
