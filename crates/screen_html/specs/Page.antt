-- What a screen shows, as HTML, and the links that are kept for it.
use Rattle.std.specs.Prelude.{ℕ, List, [], ◌∷◌, ◌++◌, false}
use Rattle.anstyle_parse.specs.Stream.Call.{Call, osc_dispatch}
use Rattle.ansi_html.specs.declared.scheme.Styling.{Styling}
use Rattle.ansi_html.specs.Styled.{Styled, all_html}
use Rattle.ansi_screen.specs.declared.cell.Cell.{Cell}
use Rattle.ansi_screen.specs.After.{State, after}
use Rattle.ansi_screen.specs.Display.{Display}
use Rattle.ansi_screen.specs.Text.{printed_rows}
use Rattle.screen_text.specs.Lines.{rows_text, open_after, closing}
use Rattle.screen_html.specs.Links.{Table, table_after}
use Rattle.screen_html.specs.Shown.{linked, rows_styled, closing_styled}

-- rows in the styles of their cells and in the links that are kept and paid; a line that is open at the end is ended
abbrev pub lines_styled : Table → List (List Cell) → List Styled
lines_styled links rows = rows_styled (linked [] links) rows ++ closing_styled (open_after false rows)

abbrev pub lines_html : Styling → Table → List (List Cell) → List ℕ
lines_html styling links rows = all_html styling (lines_styled links rows)

-- the same as text
abbrev pub lines_text : List (List Cell) → List ℕ
lines_text rows = rows_text rows ++ closing (open_after false rows)

-- those that show, up to the last in which something was printed
abbrev pub page_html : Styling → Table → Display → List ℕ
page_html styling links d = lines_html styling links (printed_rows d)

abbrev pub page_text : Display → List ℕ
page_text d = lines_text (printed_rows d)

-- The links that are kept after a call that has led to this screen: a command may have begun one, whose number is then
-- in force.
abbrev pub links_by : Call → State → Table → Table
links_by (osc_dispatch parts bell_terminated) s links = table_after s.display.link parts links
links_by call s links = links

-- and after a list of calls, from a screen on
abbrev pub all_links : List Call → State → Table → Table
all_links [] s links = links
all_links (call ∷ calls) s links = all_links calls (after call s) (links_by call (after call s) links)
