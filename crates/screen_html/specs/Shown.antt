-- What a screen showed of the calls of a stream, as HTML: the text of `screen_text`, each character in the
-- style of its cell, and in its link where that is paid.
use Rattle.std.specs.Prelude.{◌≡◌, ℕ, ◌+◌, Bool, false, List, [], ◌∷◌, ◌++◌, map, take, if◌then◌else◌}
use Rattle.anstyle_parse.specs.Stream.Call.{Call, osc_dispatch}
use Rattle.ansi_style.specs.Style.{plain}
use Rattle.ansi_html.specs.declared.link.Link.{Link}
use Rattle.ansi_html.specs.declared.scheme.Styling.{Styling}
use Rattle.ansi_html.specs.Html.{no_element, element_end}
use Rattle.ansi_html.specs.ShownLinks.{link_in}
use Rattle.ansi_html.specs.Styled.{Styled, styled, each_styled, styled_html, shown_after}
use Rattle.ansi_screen.specs.declared.cell.Cell.{Cell}
use Rattle.ansi_screen.specs.Display.{Display}
use Rattle.ansi_screen.specs.After.{State, after_all}
use Rattle.ansi_screen.specs.Text.{cell_text, used, is_unprinted, goes_on}
use Rattle.ansi_screen.specs.Leaving.{all_left}
use Rattle.screen_text.specs.Lines.{open_after, showing}
use Rattle.screen_text.specs.Rows.{Handed, leaving, command, all_handed}
use Rattle.screen_text.specs.Shown.{given_all}
use Rattle.screen_html.specs.Links.{Kept, Table, table, no_links, feed_earns, credited, link_at, table_after, command_cost}
use Rattle.screen_html.specs.Paid.{Purse, purse, paid, purse_after}

-- A cell's characters, in its style, and in the link of its number, where it is kept; and a line feed, which is
-- plain, so that the elements of a line end with it.
abbrev pub cell_styled : List Kept → Cell → Styled
cell_styled links cell = styled cell.style (link_at cell.link links) (cell_text cell)

abbrev pub line_feed : Styled
line_feed = styled plain [] (0x0A ∷ [])

-- Cells that have the style and the link of a first one, and each one of these bytes as its text.
abbrev pub IsRun : (first : Cell) → List Cell → (bytes : List ℕ) → Type 0
IsRun first cells bytes =
    (links : List Kept) → map (cell_styled links) cells ≡ each_styled first.style (link_at first.link links) bytes

-- Where rows stand: the link of the last text, the links that are kept, and what is spare to begin links with.
pub record Linking : Type 0 where
  pub last : List ℕ
  pub places : List Kept
  pub spare : ℕ

abbrev pub linked : (last : List ℕ) → Table → Linking
linked last links = record { last = last; places = links.places; spare = links.spare }

abbrev pub linking_of : Link → List Kept → (spare : ℕ) → Linking
linking_of last places spare = linked (link_in last) (table places spare)

abbrev pub no_linking : Linking
no_linking = linked [] no_links

-- A row's cells, without those at its end where nothing was printed, also where they have a background.
abbrev pub cells_styled : List Kept → List Cell → List Styled
cells_styled links row = map (cell_styled links) (take (used is_unprinted row) row)

abbrev pub line_end : List Cell → List Styled
line_end row = if goes_on row then [] else line_feed ∷ []

-- A row is those in their links, where these are paid; with a line feed, unless it goes on.
abbrev pub row_styled : Linking → List Cell → List Styled
row_styled at row = paid (purse at.last at.spare) (cells_styled at.places row) ++ line_end row

-- where it leads: a line feed is in no link, and earns
abbrev pub line_ended : (on : Bool) → Purse → Purse
line_ended on it = if on then it else purse [] (credited feed_earns it.spare)

abbrev pub purse_after_row : Linking → List Cell → Purse
purse_after_row at row =
    line_ended (goes_on row) (purse_after (purse at.last at.spare) (cells_styled at.places row))

abbrev pub row_linking : Linking → List Cell → Linking
row_linking at row =
    linked (purse_after_row at row).last (table at.places (purse_after_row at row).spare)

-- where a command leads
abbrev pub command_linking : Linking → ℕ → List (List ℕ) → Linking
command_linking at number parts = linked at.last (table_after number parts (table at.places at.spare))

-- the rows that leave a screen, each with the links that are kept as it leaves; and where they lead
abbrev pub handed_styled : Linking → List Handed → List Styled
handed_styled at [] = []
handed_styled at (leaving row ∷ others) = row_styled at row ++ handed_styled (row_linking at row) others
handed_styled at (command number parts ∷ others) = handed_styled (command_linking at number parts) others

abbrev pub linking_behind : Linking → List Handed → Linking
linking_behind at [] = at
linking_behind at (leaving row ∷ others) = linking_behind (row_linking at row) others
linking_behind at (command number parts ∷ others) = linking_behind (command_linking at number parts) others

abbrev pub rows_styled : Linking → List (List Cell) → List Styled
rows_styled at rows = handed_styled at (map leaving rows)

-- a line that is open at the end is ended
abbrev pub closing_styled : Bool → List Styled
closing_styled on = if on then line_feed ∷ [] else []

-- the rows that leave the screen by the calls; those that still show at the end; and both
abbrev pub left_styled : State → List Call → List Styled
left_styled s calls = handed_styled no_linking (all_handed (given_all calls) s)

abbrev pub still_styled : Linking → (on : Bool) → Display → List Styled
still_styled at on d = rows_styled at (showing d) ++ closing_styled (open_after on (showing d))

abbrev pub ending_styled : State → List Call → List Styled
ending_styled s calls =
    still_styled (linking_behind no_linking (all_handed (given_all calls) s))
    (open_after false (all_left (given_all calls) s)) (after_all (given_all calls) s).display

abbrev pub shown_styled : State → List Call → List Styled
shown_styled s calls = left_styled s calls ++ ending_styled s calls

-- their HTML: what is written as rows leave, and what at the end, with the end of the last element
abbrev pub left_html : Styling → State → List Call → List ℕ
left_html styling s calls = styled_html styling no_element (left_styled s calls)

abbrev pub ending_html : Styling → State → List Call → List ℕ
ending_html styling s calls =
    styled_html styling (shown_after no_element (left_styled s calls)) (ending_styled s calls)
    ++ element_end (shown_after no_element (shown_styled s calls))

abbrev pub shown_html : Styling → State → List Call → List ℕ
shown_html styling s calls = left_html styling s calls ++ ending_html styling s calls

-- what all links cost that calls begin, each once
abbrev pub call_cost : Call → ℕ
call_cost (osc_dispatch parts bell_terminated) = command_cost parts
call_cost call = 0

abbrev pub begun_cost : List Call → ℕ
begun_cost [] = 0
begun_cost (call ∷ calls) = call_cost call + begun_cost calls
