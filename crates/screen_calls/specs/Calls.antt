-- What a screen showed, as the calls of a stream: its lines as `screen_text` has them. Each character is printed
-- after a sequence that selects its style (SGR) and a command that begins its link (OSC 8), where these are others than
-- those of the character before. A line feed is plain and in no link.
use Rattle.std.specs.Prelude.{ℕ, Bool, false, List, [], ◌∷◌, ◌++◌, map, take, if◌then◌else◌}
use Rattle.std.specs.Str.{bytes_eq}
use Rattle.anstyle_parse.specs.Stream.Call.{Call, execute}
use Rattle.ansi_style.specs.declared.style.Style.{Style}
use Rattle.ansi_style.specs.Style.{plain, are_equal}
use Rattle.ansi_style.specs.Codes.{selection, codes_of}
use Rattle.ansi_screen.specs.declared.cell.Cell.{Cell}
use Rattle.ansi_screen.specs.declared.cell.Marks.{Marks}
use Rattle.ansi_screen.specs.declared.cell.Marks.TheVariants.{Unmarked, One, Two}
use Rattle.ansi_screen.specs.After.{State, after_all}
use Rattle.ansi_screen.specs.Cells.{is_right}
use Rattle.ansi_screen.specs.Display.{Display}
use Rattle.ansi_screen.specs.Text.{used, is_unprinted, goes_on}
use Rattle.html_urls.specs.Linked.{link_command, with_room, prints}
use Rattle.screen_text.specs.Lines.{showing}
use Rattle.screen_text.specs.Rows.{Handed, leaving, command, all_handed}
use Rattle.screen_text.specs.Shown.{given_all}
use Rattle.screen_html.specs.Links.{Kept, Table, table, no_links, link_at, table_after}
use Rattle.screen_html.specs.Paid.{Purse, purse, purse_with}
use Rattle.screen_html.specs.Shown.{line_ended}

-- What the calls so far leave to the next character: the style that is selected, and the link, with what is spare.
pub record Pen : Type 0 where
  pub style : Style
  pub purse : Purse

abbrev pub pen : Style → Purse → Pen
pen style purse = record { style = style; purse = purse }

-- what selects a style, where another one is selected; and a link, where that is not paid, none
abbrev pub style_calls : (selected wanted : Style) → List Call
style_calls selected wanted = if are_equal selected wanted then [] else selection (codes_of wanted) ∷ []

abbrev pub link_calls : (selected wanted paid : List ℕ) → List Call
link_calls selected wanted paid = if bytes_eq selected wanted then [] else link_command (with_room paid) ∷ []

-- the characters that a cell shows: its own, and the marks on it
abbrev pub marks_of : Marks → List ℕ
marks_of Unmarked = []
marks_of (One first) = first ∷ []
marks_of (Two first second) = first ∷ second ∷ []

abbrev pub characters_of : Cell → List ℕ
characters_of cell = cell.character ∷ marks_of cell.marks

-- a cell that is no right half, and where it leads
abbrev pub purse_in : List Kept → Pen → Cell → Purse
purse_in links at cell = purse_with at.purse (link_at cell.link links)

abbrev pub shown_calls_of : List Kept → Pen → Cell → List Call
shown_calls_of links at cell =
    link_calls at.purse.last (link_at cell.link links) (purse_in links at cell).last
    ++ (style_calls at.style cell.style ++ prints (characters_of cell))

-- any cell: the right half of a wide character has none
abbrev pub cell_calls : List Kept → Pen → Cell → List Call
cell_calls links at cell = if is_right cell.part then [] else shown_calls_of links at cell

abbrev pub pen_behind : List Kept → Pen → Cell → Pen
pen_behind links at cell = if is_right cell.part then at else pen cell.style (purse_in links at cell)

-- cells, one after another, and where they lead
abbrev pub cells_calls : List Kept → Pen → List Cell → List Call
cells_calls links at [] = []
cells_calls links at (cell ∷ cells) = cell_calls links at cell ++ cells_calls links (pen_behind links at cell) cells

abbrev pub pen_after : List Kept → Pen → List Cell → Pen
pen_after links at [] = at
pen_after links at (cell ∷ cells) = pen_after links (pen_behind links at cell) cells

-- the end of a line, and where it leads
abbrev pub feed_calls : Pen → List Call
feed_calls at = link_calls at.purse.last [] [] ++ (style_calls at.style plain ++ execute 0x0A ∷ [])

abbrev pub pen_fed : Pen → Pen
pen_fed at = pen plain (line_ended false at.purse)

-- Where rows stand: the pen, the links that are kept, and whether a line is open.
pub record Hand : Type 0 where
  pub pen : Pen
  pub places : List Kept
  pub is_open : Bool

-- A row has its cells without those at its end where nothing was printed; and a line feed, unless it goes on.
abbrev pub printed_cells : List Cell → List Cell
printed_cells row = take (used is_unprinted row) row

abbrev pub behind_cells : Hand → List Cell → Pen
behind_cells at row = pen_after at.places at.pen (printed_cells row)

abbrev pub row_calls : Hand → List Cell → List Call
row_calls at row =
    cells_calls at.places at.pen (printed_cells row) ++ (if goes_on row then [] else feed_calls (behind_cells at row))

abbrev pub hand_after : Hand → List Cell → Hand
hand_after at row = record {
  pen = if goes_on row then behind_cells at row else pen_fed (behind_cells at row);
  places = at.places;
  is_open = goes_on row;
}

-- A command may begin a link, which is then kept, and earns what it costs.
abbrev pub table_of : Hand → Table
table_of at = table at.places at.pen.purse.spare

abbrev pub hand_told : Hand → ℕ → List (List ℕ) → Hand
hand_told at number parts = record {
  pen = pen at.pen.style (purse at.pen.purse.last (table_after number parts (table_of at)).spare);
  places = (table_after number parts (table_of at)).places;
  is_open = at.is_open;
}

-- the rows that leave a screen, each with the links that are kept as it leaves; and where they lead
abbrev pub handed_calls : Hand → List Handed → List Call
handed_calls at [] = []
handed_calls at (leaving row ∷ others) = row_calls at row ++ handed_calls (hand_after at row) others
handed_calls at (command number parts ∷ others) = handed_calls (hand_told at number parts) others

abbrev pub hand_behind : Hand → List Handed → Hand
hand_behind at [] = at
hand_behind at (leaving row ∷ others) = hand_behind (hand_after at row) others
hand_behind at (command number parts ∷ others) = hand_behind (hand_told at number parts) others

-- a line that is open at the end is ended
abbrev pub closing_calls : Hand → List Call
closing_calls at = if at.is_open then feed_calls at.pen else []

abbrev pub at_start : Hand
at_start = record { pen = pen plain (purse [] no_links.spare); places = no_links.places; is_open = false }

-- the rows that leave the screen by the calls of a stream; those that still show at the end; and both
abbrev pub left_calls : State → List Call → List Call
left_calls s calls = handed_calls at_start (all_handed (given_all calls) s)

abbrev pub still_calls : Hand → Display → List Call
still_calls at d =
    handed_calls at (map leaving (showing d)) ++ closing_calls (hand_behind at (map leaving (showing d)))

abbrev pub ending_calls : State → List Call → List Call
ending_calls s calls =
    still_calls (hand_behind at_start (all_handed (given_all calls) s)) (after_all (given_all calls) s).display

abbrev pub shown_calls : State → List Call → List Call
shown_calls s calls = left_calls s calls ++ ending_calls s calls
