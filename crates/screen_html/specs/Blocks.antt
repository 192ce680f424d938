-- What a screen showed of the calls of a stream, as HTML in blocks of lines: each block is one element, with as many
-- lines as a block has, the last one with what is left. No element of text is open where a block begins or ends.
use Rattle.std.specs.Prelude.{ℕ, false, ◌==◌, ◌-◌, List, [], ◌++◌, map, if◌then◌else◌}
use Rattle.anstyle_parse.specs.declared.io.devices.Sink.{Ghosts as SinkOf}
use Rattle.anstyle_parse.specs.declared.io.output.Output.{Output}
use Rattle.anstyle_parse.specs.Stream.Call.{Call}
use Rattle.ansi_html.specs.declared.scheme.Styling.{Styling}
use Rattle.ansi_html.specs.Blocks.{block_begin, block_end, lines_a_block}
use Rattle.ansi_html.specs.Html.{no_element}
use Rattle.ansi_screen.specs.declared.cell.Cell.{Cell}
use Rattle.ansi_screen.specs.After.{State, after_all}
use Rattle.ansi_screen.specs.Text.{goes_on}
use Rattle.screen_text.specs.Lines.{showing}
use Rattle.screen_text.specs.Rows.{WritesRow, WritesCommand, WritesNothing, leaving, all_handed, rows_from, after_rows, last_rows_from}
use Rattle.screen_text.specs.Shown.{given_all}
use Rattle.screen_html.specs.declared.blocks.BlockRows.{BlockRows}
use Rattle.screen_html.specs.Shown.{no_linking}
use Rattle.screen_html.specs.Writer.{Between, row_html, after_row, after_command, closing_html, output_of, standing_of}

-- Where a writer of blocks stands between two rows: where what is in them does, and how many lines the block that is
-- open may still take, or 0 where none is.
pub record Blocked : Type 0 where
  pub inside : Between
  pub left : ℕ

abbrev pub blocked : Between → (left : ℕ) → Blocked
blocked inside left = record { inside = inside; left = left }

-- before any row
abbrev pub at_start : Styling → Between
at_start styling = record { styling = styling; shown = no_element; linking = no_linking; is_open = false }

abbrev pub blocked_at_start : Styling → Blocked
blocked_at_start styling = blocked (at_start styling) 0

-- A block begins before a row where none is open;
abbrev pub block_opening : Blocked → List ℕ
block_opening it = if it.left == 0 then block_begin else []

abbrev pub left_with_row : Blocked → ℕ
left_with_row it = if it.left == 0 then lines_a_block else it.left

-- a row that does not go on ends a line of it,
abbrev pub left_after_row : Blocked → List Cell → ℕ
left_after_row it row = if goes_on row then left_with_row it else left_with_row it - 1

-- and the last line ends the block.
abbrev pub block_closing : (left : ℕ) → List ℕ
block_closing left = if left == 0 then block_end else []

-- what is written of a row, and where that leads; and a command
abbrev pub row_blocked : Blocked → List Cell → List ℕ
row_blocked it row = block_opening it ++ (row_html it.inside row ++ block_closing (left_after_row it row))

abbrev pub after_row_blocked : Blocked → List Cell → Blocked
after_row_blocked it row = blocked (after_row it.inside row) (left_after_row it row)

abbrev pub after_command_blocked : Blocked → ℕ → List (List ℕ) → Blocked
after_command_blocked it number parts = blocked (after_command it.inside number parts) it.left

-- at the end: what ends the last line, and the block that is open
abbrev pub closing_blocked : Blocked → List ℕ
closing_blocked it = closing_html it.inside ++ (if it.left == 0 then [] else block_end)

-- What is written as rows leave, and at the end; and both.
abbrev pub blocked_after_all : Styling → State → List Call → Blocked
blocked_after_all styling s calls =
    after_rows after_row_blocked after_command_blocked (blocked_at_start styling) (all_handed (given_all calls) s)

abbrev pub left_blocked : Styling → State → List Call → List ℕ
left_blocked styling s calls =
    rows_from row_blocked after_row_blocked after_command_blocked (blocked_at_start styling)
    (all_handed (given_all calls) s)

abbrev pub ending_blocked : Styling → State → List Call → List ℕ
ending_blocked styling s calls =
    last_rows_from row_blocked after_row_blocked after_command_blocked closing_blocked
    (blocked_after_all styling s calls)
    (map leaving (showing (after_all (given_all calls) s).display))

abbrev pub shown_blocked : Styling → State → List Call → List ℕ
shown_blocked styling s calls = left_blocked styling s calls ++ ending_blocked styling s calls

-- the output of a writer, and where it stands
abbrev pub blocks_output : {W : Type 0} → BlockRows W → Output W
blocks_output blocks = output_of blocks.rows

abbrev pub blocked_of : {W : Type 0} → BlockRows W → Blocked
blocked_of blocks = blocked (standing_of blocks.rows) blocks.left

-- what a row does to it, a command, and handing on what its output holds back
abbrev pub TakesRow : {W : Type 0} → SinkOf W → BlockRows W → List Cell → BlockRows W → Type 0
TakesRow sink old row new = WritesRow sink blocks_output blocked_of row_blocked after_row_blocked old row new

abbrev pub TakesCommand : {W : Type 0} → SinkOf W → BlockRows W → ℕ → List (List ℕ) → BlockRows W → Type 0
TakesCommand sink old number parts new =
    WritesCommand sink blocks_output blocked_of after_command_blocked old number parts new

abbrev pub PassesOn : {W : Type 0} → SinkOf W → BlockRows W → BlockRows W → Type 0
PassesOn sink old new = WritesNothing sink blocks_output blocked_of old new
