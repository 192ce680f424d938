-- Rows of a screen as lines of text.
--
-- Source: xterm(1), on selecting text: a line that was wrapped is one line, and blanks that were never
-- written are left out at its end.
use Rattle.std.specs.Prelude.{ℕ, Bool, List, [], ◌∷◌, ◌++◌, take, if◌then◌else◌}
use Rattle.std.specs.List.{flat_map}
use Rattle.anstyle_parse.specs.declared.io.devices.Sink.{Ghosts as SinkOf}
use Rattle.anstyle_parse.specs.declared.io.output.Output.{Output}
use Rattle.ansi_screen.specs.declared.cell.Cell.{Cell}
use Rattle.ansi_screen.specs.Display.{Display}
use Rattle.ansi_screen.specs.Edits.{swapped}
use Rattle.ansi_screen.specs.Text.{cell_text, is_unprinted, goes_on, used, printed_rows}
use Rattle.screen_text.specs.declared.rows.TextRows.{TextRows}
use Rattle.screen_text.specs.Rows.{WritesRow, WritesCommand, WritesNothing}

-- a row's characters, without the cells at its end where nothing was printed; with a line feed, unless it goes on
abbrev pub row_text : List Cell → List ℕ
row_text row = flat_map cell_text (take (used is_unprinted row) row) ++ (if goes_on row then [] else 0x0A ∷ [])

abbrev pub rows_text : List (List Cell) → List ℕ
rows_text rows = flat_map row_text rows

-- whether a line is open after rows: the last of them goes on
abbrev pub open_after : Bool → List (List Cell) → Bool
open_after on [] = on
open_after on (row ∷ rows) = open_after (goes_on row) rows

-- a line that is open at the end is ended
abbrev pub closing : Bool → List ℕ
closing on = if on then 0x0A ∷ [] else []

-- what still shows: the rows up to the last in which something was printed; where the alternate screen shows, those of
-- the main screen come first
abbrev pub showing : Display → List (List Cell)
showing d = (if d.is_alternate then printed_rows (swapped d) else []) ++ printed_rows d

-- the output of a writer of such text; whether the last row that it took goes on
abbrev pub output_of : {W : Type 0} → TextRows W → Output W
output_of rows = rows.output

abbrev pub is_open : {W : Type 0} → TextRows W → Bool
is_open rows = rows.is_open

-- What a row does to it, a command, and handing on what its writer holds back: the text of a row is the same wherever
-- it stands, which is whether a line is open.
abbrev pub row_text_at : (on : Bool) → List Cell → List ℕ
row_text_at on row = row_text row

abbrev pub after_row : (on : Bool) → List Cell → Bool
after_row on row = goes_on row

abbrev pub after_command : (on : Bool) → (link : ℕ) → (parts : List (List ℕ)) → Bool
after_command on link parts = on

abbrev pub TakesRow : {W : Type 0} → SinkOf W → TextRows W → List Cell → TextRows W → Type 0
TakesRow sink old row new = WritesRow sink output_of is_open row_text_at after_row old row new

abbrev pub TakesCommand : {W : Type 0} → SinkOf W → TextRows W → ℕ → List (List ℕ) → TextRows W → Type 0
TakesCommand sink old link parts new = WritesCommand sink output_of is_open after_command old link parts new

abbrev pub PassesOn : {W : Type 0} → SinkOf W → TextRows W → TextRows W → Type 0
PassesOn sink old new = WritesNothing sink output_of is_open old new
