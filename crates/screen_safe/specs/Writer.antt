-- What a writer of rows as safe text writes of a row, from where it stands.
use Rattle.std.specs.Prelude.{ℕ, Bool, List, ◌++◌}
use Rattle.std.specs.Str.{encode_utf8_all}
use Rattle.anstyle_parse.specs.declared.io.devices.Sink.{Ghosts as SinkOf}
use Rattle.anstyle_parse.specs.declared.io.output.Output.{Output}
use Rattle.ansi_screen.specs.declared.cell.Cell.{Cell}
use Rattle.ansi_screen.specs.Text.{goes_on}
use Rattle.safe_text.specs.Safe.{safe_from}
use Rattle.safe_text.specs.Decided.{decided_from, waiting, last_from}
use Rattle.safe_text.specs.Writer.{output_of as safe_output, before_in, held_in}
use Rattle.screen_text.specs.Lines.{closing}
use Rattle.screen_text.specs.Rows.{WritesRow, WritesCommand, WritesNothing}
use Rattle.screen_safe.specs.declared.rows.SafeRows.{SafeRows}
use Rattle.screen_safe.specs.Characters.{row_marked}

-- Where it stands between two rows: the character that is written last, those that wait for the next one, and whether
-- a line is open.
pub record Between : Type 0 where
  pub before : ℕ
  pub held : List ℕ
  pub is_open : Bool

-- where it stands after characters
abbrev pub standing_after : List ℕ → Bool → Between
standing_after cs on = record { before = last_from 0 cs; held = waiting cs; is_open = on }

abbrev pub row_safe : Between → List Cell → List ℕ
row_safe at row = encode_utf8_all (decided_from at.before (at.held ++ row_marked row))

abbrev pub after_row : Between → List Cell → Between
after_row at row = record {
  before = last_from at.before (at.held ++ row_marked row);
  held = waiting (at.held ++ row_marked row);
  is_open = goes_on row;
}

abbrev pub after_command : Between → (link : ℕ) → (parts : List (List ℕ)) → Between
after_command at link parts = at

-- a line that is open is ended, and what waits is written
abbrev pub closing_safe : Between → List ℕ
closing_safe at = encode_utf8_all (safe_from at.before (at.held ++ closing at.is_open))

-- the output of a writer, and where it stands
abbrev pub output_of : {W : Type 0} → SafeRows W → Output W
output_of rows = safe_output rows.writer

abbrev pub standing_of : {W : Type 0} → SafeRows W → Between
standing_of rows = record { before = before_in rows.writer; held = held_in rows.writer; is_open = rows.is_open }

-- what a row does to it, a command, and handing on what its output holds back
abbrev pub TakesRow : {W : Type 0} → SinkOf W → SafeRows W → List Cell → SafeRows W → Type 0
TakesRow sink old row new = WritesRow sink output_of standing_of row_safe after_row old row new

abbrev pub TakesCommand : {W : Type 0} → SinkOf W → SafeRows W → ℕ → List (List ℕ) → SafeRows W → Type 0
TakesCommand sink old link parts new = WritesCommand sink output_of standing_of after_command old link parts new

abbrev pub PassesOn : {W : Type 0} → SinkOf W → SafeRows W → SafeRows W → Type 0
PassesOn sink old new = WritesNothing sink output_of standing_of old new
