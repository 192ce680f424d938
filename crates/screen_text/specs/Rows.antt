-- What writers of rows write, whatever they write of a row. One stands somewhere between two rows; from
-- there it writes a text of the next row, which leads on; and at the end it writes what closes. An operating
-- system command leads on too, without a text.
use Rattle.std.specs.Prelude.{◌≡◌, ℕ, List, [], ◌∷◌, ◌++◌, map}
use Rattle.anstyle_parse.specs.declared.io.devices.Sink.{Ghosts as SinkOf}
use Rattle.anstyle_parse.specs.declared.io.output.Output.{Output}
use Rattle.anstyle_parse.specs.Io.Output.{Adds}
use Rattle.anstyle_parse.specs.Stream.Call.{Call, osc_dispatch}
use Rattle.ansi_screen.specs.declared.cell.Cell.{Cell}
use Rattle.ansi_screen.specs.After.{State, after}
use Rattle.ansi_screen.specs.Leaving.{rows_left}

-- what is handed on by a screen: a row, or a command by its parts, with the number of the link in force after it
pub data Handed : Type 0 where
  leaving : List Cell → Handed
  command : ℕ → List (List ℕ) → Handed

-- by a call, and by a list of calls, in order
abbrev pub commands : Call → State → List Handed
commands (osc_dispatch parts bell_terminated) s =
    command (after (osc_dispatch parts bell_terminated) s).display.link parts ∷ []
commands call s = []

abbrev pub handed : Call → State → List Handed
handed call s = map leaving (rows_left call s) ++ commands call s

abbrev pub all_handed : List Call → State → List Handed
all_handed [] s = []
all_handed (call ∷ calls) s = handed call s ++ all_handed calls (after call s)

-- the texts of these, one after another, and where they lead
abbrev pub rows_from : {S : Type 0} → (row_text : S → List Cell → List ℕ) → (after_row : S → List Cell → S)
    → (after_command : S → ℕ → List (List ℕ) → S) → S → List Handed → List ℕ
rows_from row_text after_row after_command at [] = []
rows_from row_text after_row after_command at (leaving row ∷ others) =
    row_text at row ++ rows_from row_text after_row after_command (after_row at row) others
rows_from row_text after_row after_command at (command link parts ∷ others) =
    rows_from row_text after_row after_command (after_command at link parts) others

abbrev pub after_rows : {S : Type 0} → (after_row : S → List Cell → S)
    → (after_command : S → ℕ → List (List ℕ) → S) → S → List Handed → S
after_rows after_row after_command at [] = at
after_rows after_row after_command at (leaving row ∷ others) =
    after_rows after_row after_command (after_row at row) others
after_rows after_row after_command at (command link parts ∷ others) =
    after_rows after_row after_command (after_command at link parts) others

-- and with what closes, where they are the last
abbrev pub last_rows_from : {S : Type 0} → (row_text : S → List Cell → List ℕ) → (after_row : S → List Cell → S)
    → (after_command : S → ℕ → List (List ℕ) → S) → (closing : S → List ℕ) → S → List Handed → List ℕ
last_rows_from row_text after_row after_command closing at all =
    rows_from row_text after_row after_command at all ++ closing (after_rows after_row after_command at all)

-- By a row a writer adds its text; by a command, and by handing on what its output holds back, it adds nothing.
pub record WritesRow {R W S : Type 0} (sink : SinkOf W) (output_in : R → Output W) (standing_in : R → S)
    (row_text : S → List Cell → List ℕ) (after_row : S → List Cell → S)
    (old : R) (row : List Cell) (new : R) : Type 0 where
  pub added : Adds sink (row_text (standing_in old) row) (output_in old) (output_in new)
  pub standing : standing_in new ≡ after_row (standing_in old) row

pub record WritesCommand {R W S : Type 0} (sink : SinkOf W) (output_in : R → Output W) (standing_in : R → S)
    (after_command : S → ℕ → List (List ℕ) → S)
    (old : R) (link : ℕ) (parts : List (List ℕ)) (new : R) : Type 0 where
  pub added : Adds sink [] (output_in old) (output_in new)
  pub standing : standing_in new ≡ after_command (standing_in old) link parts

pub record WritesNothing {R W S : Type 0} (sink : SinkOf W) (output_in : R → Output W) (standing_in : R → S)
    (old new : R) : Type 0 where
  pub added : Adds sink [] (output_in old) (output_in new)
  pub standing : standing_in new ≡ standing_in old

-- Rows and commands were taken, one after another, and what was held back was handed on between them.
pub data Took {R : Type 0} (takes : R → List Cell → R → Type 0) (takes_command : R → ℕ → List (List ℕ) → R → Type 0)
    (passes_on : R → R → Type 0) : R → List Handed → R → Type 0 where
  none : {taker : R} → Took takes takes_command passes_on taker [] taker
  row : {old middle new : R} {one : List Cell} {others : List Handed} → takes old one middle
      → Took takes takes_command passes_on middle others new
      → Took takes takes_command passes_on old (leaving one ∷ others) new
  told : {old middle new : R} {link : ℕ} {parts : List (List ℕ)} {others : List Handed}
      → takes_command old link parts middle → Took takes takes_command passes_on middle others new
      → Took takes takes_command passes_on old (command link parts ∷ others) new
  passed : {old middle new : R} {others : List Handed} → passes_on old middle
      → Took takes takes_command passes_on middle others new → Took takes takes_command passes_on old others new
