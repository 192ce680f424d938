-- What is written as rows are given on to a performer that writes.
use Rattle.std.specs.Prelude.{ℕ, List, ◌++◌, length, drop}
use Rattle.anstyle_parse.specs.Stream.Call.{Call}
use Rattle.ansi_screen.specs.declared.cell.Cell.{Cell}
use Rattle.screen_calls.specs.declared.rows.CallRows.{CallRows}
use Rattle.screen_calls.specs.Calls.{Hand, row_calls, hand_after, hand_told, closing_calls}
use Rattle.screen_calls.specs.Rows.{performer_in, hand_of}

-- Where it stands: what the performer writes by calls that come, with which ending, and where the rows stand.
pub record Standing : Type 0 where
  pub text : List Call → List ℕ
  pub ending : List Call → List ℕ
  pub hand : Hand

abbrev pub standing : (text ending : List Call → List ℕ) → Hand → Standing
standing text ending hand = record { text = text; ending = ending; hand = hand }

abbrev pub standing_in : {P W : Type 0} → (text_from ending_from : P → List Call → List ℕ) → CallRows P W → Standing
standing_in text_from ending_from rows =
    standing (text_from (performer_in rows)) (ending_from (performer_in rows)) (hand_of rows)

-- What is written by more calls, after some: of the text of all what comes after that of these.
abbrev pub text_behind : (text : List Call → List ℕ) → (calls more : List Call) → List ℕ
text_behind text calls more = drop (length (text calls)) (text (calls ++ more))

abbrev pub after_calls : Standing → List Call → Hand → Standing
after_calls at calls hand =
    standing (λ more. text_behind at.text calls more) (λ more. at.ending (calls ++ more)) hand

-- what a row writes, and where it leads; a command; and what is written at the end
abbrev pub row_text : Standing → List Cell → List ℕ
row_text at row = at.text (row_calls at.hand row)

abbrev pub after_row : Standing → List Cell → Standing
after_row at row = after_calls at (row_calls at.hand row) (hand_after at.hand row)

abbrev pub after_command : Standing → ℕ → List (List ℕ) → Standing
after_command at number parts = standing at.text at.ending (hand_told at.hand number parts)

abbrev pub closing : Standing → List ℕ
closing at = at.text (closing_calls at.hand) ++ at.ending (closing_calls at.hand)
