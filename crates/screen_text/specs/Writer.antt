-- What a writer of what a screen showed has, and what calls do to it.
use Rattle.std.specs.Prelude.{◌≡◌, ℕ, List, map}
use Rattle.anstyle_parse.specs.Stream.Call.{Call}
use Rattle.ansi_screen.specs.declared.cell.Cell.{Cell}
use Rattle.ansi_screen.specs.After.{State, after_all}
use Rattle.ansi_screen.specs.Leaving.{taker_of, screen_of as scrolling_screen}
use Rattle.screen_text.specs.declared.performer.ShownWriter.{ShownWriter}
use Rattle.screen_text.specs.Lines.{showing}
use Rattle.screen_text.specs.Rows.{leaving, all_handed, rows_from, after_rows, last_rows_from, Took}
use Rattle.screen_text.specs.Shown.{given_all}

-- what writes the rows; its screen
abbrev pub rows_of : {R : Type 0} → ShownWriter R → R
rows_of performer = taker_of performer.scrolling

abbrev pub screen_of : {R : Type 0} → ShownWriter R → State
screen_of performer = scrolling_screen performer.scrolling

-- what it writes by a list of calls, as it stands, and at the end after them
abbrev pub text_from : {R S : Type 0} → (standing_in : R → S) → (row_text : S → List Cell → List ℕ)
    → (after_row : S → List Cell → S) → (after_command : S → ℕ → List (List ℕ) → S) → ShownWriter R → List Call → List ℕ
text_from standing_in row_text after_row after_command performer calls =
    rows_from row_text after_row after_command (standing_in (rows_of performer))
    (all_handed (given_all calls) (screen_of performer))

abbrev pub ending_from : {R S : Type 0} → (standing_in : R → S) → (row_text : S → List Cell → List ℕ)
    → (after_row : S → List Cell → S) → (after_command : S → ℕ → List (List ℕ) → S) → (closing : S → List ℕ)
    → ShownWriter R → List Call → List ℕ
ending_from standing_in row_text after_row after_command closing performer calls =
    last_rows_from row_text after_row after_command closing
    (after_rows after_row after_command (standing_in (rows_of performer))
    (all_handed (given_all calls) (screen_of performer)))
    (map leaving (showing (after_all (given_all calls) (screen_of performer)).display))

-- The screen has received these calls; the rows that left were taken, and the commands among the calls.
pub record Shows {R : Type 0} (takes : R → List Cell → R → Type 0)
    (takes_command : R → ℕ → List (List ℕ) → R → Type 0) (passes_on : R → R → Type 0)
    (old : ShownWriter R) (calls : List Call) (new : ShownWriter R) : Type 0 where
  pub screen : screen_of new ≡ after_all calls (screen_of old)
  pub taken : Took takes takes_command passes_on (rows_of old) (all_handed calls (screen_of old)) (rows_of new)
