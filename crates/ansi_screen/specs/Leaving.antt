-- Rows that leave, and what takes them.
--
-- Where rows move up past the first row of the main screen, and where all of it is taken away, `Edits` says it: a screen
-- keeps the last of them (`History`).
use Rattle.std.specs.Prelude.{◌≡◌, ℕ, Option, None, Some, List, [], ◌∷◌, ◌++◌}
use Rattle.std.specs.Option.{option_map}
use Rattle.anstyle_parse.specs.Stream.Call.{Call}
use Rattle.anstyle_parse.specs.Stream.Calls.{AreCalls}
use Rattle.ansi_screen.specs.declared.cell.Cell.{Cell}
use Rattle.ansi_screen.specs.Display.{IsSized}
use Rattle.ansi_screen.specs.History.{Kept, nothing_kept}
use Rattle.ansi_screen.specs.After.{State, step_of, after, after_all}

-- the same screen, which keeps other rows that left it, or none
abbrev pub with_kept : Option Kept → State → State
with_kept history s = record s { history = history }

-- the same screen, which keeps no rows that leave it
abbrev pub unkept : State → State
unkept s = record s { history = None }

-- It keeps none, and has room for as many as it has rows.
pub record HasRoom (s : State) : Type 0 where
  pub sized : IsSized s.display
  pub room : s.history ≡ Some (nothing_kept s.display.height s.display.width)

-- what it kept is kept no longer
abbrev pub with_room_alone : State → State
with_room_alone s = record s { history = option_map (λ (kept : Kept). nothing_kept kept.most kept.columns) s.history }

-- what is kept; nothing by a screen that keeps nothing
abbrev pub kept_rows : Option Kept → List (List Cell)
kept_rows None = []
kept_rows (Some kept) = kept.rows

-- the rows that leave by a call, and by a list of calls, in order
abbrev pub rows_left : Call → State → List (List Cell)
rows_left call s = (step_of call s.last s.display).left

abbrev pub all_left : List Call → State → List (List Cell)
all_left [] s = []
all_left (call ∷ calls) s = rows_left call s ++ all_left calls (after call s)

-- Rows were taken, one after another; `takes` says what one row does to what takes it.
abbrev pub TakesRows : {R : Type 0} → (R → List Cell → R → Type 0) → R → List (List Cell) → R → Type 0
TakesRows takes old [] new = new ≡ old
TakesRows {R} takes old (row ∷ rows) new = (middle : R) × takes old row middle × TakesRows takes middle rows new

-- a `Scrolling`: its screen, and what takes its rows
pub record Scrolled (R : Type 0) : Type 0 where
  pub screen : State
  pub taker : R

abbrev pub screen_of : {R : Type 0} → Scrolled R → State
screen_of scrolling = scrolling.screen

abbrev pub taker_of : {R : Type 0} → Scrolled R → R
taker_of scrolling = scrolling.taker

-- By a call the rows that leave are taken, and the screen is the one after the call.
pub record Scrolls {R : Type 0} (takes : R → List Cell → R → Type 0)
    (old : Scrolled R) (call : Call) (new : Scrolled R) : Type 0 where
  pub screen : screen_of new ≡ after call (screen_of old)
  pub taken : TakesRows takes (taker_of old) (rows_left call (screen_of old)) (taker_of new)

-- the same by a list of calls
pub record ScrollsAll {R : Type 0} (takes : R → List Cell → R → Type 0)
    (old : Scrolled R) (calls : List Call) (new : Scrolled R) : Type 0 where
  pub screen : screen_of new ≡ after_all calls (screen_of old)
  pub taken : TakesRows takes (taker_of old) (all_left calls (screen_of old)) (taker_of new)

-- The bytes lead to what the calls of a new parser do.
abbrev pub ScrollsBy : {R : Type 0} → (R → List Cell → R → Type 0) → Scrolled R → List ℕ → Scrolled R → Type 0
ScrollsBy takes old bytes new = (calls : List Call) × AreCalls bytes calls × ScrollsAll takes old calls new
