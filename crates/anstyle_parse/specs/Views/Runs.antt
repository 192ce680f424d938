-- What a run of bytes that are taken at once leads to, and which bytes are runs.
use Rattle.std.specs.Prelude.{◌≡◌, ◌≢◌, ◌≤◌, ◌<◌, ◌||◌, ℕ, Bool, List, [], ◌∷◌, ◌++◌, length, IsTrue}
use Rattle.anstyle_parse.specs.declared.state.definitions.State.{State}
use Rattle.anstyle_parse.specs.declared.state.definitions.State.TheVariants.{Anywhere, Utf8}
use Rattle.anstyle_parse.specs.declared.state.definitions.Action.{Action}
use Rattle.anstyle_parse.specs.declared.state.definitions.Action.TheVariants.{Ignore, Print, Put}
use Rattle.anstyle_parse.specs.declared.parser.Parser.{Parser}
use Rattle.anstyle_parse.specs.declared.parser.runs.Run.{Run}
use Rattle.anstyle_parse.specs.declared.parser.runs.Run.TheVariants.{Printed, OfHookedString, OfIgnoredString, OfIgnoredHeader}
use Rattle.anstyle_parse.specs.Stream.Bytes.{is_within}
use Rattle.anstyle_parse.specs.Stream.Call.{Call, Goes, print, put}
use Rattle.anstyle_parse.specs.Stream.Items.{EachIs}
use Rattle.anstyle_parse.specs.Machine.Table.{◌by◌, change_at}
use Rattle.anstyle_parse.specs.Machine.Step.{AccumulatorStep, machine_after, machine_calls}
use Rattle.anstyle_parse.specs.Views.Parser.{machine_of, CanTakeAll}
use Rattle.anstyle_parse.specs.Views.Stage.{Stage}

-- Going on from here with what is left is going from the start with all bytes: the machine
-- ends as the same one, and the performer has received what calls are made on the way.
pub record LeadsTo {C P : Type 0} (takes : C → ℕ → Type 0) (adds : AccumulatorStep C) (means : P → Call → P → Type 0)
    (old new : Stage C P) : Type 0 where
  -- what is left can be taken
  pub can : CanTakeAll takes new.parser new.left
  pub machine : machine_after adds new.left (machine_of new.parser)
      ≡ machine_after adds old.left (machine_of old.parser)
  -- the calls that are made on the way
  pub made : List Call
  pub joined : machine_calls adds old.left (machine_of old.parser)
      ≡ made ++ machine_calls adds new.left (machine_of new.parser)
  pub performed : Goes means old.performer made new.performer
  pub within : length new.left ≤ length old.left

-- the same, and not all bytes are left
pub record Takes {C P : Type 0} (takes : C → ℕ → Type 0) (adds : AccumulatorStep C) (means : P → Call → P → Type 0)
    (old new : Stage C P) : Type 0 where
  pub leads : LeadsTo takes adds means old new
  pub some : length new.left < length old.left

-- Bytes at the front that all pass a test are taken, with no call, and these are left.
pub record LeadsQuietlyTo {C : Type 0} (takes : C → ℕ → Type 0) (adds : AccumulatorStep C) (test : ℕ → Bool)
    (old : Parser C) (bytes : List ℕ) (new : Parser C) (left : List ℕ) : Type 0 where
  pub passed : List ℕ
  pub joined : bytes ≡ passed ++ left
  pub each : EachIs test passed
  pub machine : machine_of new ≡ machine_after adds passed (machine_of old)
  pub none : machine_calls adds passed (machine_of old) ≡ []
  -- what is left can be taken
  pub can : CanTakeAll takes new left

-- the text of a command is all but controls; its separators are part of it
abbrev pub is_of_command : ℕ → Bool
is_of_command b = is_within 0x20 0xFF b

-- a high byte that is no control and begins no character
abbrev pub begins_nothing : ℕ → Bool
begins_nothing b = is_within 0x9D 0xC1 b || is_within 0xF5 0xFF b

-- the bytes of a run
abbrev pub is_of_run : Run → ℕ → Bool
is_of_run Printed b = is_within 0x20 0x7F b
is_of_run OfHookedString b = is_within 0x20 0x7E b
is_of_run OfIgnoredString b = is_within 0x20 0x7F b
is_of_run OfIgnoredHeader b = is_within 0x20 0x3F b

-- what each of them is to the table, and the calls that it makes
abbrev pub run_action : Run → Action
run_action Printed = Print
run_action OfHookedString = Put
run_action OfIgnoredString = Ignore
run_action OfIgnoredHeader = Ignore

abbrev pub run_calls : Run → ℕ → List Call
run_calls Printed b = print b ∷ []
run_calls OfHookedString b = put b ∷ []
run_calls OfIgnoredString b = []
run_calls OfIgnoredHeader b = []

-- in this state each byte of the run does that, and keeps the state
abbrev pub KeepsTo : Run → State → Type 0
KeepsTo run state =
    (state ≢ Utf8) × ((b : ℕ) → IsTrue (is_of_run run b) → change_at state b ≡ (Anywhere by run_action run))

-- the performer goes from before to after by the calls of each byte in turn
abbrev pub AreMade : {P : Type 0} → (P → Call → P → Type 0) → (ℕ → List Call) → P → List ℕ → P → Type 0
AreMade means calls before [] after = after ≡ before
AreMade {P} means calls before (b ∷ bytes) after =
    (mid : P) × Goes means before (calls b) mid × AreMade means calls mid bytes after
