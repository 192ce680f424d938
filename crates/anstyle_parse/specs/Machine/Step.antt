-- What one byte does to the parser, and which calls it makes: Williams' machine with its
-- entry and exit actions, over the table.
use Rattle.std.specs.Prelude.{◌≡◌, ◌≤◌, ◌⊎◌, IsTrue, ℕ, ◌+◌, ◌-◌, ◌*◌, Bool, true, false, ◌==◌, List, [], ◌∷◌, ◌++◌, length, min, if◌then◌else◌, ⊤}
use Rattle.std.specs.List.{concat}
use Rattle.anstyle_parse.specs.declared.utf8.Taken.{Taken}
use Rattle.anstyle_parse.specs.declared.utf8.Taken.TheVariants.{More, Char, Broken}
use Rattle.anstyle_parse.specs.declared.state.definitions.State.{State}
use Rattle.anstyle_parse.specs.declared.state.definitions.State.TheVariants.{Anywhere, CsiEntry, DcsEntry, DcsPassthrough, Escape, Ground, OscString, Utf8}
use Rattle.anstyle_parse.specs.declared.state.definitions.Action.{Action}
use Rattle.anstyle_parse.specs.declared.state.definitions.Action.TheVariants.{Nop, Clear, Collect, CsiDispatch, EscDispatch, Execute, Hook, Ignore, OscEnd, OscPut, OscStart, Param, Print, Put, Unhook, BeginUtf8}
use Rattle.anstyle_parse.specs.Stream.Bytes.{colon, semicolon, bell}
use Rattle.anstyle_parse.specs.Stream.Characters.{is_lead}
use Rattle.anstyle_parse.specs.Stream.Arguments.{max_fields, max_field, max_collected, max_osc_bytes, max_osc_parts}
use Rattle.anstyle_parse.specs.Stream.Call.{Call, print, execute, hook, put, unhook, osc_dispatch, csi_dispatch, esc_dispatch}
use Rattle.anstyle_parse.specs.Machine.Table.{change_at}
use Rattle.anstyle_parse.specs.Stream.Groups.{shown_groups}

-- What the parser keeps. A is what its accumulator of characters holds.
pub record Machine (A : Type 0) : Type 0 where
  pub state : State
  pub collected : List ℕ
  pub ignoring : Bool
  -- the groups that are closed, the fields of the one that is open, the number so far
  pub closed_groups : List (List ℕ)
  pub open_group : List ℕ
  pub number : ℕ
  -- the parts of an operating system command that are closed, and the text after them
  pub closed_parts : List (List ℕ)
  pub open_part : List ℕ
  pub accumulator : A

-- a machine as it begins
abbrev pub new_machine : {A : Type 0} → A → Machine A
new_machine empty = record {
  state = Ground;
  collected = [];
  ignoring = false;
  closed_groups = [];
  open_group = [];
  number = 0;
  closed_parts = [];
  open_part = [];
  accumulator = empty;
}

-- the same with another accumulator
abbrev pub with_accumulator : {A B : Type 0} → B → Machine A → Machine B
with_accumulator other m = record {
  state = m.state;
  collected = m.collected;
  ignoring = m.ignoring;
  closed_groups = m.closed_groups;
  open_group = m.open_group;
  number = m.number;
  closed_parts = m.closed_parts;
  open_part = m.open_part;
  accumulator = other;
}

abbrev pub field_count : {A : Type 0} → Machine A → ℕ
field_count m = length (concat m.closed_groups) + length m.open_group

-- the number becomes the last field of the open group, which is closed, or stays open
abbrev pub pushed : {A : Type 0} → Machine A → Machine A
pushed m = record m { closed_groups = m.closed_groups ++ (m.open_group ++ m.number ∷ []) ∷ []; open_group = [] }

abbrev pub extended : {A : Type 0} → Machine A → Machine A
extended m = record m { open_group = m.open_group ++ m.number ∷ [] }

abbrev pub after_clear : {A : Type 0} → Machine A → Machine A
after_clear m = record m { collected = []; ignoring = false; closed_groups = []; open_group = []; number = 0 }

abbrev pub after_collect : {A : Type 0} → ℕ → Machine A → Machine A
after_collect b m =
    if length m.collected == max_collected then record m { ignoring = true }
    else record m { collected = m.collected ++ b ∷ [] }

abbrev pub after_param : {A : Type 0} → ℕ → Machine A → Machine A
after_param b m =
    if field_count m == max_fields then record m { ignoring = true }
    else if b == semicolon then record (pushed m) { number = 0 }
    else if b == colon then record (extended m) { number = 0 }
    else record m { number = min max_field (m.number * 10 + (b - 0x30)) }

-- the last field, before a dispatch
abbrev pub with_last_field : {A : Type 0} → Machine A → Machine A
with_last_field m = if field_count m == max_fields then record m { ignoring = true } else pushed m

-- a dispatch, of all that the header said
abbrev pub dispatched : {A : Type 0} → (List (List ℕ) → List ℕ → Bool → ℕ → Call) → ℕ → Machine A → Call
dispatched call final m = call (shown_groups m.closed_groups m.open_group) m.collected m.ignoring final

abbrev pub stored_count : {A : Type 0} → Machine A → ℕ
stored_count m = length (concat m.closed_parts) + length m.open_part

-- what is kept at most: 32 fields, 2 collected bytes, 1024 bytes of text in 16 closed parts
pub record IsWithinLimits {A : Type 0} (m : Machine A) : Type 0 where
  pub fields : field_count m ≤ max_fields
  pub collected : length m.collected ≤ max_collected
  pub stored : stored_count m ≤ max_osc_bytes
  pub parts : length m.closed_parts ≤ max_osc_parts

-- no text, no parts
abbrev pub after_osc_start : {A : Type 0} → Machine A → Machine A
after_osc_start m = record m { closed_parts = []; open_part = [] }

-- the text so far becomes a part, unless there are sixteen
abbrev pub with_part : {A : Type 0} → Machine A → Machine A
with_part m =
    if length m.closed_parts == max_osc_parts then m
    else record m { closed_parts = m.closed_parts ++ m.open_part ∷ []; open_part = [] }

abbrev pub after_osc_put : {A : Type 0} → ℕ → Machine A → Machine A
after_osc_put b m =
    if stored_count m == max_osc_bytes then m
    else if b == semicolon then with_part m
    else record m { open_part = m.open_part ++ b ∷ [] }

-- a character that an accumulator answers is printed, whether it is whole or broken
abbrev pub print_answer : Taken → List Call
print_answer More = []
print_answer (Char c) = print c ∷ []
print_answer (Broken c) = print c ∷ []

-- What an accumulator does with a byte that it takes: its value after it, and what it answers.
abbrev pub AccumulatorStep : Type 0 → Type 0
AccumulatorStep A = A → ℕ → A × Taken

-- Given these bytes one by one an accumulator answers nothing before the last of a character,
-- and there the character. It is then as it was before, and the bytes that are left come next.
abbrev pub Completes : {A : Type 0} → AccumulatorStep A → A → A → List ℕ → ℕ → List ℕ → Type 0
Completes add before now [] c left = ⊥
Completes {A} add before now (b ∷ bytes) c left =
    ((add now b ≡ (before, Char c)) × (bytes ≡ left))
    ⊎ (((add now b).1 ≡ More) × Completes add before (add now b).0 bytes c left)

-- the same from the first byte of a character on, which is not its last
abbrev pub IsWhole : {A : Type 0} → AccumulatorStep A → A → ℕ → List ℕ → ℕ → List ℕ → Type 0
IsWhole add value first behind c left =
    IsTrue (is_lead first) × ((add value first).1 ≡ More) × Completes add value (add value first).0 behind c left

-- the machine after an action
abbrev pub after_action : {A : Type 0} → AccumulatorStep A → Action → ℕ → Machine A → Machine A
after_action add Clear b m = after_clear m
after_action add Collect b m = after_collect b m
after_action add Param b m = after_param b m
after_action add Hook b m = with_last_field m
after_action add CsiDispatch b m = with_last_field m
after_action add OscStart b m = after_osc_start m
after_action add OscPut b m = after_osc_put b m
after_action add OscEnd b m = with_part m
after_action add BeginUtf8 b m = record m { accumulator = (add m.accumulator b).0 }
after_action add Nop b m = m
after_action add EscDispatch b m = m
after_action add Execute b m = m
after_action add Ignore b m = m
after_action add Print b m = m
after_action add Put b m = m
after_action add Unhook b m = m

-- the calls of an action
abbrev pub action_calls : {A : Type 0} → AccumulatorStep A → Action → ℕ → Machine A → List Call
action_calls add Print b m = print b ∷ []
action_calls add Execute b m = execute b ∷ []
action_calls add Put b m = put b ∷ []
action_calls add Unhook b m = unhook ∷ []
action_calls add Hook b m = dispatched hook b (with_last_field m) ∷ []
action_calls add CsiDispatch b m = dispatched csi_dispatch b (with_last_field m) ∷ []
action_calls add EscDispatch b m = esc_dispatch m.collected m.ignoring b ∷ []
action_calls add OscEnd b m = osc_dispatch (with_part m).closed_parts (b == bell) ∷ []
action_calls add BeginUtf8 b m = print_answer (add m.accumulator b).1
action_calls add Nop b m = []
action_calls add Clear b m = []
action_calls add Collect b m = []
action_calls add Ignore b m = []
action_calls add OscPut b m = []
action_calls add OscStart b m = []
action_calls add Param b m = []

-- what is done on the way out of a state, and into one
abbrev pub exit_action : State → Action
exit_action DcsPassthrough = Unhook
exit_action OscString = OscEnd
exit_action _ = Nop

abbrev pub entry_action : State → Action
entry_action Escape = Clear
entry_action CsiEntry = Clear
entry_action DcsEntry = Clear
entry_action DcsPassthrough = Hook
entry_action OscString = OscStart
entry_action _ = Nop

-- A change of state: exit, action, entry, in this order. Anywhere keeps the state, with
-- no exit and no entry.
abbrev pub after_change : {A : Type 0} → AccumulatorStep A → State → Action → ℕ → Machine A → Machine A
after_change add Anywhere action b m = after_action add action b m
after_change add state action b m =
    let left = after_action add (exit_action m.state) b m in
    record (after_action add (entry_action state) b (after_action add action b left)) { state = state }

abbrev pub change_calls : {A : Type 0} → AccumulatorStep A → State → Action → ℕ → Machine A → List Call
change_calls add Anywhere action b m = action_calls add action b m
change_calls add state action b m =
    let left = after_action add (exit_action m.state) b m in
    action_calls add (exit_action m.state) b m
    ++ (action_calls add action b left ++ action_calls add (entry_action state) b (after_action add action b left))

-- in the state Utf8 the byte is the accumulator's, and a character leads back to Ground
abbrev pub state_after_answer : Taken → State
state_after_answer More = Utf8
state_after_answer (Char c) = Ground
state_after_answer (Broken c) = Ground

abbrev pub after_continuation : {A : Type 0} → AccumulatorStep A → ℕ → Machine A → Machine A
after_continuation add b m =
    record m { accumulator = (add m.accumulator b).0; state = state_after_answer (add m.accumulator b).1 }

-- the byte broke a character
abbrev pub IsBroken : Taken → Type 0
IsBroken (Broken c) = ⊤
IsBroken answer = ⊥

-- then it is handled once more, in Ground
abbrev pub after_answer : {A : Type 0} → AccumulatorStep A → Taken → ℕ → Machine A → Machine A
after_answer add (Broken c) b m = after_change add (change_at Ground b).state (change_at Ground b).action b m
after_answer add answer b m = m

abbrev pub answer_calls : {A : Type 0} → AccumulatorStep A → Taken → ℕ → Machine A → List Call
answer_calls add (Broken c) b m = print c ∷ change_calls add (change_at Ground b).state (change_at Ground b).action b m
answer_calls add answer b m = print_answer answer

-- one byte
abbrev pub step_from : {A : Type 0} → AccumulatorStep A → State → ℕ → Machine A → Machine A
step_from add Utf8 b m = after_answer add (add m.accumulator b).1 b (after_continuation add b m)
step_from add state b m = after_change add (change_at state b).state (change_at state b).action b m

abbrev pub step_calls_from : {A : Type 0} → AccumulatorStep A → State → ℕ → Machine A → List Call
step_calls_from add Utf8 b m = answer_calls add (add m.accumulator b).1 b (after_continuation add b m)
step_calls_from add state b m = change_calls add (change_at state b).state (change_at state b).action b m

unfoldable pub step : {A : Type 0} → AccumulatorStep A → ℕ → Machine A → Machine A
step add b m = step_from add m.state b m

unfoldable pub step_calls : {A : Type 0} → AccumulatorStep A → ℕ → Machine A → List Call
step_calls add b m = step_calls_from add m.state b m

-- one byte after another
abbrev pub machine_after : {A : Type 0} → AccumulatorStep A → List ℕ → Machine A → Machine A
machine_after add [] m = m
machine_after add (b ∷ bytes) m = machine_after add bytes (step add b m)

abbrev pub machine_calls : {A : Type 0} → AccumulatorStep A → List ℕ → Machine A → List Call
machine_calls add [] m = []
machine_calls add (b ∷ bytes) m = step_calls add b m ++ machine_calls add bytes (step add b m)
