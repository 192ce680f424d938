-- Runs one after another, and the runs of each kind of bytes.
use Rattle.std.proofs.Common.{◌≡◌, ℕ, ◌+◌, ◌<◌, ◌≤◌, ◌⊎◌, arith, Bool, IsTrue, cond, eqb, refl, List, length, length-append, [], ◌∷◌, ◌++◌, ⊎_elim, inl, map, take, drop, ap, sym, ◌∙◌, subst, append_assoc}
use Rattle.std.specs.Prelude.{true, false, nat_le, not, ◌&&◌, ◌||◌}
use Rattle.std.specs.List.{range_with_len}
use Rattle.std.proofs.lemmas.List.{length-take-le, take-append-le, take-append-drop}
use Rattle.std.proofs.lemmas.Bool.{cond-true, cond_both, and_from, and_parts, eqb-true, leb-true, le-leb, or_cases}
use Rattle.anstyle_parse.specs.declared.state.definitions.State.{State}
use Rattle.anstyle_parse.specs.declared.state.definitions.State.TheVariants.{Anywhere, CsiEntry, CsiIgnore, CsiParam, DcsEntry, DcsIgnore, DcsPassthrough, Escape, Ground, OscString, SosPmApcString, Utf8}
use Rattle.anstyle_parse.specs.declared.state.definitions.Action.{Action}
use Rattle.anstyle_parse.specs.declared.state.definitions.Action.TheVariants.{BeginUtf8, Collect, CsiDispatch, EscDispatch, Execute, Nop, OscPut, Param}
use Rattle.anstyle_parse.specs.declared.utf8.Taken.{Taken}
use Rattle.anstyle_parse.specs.declared.utf8.Taken.TheVariants.{More}
use Rattle.anstyle_parse.specs.declared.parser.Parser.{Parser}
use Rattle.anstyle_parse.specs.declared.parser.runs.Run.{Run}
use Rattle.anstyle_parse.specs.declared.parser.runs.Run.TheVariants.{Printed, OfHookedString, OfIgnoredString, OfIgnoredHeader}
use Rattle.anstyle_parse.specs.Stream.Bytes.{is_within, is_parameter, is_marker, is_final, is_cancel, colon, semicolon}
use Rattle.anstyle_parse.specs.Stream.Characters.{is_lead}
use Rattle.anstyle_parse.specs.Stream.Arguments.{max_fields, max_osc_bytes, max_osc_parts}
use Rattle.anstyle_parse.specs.Stream.Call.{Call, Goes, print}
use Rattle.anstyle_parse.specs.Machine.Table.{Change, ◌by◌, change_at}
use Rattle.anstyle_parse.specs.Machine.Step.{Machine, AccumulatorStep, Completes, IsWhole, print_answer, state_after_answer, after_answer, answer_calls, after_change, change_calls, after_clear, field_count, after_param, stored_count, after_osc_put, step, step_calls, machine_after, machine_calls}
use Rattle.anstyle_parse.specs.Views.Parser.{machine_of, CanTakeAll}
use Rattle.anstyle_parse.specs.Stream.Items.{EachIs}
use Rattle.anstyle_parse.specs.Views.Runs.{LeadsTo, Takes, LeadsQuietlyTo, KeepsTo, begins_nothing, is_of_command, is_of_run, run_action, run_calls, AreMade}
use Rattle.anstyle_parse.specs.Views.Stage.{stage}
use Rattle.anstyle_parse.specs.Views.Steps.{Steps}
use Rattle.anstyle_parse.proofs.Agreement.Whole.{machine_after-append, machine_calls-append}
use Rattle.anstyle_parse.proofs.Bytes.Passing.{EachIs-append}
use Rattle.anstyle_parse.proofs.Machine.Steps.{Goes-append, after_change-moves, step-at, step_calls-at, step-outside, step_calls_from-outside}
use Rattle.anstyle_parse.proofs.Machine.Table.{same_below}
use Rattle.anstyle_parse.proofs.Streams.{CanTakeAll-rest}

-- a chunk and what is after it are the whole
pub chunk_and_rest : (n : ℕ) (whole chunk behind : List ℕ) → chunk ≡ take n whole → behind ≡ drop n whole → whole ≡ chunk ++ behind
chunk_and_rest n whole chunk behind front back =
    sym (ap (λ xs. xs ++ behind) front ∙ ap (λ ys. take n whole ++ ys) back ∙ take-append-drop n whole)

pub front_of_chunk : (n count : ℕ) (whole chunk : List ℕ) → chunk ≡ take n whole → count ≤ length chunk → take count whole ≡ take count chunk
front_of_chunk n count whole chunk front within =
    ap (take count) (chunk_and_rest n whole chunk (drop n whole) front refl) ∙ take-append-le count chunk (drop n whole) within

pub length-first_chunk : (n : ℕ) (whole chunk behind : List ℕ) → chunk ≡ take n whole → length behind + n ≡ length whole → length chunk ≡ n
length-first_chunk n whole chunk behind front room = ap length front ∙ length-take-le n whole (omega (arith, room))

-- a state gives the bytes that pass a test one answer, where that computes below 256
change_at-where : (state : State) (test : ℕ → Bool) (answer : Change) → (b : ℕ) → b < 0x100 → IsTrue (test b)
    → map (λ n. cond (test n) (change_at state n) answer) (range_with_len 0 0x100) ≡ map (λ n. answer) (range_with_len 0 0x100)
    → change_at state b ≡ answer
change_at-where state test answer b small passes same =
    sym (cond-true (test b) (change_at state b) answer passes)
    ∙ same_below (λ n. cond (test n) (change_at state n) answer) (λ n. answer) 0x100 b same small

-- the same where the test passes nothing from 100 on
pub change_at-within : (state : State) (low high : ℕ) (answer : Change) → high < 0x100 → (b : ℕ) → IsTrue (is_within low high b)
    → map (λ n. cond (is_within low high n) (change_at state n) answer) (range_with_len 0 0x100) ≡ map (λ n. answer) (range_with_len 0 0x100)
    → change_at state b ≡ answer
unfolding is_within
change_at-within state low high answer small b within same =
    let below = leb-true b high (and_parts (nat_le low b) (nat_le b high) within).1 in
    change_at-where state (is_within low high) answer b (omega arith) within same

-- the runs of each state
pub KeepsTo-printed : (state : State) → state ≡ Ground → KeepsTo Printed state
unfolding change_at is_within
KeepsTo-printed state is =
    let Q : State → Type 0 = λ s. KeepsTo Printed s in
    subst Q (sym is) ((λ h. absurd (cc)), λ b within. change_at-within Ground 0x20 0x7F (Anywhere by run_action Printed) (omega arith) b within refl)

pub KeepsTo-hooked : (state : State) → state ≡ DcsPassthrough → KeepsTo OfHookedString state
unfolding change_at is_within
KeepsTo-hooked state is =
    let Q : State → Type 0 = λ s. KeepsTo OfHookedString s in
    subst Q (sym is) ((λ h. absurd (cc)), λ b within. change_at-within DcsPassthrough 0x20 0x7E (Anywhere by run_action OfHookedString) (omega arith) b within refl)

pub KeepsTo-string : (state : State) → (state ≡ SosPmApcString) ⊎ (state ≡ DcsIgnore) → KeepsTo OfIgnoredString state
unfolding change_at is_within
KeepsTo-string state is =
    let Q : State → Type 0 = λ s. KeepsTo OfIgnoredString s in
    ⊎_elim
    (λ e. subst Q (sym e) ((λ h. absurd (cc)), λ b within. change_at-within SosPmApcString 0x20 0x7F (Anywhere by run_action OfIgnoredString) (omega arith) b within refl))
    (λ e. subst Q (sym e) ((λ h. absurd (cc)), λ b within. change_at-within DcsIgnore 0x20 0x7F (Anywhere by run_action OfIgnoredString) (omega arith) b within refl))
    is

pub KeepsTo-header : (state : State) → state ≡ CsiIgnore → KeepsTo OfIgnoredHeader state
unfolding change_at is_within
KeepsTo-header state is =
    let Q : State → Type 0 = λ s. KeepsTo OfIgnoredHeader s in
    subst Q (sym is) ((λ h. absurd (cc)), λ b within. change_at-within CsiIgnore 0x20 0x3F (Anywhere by run_action OfIgnoredHeader) (omega arith) b within refl)

module _ {A : Type 0} (adds : AccumulatorStep A) (m : Machine A) (b : ℕ) where
  -- a step by the table's answer
  pub step-by : (answer : Change) → (m.state ≡ Utf8 → ⊥) → change_at m.state b ≡ answer
      → (step adds b m ≡ after_change adds answer.state answer.action b m) × (step_calls adds b m ≡ change_calls adds answer.state answer.action b m)
  step-by answer outside is = (
    step-outside adds b m outside ∙ ap (λ (a : Change). after_change adds a.state a.action b m) is,
    step_calls-at adds m.state b m refl ∙ step_calls_from-outside adds m.state b m outside ∙ ap (λ (a : Change). change_calls adds a.state a.action b m) is,
  )

  -- a byte of a run
  pub step-run : (run : Run) → KeepsTo run m.state → IsTrue (is_of_run run b) → (step adds b m ≡ m) × (step_calls adds b m ≡ run_calls run b)
  step-run Printed keeps within = step-by (Anywhere by run_action Printed) keeps.0 (keeps.1 b within)
  step-run OfHookedString keeps within = step-by (Anywhere by run_action OfHookedString) keeps.0 (keeps.1 b within)
  step-run OfIgnoredString keeps within = step-by (Anywhere by run_action OfIgnoredString) keeps.0 (keeps.1 b within)
  step-run OfIgnoredHeader keeps within = step-by (Anywhere by run_action OfIgnoredHeader) keeps.0 (keeps.1 b within)

-- a change of state that the table answers to a byte
pub Steps-by : {C P : Type 0} (adds : AccumulatorStep C) (means : P → Call → P → Type 0) (old new : Parser C) (before after : P) (b : ℕ) (answer : Change)
    → (old.state ≡ Utf8 → ⊥) → change_at old.state b ≡ answer
    → machine_of new ≡ after_change adds answer.state answer.action b (machine_of old)
    → Goes means before (change_calls adds answer.state answer.action b (machine_of old)) after → Steps adds means b old before new after
Steps-by adds means old new before after b answer outside known changed goes =
    let stepped = step-by adds (machine_of old) b answer outside known in
    let Q : List Call → Type 0 = λ calls. Goes means before calls after in
    record { machine = changed ∙ sym stepped.0; calls = subst Q (sym stepped.1) goes }

-- the answers of Ground to ESC, of Escape to [, and of a header to its final byte
pub change_at-escape : (state : State) (b : ℕ) → state ≡ Ground → b ≡ 0x1B → change_at state b ≡ (Escape by Nop)
unfolding change_at is_within
change_at-escape state b is byte =
    ap (λ s. change_at s b) is ∙ ap (λ n. change_at Ground n) byte

-- of Ground to a control, and of Escape to the end of a string and to the beginning of a command
pub change_at-control : (state : State) (b : ℕ) → state ≡ Ground → b < 0x18 → change_at state b ≡ (Anywhere by Execute)
unfolding change_at is_within
change_at-control state b is low =
    ap (λ s. change_at s b) is
    ∙ change_at-within Ground 0x00 0x17 (Anywhere by Execute) (omega arith) b
    (and_from (nat_le 0x00 b) (nat_le b 0x17) (le-leb 0x00 b (omega arith)) (le-leb b 0x17 (omega arith))) refl

pub change_at-string_end : (state : State) (b : ℕ) → state ≡ Escape → b ≡ 0x5C → change_at state b ≡ (Ground by EscDispatch)
unfolding change_at is_within
change_at-string_end state b is byte =
    ap (λ s. change_at s b) is ∙ ap (λ n. change_at Escape n) byte

pub change_at-command : (state : State) (b : ℕ) → state ≡ Escape → b ≡ 0x5D → change_at state b ≡ (OscString by Nop)
unfolding change_at is_within
change_at-command state b is byte =
    ap (λ s. change_at s b) is ∙ ap (λ n. change_at Escape n) byte

-- of Escape to the beginning of a device control string, of this to what hooks it, and of a hooked one to its end
pub change_at-device : (state : State) (b : ℕ) → state ≡ Escape → b ≡ 0x50 → change_at state b ≡ (DcsEntry by Nop)
unfolding change_at is_within
change_at-device state b is byte =
    ap (λ s. change_at s b) is ∙ ap (λ n. change_at Escape n) byte

pub change_at-device_final : (state : State) (b : ℕ) → state ≡ DcsEntry → IsTrue (is_final b) → change_at state b ≡ (DcsPassthrough by Nop)
unfolding change_at is_within is_final
change_at-device_final state b is final =
    ap (λ s. change_at s b) is ∙ change_at-within DcsEntry 0x40 0x7E (DcsPassthrough by Nop) (omega arith) b final refl

pub change_at-hooked_escape : (state : State) (b : ℕ) → state ≡ DcsPassthrough → b ≡ 0x1B → change_at state b ≡ (Escape by Nop)
unfolding change_at is_within
change_at-hooked_escape state b is byte =
    ap (λ s. change_at s b) is ∙ ap (λ n. change_at DcsPassthrough n) byte

-- the answers of a command to its ends
pub change_at-command_escape : (state : State) (b : ℕ) → state ≡ OscString → b ≡ 0x1B → change_at state b ≡ (Escape by Nop)
unfolding change_at is_within
change_at-command_escape state b is byte =
    ap (λ s. change_at s b) is ∙ ap (λ n. change_at OscString n) byte

pub change_at-command_bell : (state : State) (b : ℕ) → state ≡ OscString → b ≡ 0x07 → change_at state b ≡ (Ground by Nop)
unfolding change_at is_within
change_at-command_bell state b is byte =
    ap (λ s. change_at s b) is ∙ ap (λ n. change_at OscString n) byte

pub change_at-introducer : (state : State) (b : ℕ) → state ≡ Escape → b ≡ 0x5B → change_at state b ≡ (CsiEntry by Nop)
unfolding change_at is_within
change_at-introducer state b is byte =
    ap (λ s. change_at s b) is ∙ ap (λ n. change_at Escape n) byte

pub change_at-nothing : (state : State) (b : ℕ) → state ≡ Ground → IsTrue (is_within 0x9D 0xC1 b || is_within 0xF5 0xFF b) → change_at state b ≡ (Anywhere by Nop)
unfolding change_at is_within
change_at-nothing state b is nothing =
    ap (λ s. change_at s b) is
    ∙ ⊎_elim
    (λ low. change_at-within Ground 0x9D 0xC1 (Anywhere by Nop) (omega arith) b low refl)
    (λ high. change_at-within Ground 0xF5 0xFF (Anywhere by Nop) (omega arith) b high refl)
    (or_cases (is_within 0x9D 0xC1 b) (is_within 0xF5 0xFF b) nothing)

pub change_at-final : (state : State) (b : ℕ) → (state ≡ CsiEntry) ⊎ (state ≡ CsiParam) → IsTrue (is_final b) → change_at state b ≡ (Ground by CsiDispatch)
unfolding change_at is_within is_final
change_at-final state b is final =
    ⊎_elim
    (λ e. ap (λ s. change_at s b) e ∙ change_at-within CsiEntry 0x40 0x7E (Ground by CsiDispatch) (omega arith) b final refl)
    (λ e. ap (λ s. change_at s b) e ∙ change_at-within CsiParam 0x40 0x7E (Ground by CsiDispatch) (omega arith) b final refl)
    is

-- and to a control: CAN and SUB cancel it, those below ESC are executed else
pub change_at-cancel : (state : State) (b : ℕ) → (state ≡ CsiEntry) ⊎ (state ≡ CsiParam) → is_cancel b ≡ true → change_at state b ≡ (Ground by Execute)
unfolding change_at is_within is_cancel
change_at-cancel state b is cancel =
    ⊎_elim
    (λ can. ap (λ n. change_at state n) (eqb-true b 0x18 can) ∙ ⊎_elim (λ e. ap (λ s. change_at s 0x18) e) (λ e. ap (λ s. change_at s 0x18) e) is)
    (λ sub. ap (λ n. change_at state n) (eqb-true b 0x1A sub) ∙ ⊎_elim (λ e. ap (λ s. change_at s 0x1A) e) (λ e. ap (λ s. change_at s 0x1A) e) is)
    (or_cases (eqb b 0x18) (eqb b 0x1A) cancel)

pub change_at-executed : (state : State) (b : ℕ) → (state ≡ CsiEntry) ⊎ (state ≡ CsiParam) → b < 0x1B → is_cancel b ≡ false → change_at state b ≡ (Anywhere by Execute)
unfolding change_at is_within is_cancel
change_at-executed state b is low other =
    let test : ℕ → Bool = λ n. nat_le n 0x1A && not (is_cancel n) in
    let passes : IsTrue (test b) = and_from (nat_le b 0x1A) (not (is_cancel b)) (le-leb b 0x1A (omega (arith, low))) (ap not other) in
    ⊎_elim
    (λ e. ap (λ s. change_at s b) e ∙ change_at-where CsiEntry test (Anywhere by Execute) b (omega (arith, low)) passes refl)
    (λ e. ap (λ s. change_at s b) e ∙ change_at-where CsiParam test (Anywhere by Execute) b (omega (arith, low)) passes refl)
    is

pub change_at-marker : (state : State) (b : ℕ) → state ≡ CsiEntry → IsTrue (is_marker b) → change_at state b ≡ (CsiParam by Collect)
unfolding change_at is_within is_marker
change_at-marker state b is marker =
    ap (λ s. change_at s b) is ∙ change_at-within CsiEntry 0x3C 0x3F (CsiParam by Collect) (omega arith) b marker refl

-- ESC in Ground and then [: both clear the header, and neither makes a call
module _ {A : Type 0} (adds : AccumulatorStep A) (m : Machine A) where
  abbrev cleared : State → Machine A
  cleared state = record (after_clear m) { state = state }

  escaped : m.state ≡ Ground → (step adds 0x1B m ≡ cleared Escape) × (step_calls adds 0x1B m ≡ [])
  escaped ground =
      let same : record m { state = Ground } ≡ m = ap (λ (s : State). let r : Machine A = record m { state = s } in r) (sym ground) in
      let Q : Machine A → Type 0 = λ x. (step adds 0x1B x ≡ cleared Escape) × (step_calls adds 0x1B x ≡ []) in
      subst Q same (step-by adds (record m { state = Ground }) 0x1B (Escape by Nop) (λ h. absurd (cc)) (change_at-escape Ground 0x1B refl refl))

  introduced : (step adds 0x5B (cleared Escape) ≡ cleared CsiEntry) × (step_calls adds 0x5B (cleared Escape) ≡ [])
  introduced = step-by adds (cleared Escape) 0x5B (CsiEntry by Nop) (λ h. absurd (cc)) (change_at-introducer Escape 0x5B refl refl)

  pub step-escaped : m.state ≡ Ground → step adds 0x1B m ≡ cleared Escape
  step-escaped ground = (escaped ground).0

  pub step-introduced : m.state ≡ Ground → step adds 0x5B (step adds 0x1B m) ≡ cleared CsiEntry
  step-introduced ground = ap (λ x. step adds 0x5B x) (escaped ground).0 ∙ introduced.0

  pub calls-introduced : m.state ≡ Ground → (step_calls adds 0x1B m ≡ []) × (step_calls adds 0x5B (step adds 0x1B m) ≡ [])
  calls-introduced ground = ((escaped ground).1, ap (λ x. step_calls adds 0x5B x) (escaped ground).0 ∙ introduced.1)

abbrev same_state : {A : Type 0} → Machine A → Machine A → Type 0
same_state m n = n.state ≡ m.state

-- a field's byte leaves the state
pub state-with_parameter : {A : Type 0} (b : ℕ) (m : Machine A) → (after_param b m).state ≡ m.state
state-with_parameter b m =
    cond_both (eqb (field_count m) max_fields) _ _ (same_state m) (λ _. refl)
    (λ _. cond_both (eqb b semicolon) _ _ (same_state m) (λ _. refl)
    (λ _. cond_both (eqb b colon) _ _ (same_state m) (λ _. refl) (λ _. refl)))

module _ {A : Type 0} (adds : AccumulatorStep A) (b : ℕ) where
  -- the state after a change to one
  pub state-by : (m : Machine A) (state : State) (action : Action) → (m.state ≡ Utf8 → ⊥) → (state ≡ Anywhere → ⊥) → change_at m.state b ≡ (state by action)
      → (step adds b m).state ≡ state
  state-by m state action outside moves is =
      ap (λ (x : Machine A). x.state) ((step-by adds m b (state by action) outside is).0 ∙ after_change-moves adds state action b m moves)

  -- ESC in Ground
  pub state-escape : (old new : Parser A) → old.state ≡ Ground → b ≡ 0x1B → machine_of new ≡ step adds b (machine_of old) → new.state ≡ Escape
  state-escape old new ground escape stepped =
      ap (λ (x : Machine A). x.state) stepped
      ∙ state-by (machine_of old) Escape Nop (λ h. absurd (cc (ground, h))) (λ h. absurd (cc)) (change_at-escape old.state b ground escape)

  -- a field's byte in a header that has one, and in one that may be empty so far
  pub step-field : (m : Machine A) → m.state ≡ CsiParam → IsTrue (is_parameter b) → (step adds b m ≡ after_param b m) × (step_calls adds b m ≡ [])
  unfolding change_at is_within is_parameter
  step-field m is parameter =
      step-by adds m b (Anywhere by Param) (λ h. absurd (cc (is, h)))
      (ap (λ s. change_at s b) is ∙ change_at-within CsiParam 0x30 0x3B (Anywhere by Param) (omega arith) b parameter refl)

  InHeader : Machine A → Type 0
  InHeader m = (step adds b m ≡ record (after_param b m) { state = CsiParam }) × (step_calls adds b m ≡ [])

  first-field : (m : Machine A) → IsTrue (is_parameter b) → InHeader (record m { state = CsiEntry })
  unfolding change_at is_within is_parameter InHeader
  first-field m parameter =
      step-by adds (record m { state = CsiEntry }) b (CsiParam by Param) (λ h. absurd (cc))
      (change_at-within CsiEntry 0x30 0x3B (CsiParam by Param) (omega arith) b parameter refl)

  pub step-parameter : (m : Machine A) → (m.state ≡ CsiEntry) ⊎ (m.state ≡ CsiParam) → IsTrue (is_parameter b)
      → (step adds b m ≡ record (after_param b m) { state = CsiParam }) × (step_calls adds b m ≡ [])
  unfolding InHeader
  step-parameter m is parameter =
      ⊎_elim
      (λ e.
      let same : record m { state = CsiEntry } ≡ m = ap (λ (s : State). let r : Machine A = record m { state = s } in r) (sym e) in
      subst InHeader same (first-field m parameter))
      (λ e.
      let stepped = step-field m e parameter in
      let x = after_param b m in
      (stepped.0 ∙ ap (λ (s : State). let r : Machine A = record x { state = s } in r) (state-with_parameter b m ∙ e), stepped.1))
      is

  -- a byte of a command's text
  pub step-stored : (m : Machine A) → m.state ≡ OscString → 0x20 ≤ b → b < 0x100 → (step adds b m ≡ after_osc_put b m) × (step_calls adds b m ≡ [])
  unfolding change_at is_within
  step-stored m is low high =
      step-by adds m b (Anywhere by OscPut) (λ h. absurd (cc (is, h)))
      (ap (λ s. change_at s b) is
      ∙ change_at-within OscString 0x20 0xFF (Anywhere by OscPut) (omega arith) b
      (and_from (nat_le 0x20 b) (nat_le b 0xFF) (le-leb 0x20 b low) (le-leb b 0xFF (omega arith))) refl)

pub command_text : (b : ℕ) → 0x20 ≤ b → b < 0x100 → IsTrue (is_of_command b)
unfolding is_within
command_text b low high = and_from (nat_le 0x20 b) (nat_le b 0xFF) (le-leb 0x20 b low) (le-leb b 0xFF (omega arith))

pub state-storing : {A : Type 0} (b : ℕ) (m : Machine A) → (after_osc_put b m).state ≡ m.state
state-storing b m =
    cond_both (eqb (stored_count m) max_osc_bytes) _ _ (same_state m) (λ _. refl)
    (λ _. cond_both (eqb b semicolon) _ _ (same_state m)
    (λ _. cond_both (eqb (length m.closed_parts) max_osc_parts) _ _ (same_state m) (λ _. refl) (λ _. refl)) (λ _. refl))

pub length-Completes : {A : Type 0} (adds : AccumulatorStep A) (before now : A) (bytes : List ℕ) (c : ℕ) (left : List ℕ) → Completes adds before now bytes c left → length left ≤ length bytes
length-Completes adds before now [] c left complete = absurd complete
length-Completes adds before now (b ∷ bytes) c left complete =
    ⊎_elim (λ last. omega (arith, ap length last.1)) (λ more. let shorter = length-Completes adds before (adds now b).0 bytes c left more.1 in omega arith) complete

-- a whole character in Ground: its bytes make one call, and leave the machine as it is
module _ {A : Type 0} (adds : AccumulatorStep A) (m : Machine A) where
  unfoldable pub reading : A → Machine A
  reading now = record m { state = Utf8; accumulator = now }

  abbrev there : A → Machine A
  there before = record m { state = Ground; accumulator = before }

  -- after a byte of the character, by what the accumulator made of it
  abbrev continued : A → Taken → Machine A
  continued value answer = record m { state = state_after_answer answer; accumulator = value }

  completed : (before now : A) (bytes : List ℕ) (c : ℕ) (left : List ℕ) → Completes adds before now bytes c left
      → (machine_after adds bytes (reading now) ≡ machine_after adds left (there before))
      × (machine_calls adds bytes (reading now) ≡ print c ∷ machine_calls adds left (there before))
  unfolding reading
  completed before now [] c left complete = absurd complete
  completed before now (b ∷ bytes) c left complete =
      let stepped = step-at adds Utf8 b (reading now) refl in
      let called = step_calls-at adds Utf8 b (reading now) refl in
      ⊎_elim
      (λ last.
      let after : step adds b (reading now) ≡ there before = stepped ∙ ap (λ (x : A × Taken). after_answer adds x.1 b (continued x.0 x.1)) last.0 in (
        ap (λ x. machine_after adds bytes x) after ∙ ap (λ l. machine_after adds l (there before)) last.1,
        ap (λ calls. calls ++ machine_calls adds bytes (step adds b (reading now))) (called ∙ ap (λ (x : A × Taken). answer_calls adds x.1 b (continued x.0 x.1)) last.0)
            ∙ ap (λ x. print c ∷ machine_calls adds bytes x) after ∙ ap (λ l. print c ∷ machine_calls adds l (there before)) last.1,
      ))
      (λ more.
      let further = completed before (adds now b).0 bytes c left more.1 in
      let after : step adds b (reading now) ≡ reading (adds now b).0 = stepped ∙ ap (λ (x : Taken). after_answer adds x b (continued (adds now b).0 x)) more.0 in (
        ap (λ x. machine_after adds bytes x) after ∙ further.0,
        ap (λ calls. calls ++ machine_calls adds bytes (step adds b (reading now))) (called ∙ ap (λ (x : Taken). answer_calls adds x b (continued (adds now b).0 x)) more.0)
            ∙ ap (λ x. machine_calls adds bytes x) after ∙ further.1,
      ))
      complete

  pub begun : (before : A) (first : ℕ) → IsTrue (is_lead first) → (adds before first).1 ≡ More
      → (step adds first (there before) ≡ reading (adds before first).0) × (step_calls adds first (there before) ≡ [])
  unfolding reading change_at is_within is_lead
  begun before first lead none =
      let answer = change_at-within Ground 0xC2 0xF4 (Utf8 by BeginUtf8) (omega arith) first lead refl in
      let given = step-by adds (there before) first (Utf8 by BeginUtf8) (λ h. absurd (cc)) answer in
      (given.0, given.1 ∙ ap (λ (x : Taken). print_answer x ++ []) none)

  PrintsOne : List ℕ → List ℕ → ℕ → Machine A → Type 0
  PrintsOne bytes left c x = (machine_after adds left x ≡ machine_after adds bytes x) × (machine_calls adds bytes x ≡ print c ∷ machine_calls adds left x)

  pub whole-taken : (first : ℕ) (behind : List ℕ) (c : ℕ) (left : List ℕ) → m.state ≡ Ground → IsWhole adds m.accumulator first behind c left
      → (machine_after adds left m ≡ machine_after adds (first ∷ behind) m) × (machine_calls adds (first ∷ behind) m ≡ print c ∷ machine_calls adds left m)
  unfolding PrintsOne
  whole-taken first behind c left ground whole =
      let first_step = begun m.accumulator first whole.0 whole.1 in
      let others = completed m.accumulator (adds m.accumulator first).0 behind c left whole.2 in
      let same : there m.accumulator ≡ m = ap (λ (s : State). let r : Machine A = record m { state = s } in r) (sym ground) in
      subst (PrintsOne (first ∷ behind) left c) same (
        sym (ap (λ x. machine_after adds behind x) first_step.0 ∙ others.0),
        ap (λ calls. calls ++ machine_calls adds behind (step adds first (there m.accumulator))) first_step.1
            ∙ ap (λ x. machine_calls adds behind x) first_step.0 ∙ others.1,
      )

module _ {C P : Type 0} (takes : C → ℕ → Type 0) (adds : AccumulatorStep C) (means : P → Call → P → Type 0) where
  pub LeadsTo-same : (parser : Parser C) (performer : P) (bytes : List ℕ) → CanTakeAll takes parser bytes → LeadsTo takes adds means (stage parser performer bytes) (stage parser performer bytes)
  LeadsTo-same parser performer bytes can = record { can = can; machine = refl; made = []; joined = refl; performed = refl; within = omega arith }

  -- a run after a run
  pub LeadsTo-trans : {p q r : Parser C} {a b c : P} {xs ys zs : List ℕ}
      → LeadsTo takes adds means (stage p a xs) (stage q b ys) → LeadsTo takes adds means (stage q b ys) (stage r c zs) → LeadsTo takes adds means (stage p a xs) (stage r c zs)
  LeadsTo-trans {a = a} {b = b} {c = c} first second = record {
    can = second.can;
    machine = second.machine ∙ first.machine;
    made = first.made ++ second.made;
    joined = first.joined ∙ ap (λ calls. first.made ++ calls) second.joined ∙ sym (append_assoc first.made second.made _);
    performed = Goes-append means a b c first.made second.made first.performed second.performed;
    within = omega (arith, first.within, second.within);
  }

  -- a run of what is left, written out in another way
  pub LeadsTo-first : {p q r : Parser C} {a b c : P} {xs ys zs left : List ℕ} → ys ≡ left
      → LeadsTo takes adds means (stage p a xs) (stage q b ys) → (CanTakeAll takes q left → LeadsTo takes adds means (stage q b left) (stage r c zs)) → LeadsTo takes adds means (stage p a xs) (stage r c zs)
  LeadsTo-first {p = p} {q = q} {a = a} {b = b} {xs = xs} same first second =
      let S : List ℕ → Type 0 = λ l. LeadsTo takes adds means (stage p a xs) (stage q b l) in
      let begun = subst S same first in
      LeadsTo-trans begun (second begun.can)

  -- one byte, as the machine takes it
  pub LeadsTo-byte : (old new : Parser C) (before after : P) (b : ℕ) (left : List ℕ) → CanTakeAll takes old (b ∷ left)
      → Steps adds means b old before new after → LeadsTo takes adds means (stage old before (b ∷ left)) (stage new after left)
  LeadsTo-byte old new before after b left can steps = record {
    can = CanTakeAll-rest takes adds old new b left steps.machine can;
    machine = ap (λ m. machine_after adds left m) steps.machine;
    made = step_calls adds b (machine_of old);
    joined = ap (λ m. step_calls adds b (machine_of old) ++ machine_calls adds left m) (sym steps.machine);
    performed = steps.calls;
    within = omega arith;
  }

  -- a byte after a byte
  pub LeadsTo-bytes : (p q r : Parser C) (x y z : P) (a b : ℕ) (behind left : List ℕ) → CanTakeAll takes p (a ∷ behind) → behind ≡ b ∷ left
      → Steps adds means a p x q y → Steps adds means b q y r z
      → LeadsTo takes adds means (stage p x (a ∷ behind)) (stage r z left)
  LeadsTo-bytes p q r x y z a b behind left can same first second =
      LeadsTo-first same (LeadsTo-byte p q x y a behind can first) (λ further. LeadsTo-byte q r y z b left further second)

  -- ESC and [, which make no call
  pub LeadsTo-introduced : (old new : Parser C) (performer : P) (a b : ℕ) (behind left : List ℕ) → CanTakeAll takes old (a ∷ behind) → behind ≡ b ∷ left
      → old.state ≡ Ground → a ≡ 0x1B → b ≡ 0x5B → machine_of new ≡ step adds 0x5B (step adds 0x1B (machine_of old))
      → LeadsTo takes adds means (stage old performer (a ∷ behind)) (stage new performer left)
  LeadsTo-introduced old new performer a b behind left can same ground escape bracket is =
      let m = machine_of old in
      let calls = calls-introduced adds m ground in
      let between : Parser C = record new { state = Escape } in
      let clear : machine_of new ≡ record (after_clear m) { state = CsiEntry } = is ∙ step-introduced adds m ground in
      let first : machine_of between ≡ step adds 0x1B m =
      ap (λ (x : Machine C). let r : Machine C = record x { state = Escape } in r) clear ∙ sym (step-escaped adds m ground) in
      let first_at : machine_of between ≡ step adds a m = first ∙ ap (λ n. step adds n m) (sym escape) in
      let second : machine_of new ≡ step adds b (machine_of between) =
      is ∙ (ap (λ n. step adds n (step adds 0x1B m)) (sym bracket) ∙ ap (λ x. step adds b x) (sym first)) in
      let S : List Call → Type 0 = λ made. Goes means performer made performer in
      LeadsTo-bytes old between new performer performer performer a b behind left can same
      (record { machine = first_at; calls = subst S (sym (ap (λ n. step_calls adds n m) escape ∙ calls.0)) refl })
      (record {
        machine = second;
        calls = subst S (sym (ap (λ n. step_calls adds n (machine_of between)) bracket ∙ (ap (λ x. step_calls adds 0x5B x) first ∙ calls.1))) refl;
      })

  pub Takes-byte : (old new : Parser C) (before after : P) (b : ℕ) (left : List ℕ) → CanTakeAll takes old (b ∷ left)
      → Steps adds means b old before new after → Takes takes adds means (stage old before (b ∷ left)) (stage new after left)
  Takes-byte old new before after b left can steps =
      record { leads = LeadsTo-byte old new before after b left can steps; some = omega arith }

  -- bytes of which each leaves the machine as it is
  module _ (parser : Parser C) (test : ℕ → Bool) (calls_of : ℕ → List Call)
      (each : (b : ℕ) → IsTrue (test b) → (step adds b (machine_of parser) ≡ machine_of parser) × (step_calls adds b (machine_of parser) ≡ calls_of b)) where
    pub LeadsTo-kept : (before after : P) (b : ℕ) (left : List ℕ) → CanTakeAll takes parser (b ∷ left)
        → IsTrue (test b) → Goes means before (calls_of b) after → LeadsTo takes adds means (stage parser before (b ∷ left)) (stage parser after left)
    LeadsTo-kept before after b left can passing goes =
        let S : List Call → Type 0 = λ calls. Goes means before calls after in
        LeadsTo-byte parser parser before after b left can
        (record { machine = sym (each b passing).0; calls = subst S (sym (each b passing).1) goes })

    pub LeadsTo-all_kept : (before after : P) (bytes left : List ℕ) → CanTakeAll takes parser (bytes ++ left)
        → EachIs test bytes → AreMade means calls_of before bytes after → LeadsTo takes adds means (stage parser before (bytes ++ left)) (stage parser after left)
    LeadsTo-all_kept before after [] left can passing goes =
        let S : P → Type 0 = λ p. LeadsTo takes adds means (stage parser before left) (stage parser p left) in
        subst S (sym goes) (LeadsTo-same parser before left can)
    LeadsTo-all_kept before after (b ∷ bytes) left can passing goes =
        let first = LeadsTo-kept before goes.0 b (bytes ++ left) can passing.0 goes.1 in
        LeadsTo-trans first (LeadsTo-all_kept goes.0 after bytes left first.can passing.1 goes.2)

  -- a run of a kind, one byte and a chunk
  module _ (run : Run) (parser : Parser C) (keeps : KeepsTo run parser.state) (before after : P) where
    pub LeadsTo-run : (b : ℕ) (left : List ℕ) → CanTakeAll takes parser (b ∷ left)
        → IsTrue (is_of_run run b) → Goes means before (run_calls run b) after → LeadsTo takes adds means (stage parser before (b ∷ left)) (stage parser after left)
    LeadsTo-run = LeadsTo-kept parser (λ b. is_of_run run b) (λ b. run_calls run b) (λ b. step-run adds (machine_of parser) b run keeps) before after

    pub LeadsTo-chunk : (bytes left : List ℕ) → CanTakeAll takes parser (bytes ++ left)
        → EachIs (λ b. is_of_run run b) bytes → AreMade means (λ b. run_calls run b) before bytes after
        → LeadsTo takes adds means (stage parser before (bytes ++ left)) (stage parser after left)
    LeadsTo-chunk = LeadsTo-all_kept parser (λ b. is_of_run run b) (λ b. run_calls run b) (λ b. step-run adds (machine_of parser) b run keeps) before after

    -- the front of a chunk
    pub LeadsTo-front : {p : Parser C} {first : P} {xs : List ℕ} (count : ℕ) (rest chunk few others : List ℕ)
        → chunk ≡ take 16 rest → count ≤ length chunk → EachIs (λ b. is_of_run run b) (take count chunk)
        → few ≡ take count rest → others ≡ drop count rest → AreMade means (λ b. run_calls run b) before few after
        → LeadsTo takes adds means (stage p first xs) (stage parser before rest) → LeadsTo takes adds means (stage p first xs) (stage parser after others)
    LeadsTo-front count rest chunk few others front within each taken behind made begun =
        let same : few ≡ take count chunk = taken ∙ front_of_chunk 16 count rest chunk front within in
        LeadsTo-first (chunk_and_rest count rest few others taken behind) begun
        (λ can. LeadsTo-chunk few others can (subst (EachIs (λ b. is_of_run run b)) (sym same) each) made)

  -- a whole character
  pub LeadsTo-whole : (parser : Parser C) (before after : P) (first : ℕ) (behind : List ℕ) (c : ℕ) (left : List ℕ) → CanTakeAll takes parser (first ∷ behind)
      → parser.state ≡ Ground → IsWhole adds parser.accumulator first behind c left → means before (print c) after
      → LeadsTo takes adds means (stage parser before (first ∷ behind)) (stage parser after left)
  unfolding is_lead is_within
  LeadsTo-whole parser before after first behind c left can ground whole goes =
      let taken = whole-taken adds (machine_of parser) first behind c left ground whole in
      let high : 0xC2 ≤ first = leb-true 0xC2 first (and_parts (nat_le 0xC2 first) (nat_le first 0xF4) whole.0).0 in
      record {
        can = ⊎_elim (λ all. inl all) (λ ascii. absurd (omega (arith, ascii.1.0))) can;
        machine = taken.0;
        made = print c ∷ [];
        joined = taken.1;
        performed = (after, goes, refl);
        within = omega (arith, length-Completes adds parser.accumulator (adds parser.accumulator first).0 behind c left whole.2);
      }

  -- bytes that make no call
  pub LeadsTo-quiet : {test : ℕ → Bool} (old new : Parser C) (performer : P) (bytes left : List ℕ) → LeadsQuietlyTo takes adds test old bytes new left
      → LeadsTo takes adds means (stage old performer bytes) (stage new performer left)
  LeadsTo-quiet old new performer bytes left quiet =
      let m = machine_of old in
      record {
        can = quiet.can;
        machine = ap (machine_after adds left) quiet.machine ∙ sym (machine_after-append adds quiet.passed left m)
            ∙ ap (λ l. machine_after adds l m) (sym quiet.joined);
        made = [];
        joined = ap (λ l. machine_calls adds l m) quiet.joined ∙ machine_calls-append adds quiet.passed left m
            ∙ ap (λ calls. calls ++ machine_calls adds left (machine_after adds quiet.passed m)) quiet.none
            ∙ ap (machine_calls adds left) (sym quiet.machine);
        performed = refl;
        within = omega (arith, ap length quiet.joined, length-append quiet.passed left);
      }

module _ {C : Type 0} (takes : C → ℕ → Type 0) (adds : AccumulatorStep C) (test : ℕ → Bool) where
  pub LeadsQuietlyTo-same : (parser : Parser C) (bytes : List ℕ) → CanTakeAll takes parser bytes → LeadsQuietlyTo takes adds test parser bytes parser bytes
  LeadsQuietlyTo-same parser bytes can = record { passed = []; joined = refl; each = tt; machine = refl; none = refl; can = can }

  pub LeadsQuietlyTo-trans : {p q r : Parser C} {xs ys zs : List ℕ}
      → LeadsQuietlyTo takes adds test p xs q ys → LeadsQuietlyTo takes adds test q ys r zs → LeadsQuietlyTo takes adds test p xs r zs
  LeadsQuietlyTo-trans {p = p} {zs = zs} first second =
      let m = machine_of p in
      record {
        passed = first.passed ++ second.passed;
        joined = first.joined ∙ ap (λ l. first.passed ++ l) second.joined ∙ sym (append_assoc first.passed second.passed zs);
        each = EachIs-append test first.passed second.passed first.each second.each;
        machine = second.machine ∙ ap (machine_after adds second.passed) first.machine ∙ sym (machine_after-append adds first.passed second.passed m);
        none = machine_calls-append adds first.passed second.passed m
            ∙ ap (λ calls. calls ++ machine_calls adds second.passed (machine_after adds first.passed m)) first.none
            ∙ ap (machine_calls adds second.passed) (sym first.machine) ∙ second.none;
        can = second.can;
      }

  pub LeadsQuietlyTo-first : {p q r : Parser C} {xs ys zs left : List ℕ} → ys ≡ left
      → LeadsQuietlyTo takes adds test p xs q ys → (CanTakeAll takes q left → LeadsQuietlyTo takes adds test q left r zs) → LeadsQuietlyTo takes adds test p xs r zs
  LeadsQuietlyTo-first {p = p} {q = q} {xs = xs} same first second =
      let S : List ℕ → Type 0 = λ l. LeadsQuietlyTo takes adds test p xs q l in
      let begun = subst S same first in
      LeadsQuietlyTo-trans begun (second begun.can)

  pub LeadsQuietlyTo-byte : (old new : Parser C) (b : ℕ) (left : List ℕ) → CanTakeAll takes old (b ∷ left) → IsTrue (test b)
      → machine_of new ≡ step adds b (machine_of old) → step_calls adds b (machine_of old) ≡ [] → LeadsQuietlyTo takes adds test old (b ∷ left) new left
  LeadsQuietlyTo-byte old new b left can passes stepped none = record {
    passed = b ∷ [];
    joined = refl;
    each = (passes, tt);
    machine = stepped;
    none = ap (λ calls. calls ++ []) none;
    can = CanTakeAll-rest takes adds old new b left stepped can;
  }

-- a byte that begins nothing
pub LeadsQuietlyTo-nothing : {C : Type 0} (takes : C → ℕ → Type 0) (adds : AccumulatorStep C) (parser : Parser C) (b : ℕ) (left : List ℕ)
    → CanTakeAll takes parser (b ∷ left) → parser.state ≡ Ground
    → IsTrue (begins_nothing b) → LeadsQuietlyTo takes adds begins_nothing parser (b ∷ left) parser left
LeadsQuietlyTo-nothing takes adds parser b left can ground nothing =
    let stepped = step-by adds (machine_of parser) b (Anywhere by Nop) (λ h. absurd (cc (ground, h))) (change_at-nothing parser.state b ground nothing) in
    LeadsQuietlyTo-byte takes adds begins_nothing parser parser b left can nothing (sym stepped.0) stepped.1
