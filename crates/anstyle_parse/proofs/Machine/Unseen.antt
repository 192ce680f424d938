-- Outside a character, bytes below 80 leave the accumulator aside, whatever it is.
use Rattle.std.proofs.Common.{◌≡◌, ℕ, ◌<◌, true, List, [], refl, sym, ap, ◌∙◌}
use Rattle.std.specs.List.{AllByRecursion}
use Rattle.std.proofs.lemmas.Bool.{lt-ltb}
use Rattle.anstyle_parse.specs.declared.state.definitions.State.{State}
use Rattle.anstyle_parse.specs.declared.state.definitions.State.TheVariants.{Anywhere, CsiEntry, CsiIgnore, CsiIntermediate, CsiParam, DcsEntry, DcsIgnore, DcsIntermediate, DcsParam, DcsPassthrough, Escape, EscapeIntermediate, Ground, OscString, SosPmApcString, Utf8}
use Rattle.anstyle_parse.specs.declared.state.definitions.Action.{Action}
use Rattle.anstyle_parse.specs.declared.state.definitions.Action.TheVariants.{OscEnd, OscPut, OscStart, BeginUtf8}
use Rattle.anstyle_parse.specs.Machine.Table.{Change, change_at}
use Rattle.anstyle_parse.specs.Machine.Decoder.{decoded}
use Rattle.anstyle_parse.specs.Machine.Step.{Machine, AccumulatorStep, new_machine, after_action, after_change, step, step_calls, machine_after, machine_calls}
use Rattle.anstyle_parse.specs.Views.Parser.{ReachesAccumulator, HoldsWhereReached}
use Rattle.anstyle_parse.specs.Machine.Stands.{unseen, StandsAfter}
use Rattle.anstyle_parse.proofs.Bytes.Classes.{Class, lead_byte, class_of, is_lead_at, is_lead-class, is_ascii_at, is_ascii-class}
use Rattle.anstyle_parse.proofs.Machine.Steps.{step-outside}
use Rattle.anstyle_parse.proofs.Machine.Table.{change_of, change_at-class}
use Rattle.anstyle_parse.proofs.Machine.Actions.{after_action-cleared, with_part-without_text, storing-without_text}
use Rattle.anstyle_parse.proofs.Machine.Counted.{counted_in-state}
use Rattle.anstyle_parse.proofs.Machine.Seen.{AddsAs, Seen-byte, Seen-bytes}

-- a byte of ASCII is of a class of ASCII
is_ascii_at-below : (b : ℕ) → b < 0x80 → is_ascii_at (class_of b) ≡ true
is_ascii_at-below b low = sym (is_ascii-class b) ∙ lt-ltb b 0x80 low

-- such a class begins no character
lead_not_ascii : (class : Class) → is_ascii_at class ≡ true → is_lead_at class ≡ true → ⊥
lead_not_ascii lead_byte ascii lead = cc
lead_not_ascii class ascii lead = cc

-- so a byte of ASCII reaches the accumulator only inside a character
takes-outside : (state : State) (b : ℕ) → b < 0x80 → (state ≡ Utf8 → ⊥) → ReachesAccumulator state b → ⊥
takes-outside Utf8 b low outside reaches = outside refl
takes-outside Ground b low outside reaches = lead_not_ascii (class_of b) (is_ascii_at-below b low) (sym (is_lead-class b) ∙ reaches)
takes-outside state b low outside reaches = reaches

-- and of what is asked of the accumulator where a byte reaches it nothing is asked
pub reached-outside : {A : Type 0} (holds : A → Type 0) (adds : AccumulatorStep A) (state : State) (value : A) (b : ℕ) → b < 0x80 → (state ≡ Utf8 → ⊥)
    → HoldsWhereReached holds adds state value b
reached-outside holds adds state value b low outside =
    ((λ reaches. absurd (takes-outside state b low outside reaches)), (λ inside breaks reaches. absurd (outside inside)))

-- no state goes over into a character at a class of ASCII. A line for each state, so that its answers compute.
change_of-outside : (state : State) (class : Class) → is_ascii_at class ≡ true → (change_of state class).state ≡ Utf8 → ⊥
change_of-outside Ground lead_byte ascii e = cc
change_of-outside Anywhere lead_byte ascii e = cc
change_of-outside CsiEntry lead_byte ascii e = cc
change_of-outside CsiIgnore lead_byte ascii e = cc
change_of-outside CsiIntermediate lead_byte ascii e = cc
change_of-outside CsiParam lead_byte ascii e = cc
change_of-outside DcsEntry lead_byte ascii e = cc
change_of-outside DcsIgnore lead_byte ascii e = cc
change_of-outside DcsIntermediate lead_byte ascii e = cc
change_of-outside DcsParam lead_byte ascii e = cc
change_of-outside DcsPassthrough lead_byte ascii e = cc
change_of-outside Escape lead_byte ascii e = cc
change_of-outside EscapeIntermediate lead_byte ascii e = cc
change_of-outside OscString lead_byte ascii e = cc
change_of-outside SosPmApcString lead_byte ascii e = cc
change_of-outside Utf8 lead_byte ascii e = cc
change_of-outside state class ascii e = cc

-- the table, at a byte of ASCII
change_at-outside : (state : State) (b : ℕ) → b < 0x80 → (change_at state b).state ≡ Utf8 → ⊥
change_at-outside state b low e =
    change_of-outside state (class_of b) (is_ascii_at-below b low) (ap (λ (change : Change). change.state) (sym (change_at-class state b)) ∙ e)

module _ {A : Type 0} (adds : AccumulatorStep A) (b : ℕ) where
  -- an action leaves the state
  pub state-after_action : (action : Action) (m : Machine A) → (after_action adds action b m).state ≡ m.state
  state-after_action OscStart m = refl
  state-after_action OscPut m = ap (λ (r : Machine A). r.state) (storing-without_text b m)
  state-after_action OscEnd m = ap (λ (r : Machine A). r.state) (with_part-without_text b m)
  state-after_action BeginUtf8 m = refl
  state-after_action action m = ap (λ (r : Machine A). r.state) (after_action-cleared adds action b m refl)

  -- a change into no character leads into none
  state-after_change : (state : State) (action : Action) (m : Machine A) → (m.state ≡ Utf8 → ⊥) → (state ≡ Utf8 → ⊥)
      → (after_change adds state action b m).state ≡ Utf8 → ⊥
  state-after_change Anywhere action m outside there e = outside (sym (state-after_action action m) ∙ e)
  state-after_change state action m outside there e = there e

  -- nor does a byte of ASCII
  step-stays_outside : b < 0x80 → (m : Machine A) → (m.state ≡ Utf8 → ⊥) → (step adds b m).state ≡ Utf8 → ⊥
  step-stays_outside low m outside e =
      state-after_change (change_at m.state b).state (change_at m.state b).action m outside (change_at-outside m.state b low)
      (ap (λ (r : Machine A). r.state) (sym (step-outside adds b m outside)) ∙ e)

  -- One byte of ASCII does to a machine outside a character what it does to the machine
  -- without its accumulator, with the same calls.
  pub Unseen-step : b < 0x80 → (m : Machine A) → (m.state ≡ Utf8 → ⊥)
      → (unseen (step adds b m) ≡ step decoded b (unseen m)) × (step_calls adds b m ≡ step_calls decoded b (unseen m)) × ((step adds b m).state ≡ Utf8 → ⊥)
  Unseen-step low m outside =
      let same = Seen-byte (λ value. []) adds b m (reached-outside (λ value. AddsAs (λ value. []) adds value b) adds m.state m.accumulator b low outside) in
      (same.0, same.1, step-stays_outside low m outside)

-- and so does a list of such bytes
pub Unseen-machine : {A : Type 0} (adds : AccumulatorStep A) (bytes : List ℕ) → AllByRecursion (λ b. b < 0x80) bytes → (m : Machine A) → (m.state ≡ Utf8 → ⊥)
    → (unseen (machine_after adds bytes m) ≡ machine_after decoded bytes (unseen m))
    × (machine_calls adds bytes m ≡ machine_calls decoded bytes (unseen m))
    × ((machine_after adds bytes m).state ≡ Utf8 → ⊥)
Unseen-machine adds bytes low m outside =
    Seen-bytes (λ value. []) adds (λ b. b < 0x80) (λ r. r.state ≡ Utf8 → ⊥)
    (λ b lt r keeps. (reached-outside (λ value. AddsAs (λ value. []) adds value b) adds r.state r.accumulator b lt keeps, step-stays_outside adds b lt r keeps)) bytes low m outside

-- a machine that stands after bytes of ASCII is outside a character
pub StandsAfter-outside : (m : Machine (List ℕ)) (before : List ℕ) → AllByRecursion (λ b. b < 0x80) before → StandsAfter m before → m.state ≡ Utf8 → ⊥
StandsAfter-outside m before low stands e =
    let after : Machine (List ℕ) = machine_after decoded before (new_machine []) in
    let same : after.state ≡ m.state =
    (sym (counted_in-state after.state after) ∙ ap (λ (r : Machine (List ℕ)). r.state) (sym stands)) ∙ counted_in-state m.state m in
    (Unseen-machine decoded before low (new_machine []) (λ ground. cc)).2 (same ∙ e)
