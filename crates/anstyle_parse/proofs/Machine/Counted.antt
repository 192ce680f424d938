-- What doesn't count of a machine has no effect: not on its calls, nor on what counts after.
use Rattle.std.proofs.Common.{◌≡◌, ℕ, true, List, [], ◌∷◌, ◌++◌, refl, sym, ap, ◌∙◌}
use Rattle.std.specs.Prelude.{◌==◌}
use Rattle.anstyle_parse.specs.declared.utf8.Taken.{Taken}
use Rattle.anstyle_parse.specs.declared.utf8.Taken.TheVariants.{More, Char, Broken}
use Rattle.anstyle_parse.specs.declared.state.definitions.State.{State}
use Rattle.anstyle_parse.specs.declared.state.definitions.State.TheVariants.{Anywhere, CsiEntry, CsiIntermediate, CsiParam, DcsEntry, DcsIntermediate, DcsParam, DcsPassthrough, Escape, EscapeIntermediate, Ground, OscString, Utf8}
use Rattle.anstyle_parse.specs.declared.state.definitions.Action.{Action}
use Rattle.anstyle_parse.specs.declared.state.definitions.Action.TheVariants.{Nop, Hook}
use Rattle.anstyle_parse.specs.Stream.Bytes.{bell}
use Rattle.anstyle_parse.specs.Stream.Call.{Call, print, execute, osc_dispatch}
use Rattle.anstyle_parse.specs.Machine.Table.{Change}
use Rattle.anstyle_parse.specs.Machine.Step.{Machine, with_part, after_osc_put, AccumulatorStep, after_action, action_calls, exit_action, entry_action, after_change, change_calls, state_after_answer, after_continuation, after_answer, answer_calls, step_from, step_calls_from, step, step_calls, machine_after, machine_calls, print_answer}
use Rattle.anstyle_parse.specs.Machine.Stands.{bare, with_header, counted_in, counted}
use Rattle.anstyle_parse.specs.Machine.Decoder.{decoded}
use Rattle.anstyle_parse.proofs.Bytes.Classes.{Class, control_byte, bell_byte, cancel_byte, esc_byte, beyond_byte, class_of}
use Rattle.anstyle_parse.proofs.Arguments.TextFold.{without_text}
use Rattle.anstyle_parse.proofs.Machine.Table.{change_of, change_at-class}
use Rattle.anstyle_parse.proofs.Machine.Actions.{new_in, headed, texted, is_of_header, after_action-headed, after_action-cleared, action_calls-headed, with_last_field-with_header, with_last_field-cleared, with_part-with_text, with_part-without_text, storing-with_text, storing-without_text}

-- where the byte broke a character, it is handled once more, in Ground
abbrev pub after_answer_at : {A : Type 0} → AccumulatorStep A → Taken → Class → ℕ → Machine A → Machine A
after_answer_at add (Broken c) class b m = after_change add (change_of Ground class).state (change_of Ground class).action b m
after_answer_at add answer class b m = m

-- its calls
abbrev pub answer_calls_at : {A : Type 0} → AccumulatorStep A → Taken → Class → ℕ → Machine A → List Call
answer_calls_at add (Broken c) class b m = print c ∷ change_calls add (change_of Ground class).state (change_of Ground class).action b m
answer_calls_at add answer class b m = print_answer answer

-- one byte of a class: the machine after it, and its calls
abbrev pub step_at : {A : Type 0} → AccumulatorStep A → State → Class → ℕ → Machine A → Machine A
step_at add Utf8 class b m = after_answer_at add (add m.accumulator b).1 class b (after_continuation add b m)
step_at add state class b m = after_change add (change_of state class).state (change_of state class).action b m

-- its calls
abbrev pub step_calls_at : {A : Type 0} → AccumulatorStep A → State → Class → ℕ → Machine A → List Call
step_calls_at add Utf8 class b m = answer_calls_at add (add m.accumulator b).1 class b (after_continuation add b m)
step_calls_at add state class b m = change_calls add (change_of state class).state (change_of state class).action b m

-- the table is asked for the class alone, a second time too
after_answer-class : {A : Type 0} (add : AccumulatorStep A) (answer : Taken) (b : ℕ) (m : Machine A) → after_answer add answer b m ≡ after_answer_at add answer (class_of b) b m
after_answer-class add More b m = refl
after_answer-class add (Char c) b m = refl
after_answer-class add (Broken c) b m = ap (λ (change : Change). after_change add change.state change.action b m) (change_at-class Ground b)

-- for the calls too
answer_calls-class : {A : Type 0} (add : AccumulatorStep A) (answer : Taken) (b : ℕ) (m : Machine A) → answer_calls add answer b m ≡ answer_calls_at add answer (class_of b) b m
answer_calls-class add More b m = refl
answer_calls-class add (Char c) b m = refl
answer_calls-class add (Broken c) b m = ap (λ (change : Change). print c ∷ change_calls add change.state change.action b m) (change_at-class Ground b)

-- each state is asked so
step_from-class : {A : Type 0} (add : AccumulatorStep A) (state : State) (b : ℕ) (m : Machine A) → step_from add state b m ≡ step_at add state (class_of b) b m
step_from-class add Utf8 b m = after_answer-class add (add m.accumulator b).1 b (after_continuation add b m)
step_from-class add state b m = ap (λ (change : Change). after_change add change.state change.action b m) (change_at-class state b)

-- for the calls too
step_calls_from-class : {A : Type 0} (add : AccumulatorStep A) (state : State) (b : ℕ) (m : Machine A) → step_calls_from add state b m ≡ step_calls_at add state (class_of b) b m
step_calls_from-class add Utf8 b m = answer_calls-class add (add m.accumulator b).1 b (after_continuation add b m)
step_calls_from-class add state b m = ap (λ (change : Change). change_calls add change.state change.action b m) (change_at-class state b)

-- a step goes by the class of the byte
pub step-class : {A : Type 0} (add : AccumulatorStep A) (b : ℕ) (m : Machine A) → step add b m ≡ step_at add m.state (class_of b) b m
unfolding step
step-class add b m = step_from-class add m.state b m

-- and so do its calls
pub step_calls-class : {A : Type 0} (add : AccumulatorStep A) (b : ℕ) (m : Machine A) → step_calls add b m ≡ step_calls_at add m.state (class_of b) b m
unfolding step_calls
step_calls-class add b m = step_calls_from-class add m.state b m

-- what a state does on the way in
abbrev entering : {A : Type 0} → AccumulatorStep A → State → ℕ → Machine A → Machine A
entering add state b m = record (after_action add (entry_action state) b m) { state = state }

-- of what a state is entered with, the header and the accumulator count
entering-headed : {A : Type 0} (add : AccumulatorStep A) (state old : State) (b : ℕ) (m : Machine A)
    → counted (entering add state b m) ≡ counted (entering add state b (headed old m.accumulator m))
entering-headed add DcsPassthrough old b m =
    ap (λ (r : Machine _). new_in DcsPassthrough r.accumulator) (with_last_field-cleared b m)
    ∙ ap (λ (r : Machine _). new_in DcsPassthrough r.accumulator) (sym (with_last_field-with_header b m (new_in old m.accumulator)))
entering-headed add state old b m = refl

-- and so of its calls on the way in
entering_calls-headed : {A : Type 0} (add : AccumulatorStep A) (state old : State) (accumulator : A) (b : ℕ) (m : Machine A)
    → action_calls add (entry_action state) b m ≡ action_calls add (entry_action state) b (headed old accumulator m)
entering_calls-headed add DcsPassthrough old accumulator b m = sym (action_calls-headed add Hook old accumulator b m refl)
entering_calls-headed add state old accumulator b m = refl

-- a machine of whose values the header counts
headed-counted : {A : Type 0} (state : State) (m : Machine A) → ((r : Machine A) → counted_in state r ≡ with_header r) → m.state ≡ state
    → counted m ≡ headed state m.accumulator m
headed-counted state m counts e = (ap (λ s. counted_in s m) e ∙ counts m) ∙ ap (λ s. headed s m.accumulator m) e

-- the same effect from both machines: what counts after, and the calls
abbrev Same : {A : Type 0} → Machine A → Machine A → List Call → List Call → Type 0
Same m n calls others = (counted m ≡ counted n) × (calls ≡ others)

-- A change out of a state in which a header is read: of the machine the header counts.
module _ {A : Type 0} (add : AccumulatorStep A) (old : State) (still : exit_action old ≡ Nop) (counts : (r : Machine A) → counted_in old r ≡ with_header r) where
  -- the action on the header alone
  acted-header : (action : Action) (b : ℕ) (m : Machine A) → is_of_header action ≡ true
      → headed old (after_action add action b m).accumulator (after_action add action b m) ≡ after_action add action b (headed old m.accumulator m)
  acted-header action b m f =
      ap (λ (r : Machine A). headed old r.accumulator (after_action add action b m)) (after_action-cleared add action b m f)
      ∙ sym (after_action-headed add action old m.accumulator b m f)

  -- with the state kept
  kept-header : (action : Action) (b : ℕ) (m : Machine A) → m.state ≡ old → is_of_header action ≡ true
      → counted (after_action add action b m) ≡ counted (after_action add action b (headed old m.accumulator m))
  kept-header action b m e f =
      (headed-counted old (after_action add action b m) counts (ap (λ (r : Machine A). r.state) (after_action-cleared add action b m f) ∙ e)
      ∙ sym (counts (headed old (after_action add action b m).accumulator (after_action add action b m))))
      ∙ ap counted (acted-header action b m f)

  -- into another state
  entered-header : (state : State) (action : Action) (b : ℕ) (m : Machine A) → m.state ≡ old → is_of_header action ≡ true
      → counted (entering add state b (after_action add action b (after_action add (exit_action m.state) b m)))
      ≡ counted (entering add state b (after_action add action b (after_action add (exit_action old) b (headed old m.accumulator m))))
  entered-header state action b m e f =
      ((ap (λ x. counted (entering add state b (after_action add action b (after_action add x b m)))) (ap exit_action e ∙ still)
      ∙ entering-headed add state old b (after_action add action b m))
      ∙ ap (λ r. counted (entering add state b r)) (acted-header action b m f))
      ∙ ap (λ x. counted (entering add state b (after_action add action b (after_action add x b (headed old m.accumulator m))))) (sym still)

  entered_calls-header : (state : State) (action : Action) (b : ℕ) (m : Machine A) → m.state ≡ old → is_of_header action ≡ true
      → action_calls add (exit_action m.state) b m
      ++ (action_calls add action b (after_action add (exit_action m.state) b m)
      ++ action_calls add (entry_action state) b (after_action add action b (after_action add (exit_action m.state) b m)))
      ≡ action_calls add (exit_action old) b (headed old m.accumulator m)
      ++ (action_calls add action b (after_action add (exit_action old) b (headed old m.accumulator m))
      ++ action_calls add (entry_action state) b (after_action add action b (after_action add (exit_action old) b (headed old m.accumulator m))))
  entered_calls-header state action b m e f =
      let calls_from : Action → Machine A → List Call =
      λ x r. action_calls add x b r ++ (action_calls add action b (after_action add x b r)
      ++ action_calls add (entry_action state) b (after_action add action b (after_action add x b r))) in
      ((ap (λ x. calls_from x m) (ap exit_action e ∙ still)
      ∙ ap (λ c. c ++ action_calls add (entry_action state) b (after_action add action b m)) (sym (action_calls-headed add action old m.accumulator b m f)))
      ∙ ap (λ c. action_calls add action b (headed old m.accumulator m) ++ c)
      (entering_calls-headed add state old (after_action add action b m).accumulator b (after_action add action b m)
      ∙ ap (λ r. action_calls add (entry_action state) b r) (acted-header action b m f)))
      ∙ ap (λ x. calls_from x (headed old m.accumulator m)) (sym still)

  moved-header : (state : State) (action : Action) (b : ℕ) (m : Machine A) → m.state ≡ old → is_of_header action ≡ true
      → Same (after_change add state action b m) (after_change add state action b (headed old m.accumulator m))
      (change_calls add state action b m) (change_calls add state action b (headed old m.accumulator m))
  moved-header Anywhere action b m e f = (kept-header action b m e f, sym (action_calls-headed add action old m.accumulator b m f))
  moved-header state action b m e f = (entered-header state action b m e f, entered_calls-header state action b m e f)

  changed-header : (change : Change) (b : ℕ) (m : Machine A) → m.state ≡ old → is_of_header change.action ≡ true
      → Same (after_change add change.state change.action b m) (after_change add change.state change.action b (headed old m.accumulator m))
      (change_calls add change.state change.action b m) (change_calls add change.state change.action b (headed old m.accumulator m))
  changed-header change b m e f = moved-header change.state change.action b m e f

-- The text of a command: with it alone, a step is as on the whole machine.
text_stored : {A : Type 0} (b : ℕ) (m : Machine A) → m.state ≡ OscString → counted (after_osc_put b m) ≡ counted (after_osc_put b (texted OscString m.accumulator m))
text_stored b m e =
    (ap (λ s. counted_in s (after_osc_put b m)) (ap (λ (r : Machine _). r.state) (storing-without_text b m) ∙ e)
    ∙ ap (λ (r : Machine _). texted r.state r.accumulator (after_osc_put b m)) (storing-without_text b m ∙ ap (λ s. record (without_text m) { state = s }) e))
    ∙ ap counted (sym (storing-with_text b m (new_in OscString m.accumulator)))

-- out of the command
text_left : {A : Type 0} (state : State) (b : ℕ) (m : Machine A) → new_in state (with_part m).accumulator ≡ new_in state (with_part (texted OscString m.accumulator m)).accumulator
text_left state b m =
    ap (λ (r : Machine _). new_in state r.accumulator) (with_part-without_text b m)
    ∙ ap (λ (r : Machine _). new_in state r.accumulator) (sym (with_part-with_text b m (new_in OscString m.accumulator)))

-- its dispatch
text_dispatched : {A : Type 0} (b : ℕ) (more : List Call) (m : Machine A)
    → osc_dispatch (with_part m).closed_parts (b == bell) ∷ more ≡ osc_dispatch (with_part (texted OscString m.accumulator m)).closed_parts (b == bell) ∷ more
text_dispatched b more m = ap (λ (r : Machine _). osc_dispatch r.closed_parts (b == bell) ∷ more) (sym (with_part-with_text b m (new_in OscString m.accumulator)))

-- a byte of each class in a command
step_at-command : {A : Type 0} (add : AccumulatorStep A) (class : Class) (b : ℕ) (m : Machine A)
    → Same (step_at add OscString class b (record m { state = OscString })) (step_at add OscString class b (texted OscString m.accumulator m))
    (step_calls_at add OscString class b (record m { state = OscString })) (step_calls_at add OscString class b (texted OscString m.accumulator m))
step_at-command add control_byte b m = (refl, refl)
step_at-command add beyond_byte b m = (refl, refl)
step_at-command add bell_byte b m = (text_left Ground b (record m { state = OscString }), text_dispatched b [] (record m { state = OscString }))
step_at-command add cancel_byte b m = (text_left Ground b (record m { state = OscString }), text_dispatched b (execute b ∷ []) (record m { state = OscString }))
step_at-command add esc_byte b m = (text_left Escape b (record m { state = OscString }), text_dispatched b [] (record m { state = OscString }))
step_at-command add class b m = (text_stored b (record m { state = OscString }) refl, refl)

-- a byte of each class in Ground
step_at-ground : {A : Type 0} (add : AccumulatorStep A) (class : Class) (b : ℕ) (m : Machine A)
    → Same (step_at add Ground class b (record m { state = Ground })) (step_at add Ground class b (bare (record m { state = Ground })))
    (step_calls_at add Ground class b (record m { state = Ground })) (step_calls_at add Ground class b (bare (record m { state = Ground })))
step_at-ground add control_byte b m = (refl, refl)
step_at-ground add class b m = (refl, refl)

-- the machine after an answer of its accumulator
abbrev with_answer : {A : Type 0} → A → Taken → Machine A → Machine A
with_answer accumulator answer m = record m { accumulator = accumulator; state = state_after_answer answer }

-- of it nothing else counts
answered : {A : Type 0} (add : AccumulatorStep A) (class : Class) (b : ℕ) (accumulator : A) (answer : Taken) (m n : Machine A)
    → Same (after_answer_at add answer class b (with_answer accumulator answer m)) (after_answer_at add answer class b (with_answer accumulator answer n))
    (answer_calls_at add answer class b (with_answer accumulator answer m)) (answer_calls_at add answer class b (with_answer accumulator answer n))
answered add class b accumulator More m n = (refl, refl)
answered add class b accumulator (Char c) m n = (refl, refl)
answered add class b accumulator (Broken c) m n =
    let left = step_at-ground add class b (with_answer accumulator (Broken c) m) in
    let right = step_at-ground add class b (with_answer accumulator (Broken c) n) in
    (left.0 ∙ sym right.0, ap (λ calls. print c ∷ calls) (left.1 ∙ sym right.1))

-- a byte of each class in each state
step_at-counted : {A : Type 0} (add : AccumulatorStep A) (class : Class) (state : State) (b : ℕ) (m : Machine A)
    → Same (step_at add state class b (record m { state = state })) (step_at add state class b (counted_in state (record m { state = state })))
    (step_calls_at add state class b (record m { state = state })) (step_calls_at add state class b (counted_in state (record m { state = state })))
step_at-counted add control_byte Anywhere b m = (refl, refl)
step_at-counted add class Escape b m = changed-header add Escape refl (λ r. refl) (change_of Escape class) b (record m { state = Escape }) refl refl
step_at-counted add class EscapeIntermediate b m = changed-header add EscapeIntermediate refl (λ r. refl) (change_of EscapeIntermediate class) b (record m { state = EscapeIntermediate }) refl refl
step_at-counted add class CsiEntry b m = changed-header add CsiEntry refl (λ r. refl) (change_of CsiEntry class) b (record m { state = CsiEntry }) refl refl
step_at-counted add class CsiParam b m = changed-header add CsiParam refl (λ r. refl) (change_of CsiParam class) b (record m { state = CsiParam }) refl refl
step_at-counted add class CsiIntermediate b m = changed-header add CsiIntermediate refl (λ r. refl) (change_of CsiIntermediate class) b (record m { state = CsiIntermediate }) refl refl
step_at-counted add class DcsEntry b m = changed-header add DcsEntry refl (λ r. refl) (change_of DcsEntry class) b (record m { state = DcsEntry }) refl refl
step_at-counted add class DcsParam b m = changed-header add DcsParam refl (λ r. refl) (change_of DcsParam class) b (record m { state = DcsParam }) refl refl
step_at-counted add class DcsIntermediate b m = changed-header add DcsIntermediate refl (λ r. refl) (change_of DcsIntermediate class) b (record m { state = DcsIntermediate }) refl refl
step_at-counted add class OscString b m = step_at-command add class b m
step_at-counted add class Utf8 b m = answered add class b (add m.accumulator b).0 (add m.accumulator b).1 m (bare m)
step_at-counted add class state b m = (refl, refl)

-- what counts of a machine has its state
pub counted_in-state : {A : Type 0} (state : State) (m : Machine A) → (counted_in state m).state ≡ m.state
counted_in-state Anywhere m = refl
counted_in-state state m = refl

-- one byte does to a machine what it does to what counts of it
step-counted : {A : Type 0} (add : AccumulatorStep A) (b : ℕ) (m : Machine A) → Same (step add b m) (step add b (counted m)) (step_calls add b m) (step_calls add b (counted m))
step-counted add b m =
    let same = step_at-counted add (class_of b) m.state b m in
    let there : (counted m).state ≡ m.state = counted_in-state m.state m in (
      (ap counted (step-class add b m) ∙ same.0)
          ∙ ap counted (sym (step-class add b (counted m) ∙ ap (λ s. step_at add s (class_of b) b (counted m)) there)),
      (step_calls-class add b m ∙ same.1)
          ∙ sym (step_calls-class add b (counted m) ∙ ap (λ s. step_calls_at add s (class_of b) b (counted m)) there),
    )

-- machines of which the same counts have the same calls, and the same counts after
module _ {A : Type 0} (add : AccumulatorStep A) where
  same_step : (b : ℕ) (m n : Machine A) → counted m ≡ counted n → Same (step add b m) (step add b n) (step_calls add b m) (step_calls add b n)
  same_step b m n e =
      let left = step-counted add b m in
      let right = step-counted add b n in (
        (left.0 ∙ ap (λ r. counted (step add b r)) e) ∙ sym right.0,
        (left.1 ∙ ap (λ r. step_calls add b r) e) ∙ sym right.1,
      )

  -- and so over a list of bytes
  pub same_machine : (bytes : List ℕ) (m n : Machine A) → counted m ≡ counted n
      → (counted (machine_after add bytes m) ≡ counted (machine_after add bytes n)) × (machine_calls add bytes m ≡ machine_calls add bytes n)
  same_machine [] m n e = (e, refl)
  same_machine (b ∷ bytes) m n e =
      let one = same_step b m n e in
      let rest = same_machine bytes (step add b m) (step add b n) one.0 in
      (rest.0, ap (λ c. c ++ machine_calls add bytes (step add b m)) one.1 ∙ ap (λ c. step_calls add b n ++ c) rest.1)

-- those of the decoder
pub counted-step : (b : ℕ) (m n : Machine (List ℕ)) → counted m ≡ counted n
    → (counted (step decoded b m) ≡ counted (step decoded b n)) × (step_calls decoded b m ≡ step_calls decoded b n)
counted-step b m n e = same_step decoded b m n e

pub counted-machine : (bytes : List ℕ) (m n : Machine (List ℕ)) → counted m ≡ counted n
    → (counted (machine_after decoded bytes m) ≡ counted (machine_after decoded bytes n)) × (machine_calls decoded bytes m ≡ machine_calls decoded bytes n)
counted-machine bytes m n e = same_machine decoded bytes m n e
