-- The machine makes exactly the calls of the division.
use Rattle.std.proofs.Common.{◌≡◌, ℕ, Bool, true, false, List, [], ◌∷◌, ◌++◌, refl, sym, ap, ◌∙◌, subst, append-nil, append_assoc, ◌↔◌}
use Rattle.std.specs.List.{list_any}
use Rattle.anstyle_parse.specs.declared.state.definitions.State.{State}
use Rattle.anstyle_parse.specs.declared.state.definitions.State.TheVariants.{Ground, Utf8}
use Rattle.anstyle_parse.specs.Stream.Bytes.{is_intermediate}
use Rattle.anstyle_parse.specs.Stream.Arguments.{significant}
use Rattle.anstyle_parse.specs.Stream.Items.{Body, escape, csi, dcs_header, dcs, dcs_ignored, osc, sos_pm_apc, unfinished, Item}
use Rattle.anstyle_parse.specs.Stream.Calls.{body_calls, end_calls, item_calls, items_calls, AreCalls, Continues}
use Rattle.anstyle_parse.specs.Machine.Decoder.{decoded}
use Rattle.anstyle_parse.specs.Machine.Step.{Machine, new_machine, AccumulatorStep, step, step_calls, machine_after, machine_calls}
use Rattle.anstyle_parse.specs.Machine.Stands.{counted, counted_in, StandsAfter}
use Rattle.anstyle_parse.proofs.Bytes.Classes.{class_of}
use Rattle.anstyle_parse.proofs.Division.Grow.{Open, nothing, front, inside, grow_body, grow, last_items, divide, open_after, done_items}
use Rattle.anstyle_parse.proofs.Division.Split.{divide-split}
use Rattle.anstyle_parse.proofs.Division.Exists.{IsOpen, Grown-grow, IsDivision-divide}
use Rattle.anstyle_parse.proofs.Division.Only.{AreCalls-only}
use Rattle.anstyle_parse.proofs.Machine.Counted.{step-class, step_calls-class, counted-step, counted-machine, counted_in-state}
use Rattle.anstyle_parse.proofs.Agreement.Values.{Phase, at_entry, phase_of, fits-phase_of, control_value, device_value, registers, escape_state, body_value, value_at, open_calls}
use Rattle.anstyle_parse.proofs.Agreement.Escape.{Grows, nothing_grows, front_grows, escape_grows}
use Rattle.anstyle_parse.proofs.Agreement.Headers.{control_grows, device_grows}
use Rattle.anstyle_parse.proofs.Agreement.Strings.{hooked_grows, dropped_grows, ignored_grows, command_grows}

-- one byte at the machine for an open item, by its class
body_grows : (body : Body) (b : ℕ) → IsOpen (inside body) → Grows (body_value body) (open_calls (inside body)) (class_of b) b (grow_body body b (class_of b))
body_grows (escape bytes) b is = escape_grows (list_any is_intermediate bytes) (class_of b) b bytes refl refl
body_grows (csi between header) b is = control_grows (phase_of (significant header)) (class_of b) b between header refl refl
body_grows (dcs_header between header) b is = device_grows (phase_of (significant header)) (class_of b) b between header refl (fits-phase_of (significant header) ∙ is.shaped) refl
body_grows (dcs between header final text) b is = hooked_grows (class_of b) b between header final text refl
body_grows (dcs_ignored between header byte text) b is = dropped_grows (class_of b) b between header byte text
body_grows (osc between text) b is = command_grows (class_of b) b between text refl
body_grows (sos_pm_apc between kind text) b is = ignored_grows (class_of b) b between kind text

-- and at each open item
open_grows : (o : Open) (b : ℕ) → IsOpen o → Grows (value_at o) (open_calls o) (class_of b) b (grow o b)
unfolding grow
open_grows nothing b is = nothing_grows (class_of b) b refl
open_grows (front bytes) b is = front_grows bytes (class_of b) b refl is
open_grows (inside body) b is = body_grows body b is

-- the machine for an open item goes over to the machine for what the byte leaves open
pub value_at-step : (o : Open) (b : ℕ) → IsOpen o
    → (counted (step decoded b (value_at o)) ≡ value_at (grow o b).next)
    × (open_calls o ++ step_calls decoded b (value_at o) ≡ items_calls (grow o b).items ++ open_calls (grow o b).next)
value_at-step o b is =
    let grows = open_grows o b is in (
      ap counted (step-class decoded b (value_at o)) ∙ grows.0,
      ap (λ calls. open_calls o ++ calls) (step_calls-class decoded b (value_at o)) ∙ grows.1,
    )

-- what counts, counts whole
counted_in-counted : {A : Type 0} (state : State) (m : Machine A) → counted (counted_in state (record m { state = state })) ≡ counted_in state (record m { state = state })
counted_in-counted Ground m = refl
counted_in-counted state m = refl

-- for any machine
pub counted-counted : {A : Type 0} (m : Machine A) → counted (counted m) ≡ counted m
counted-counted m = counted_in-counted m.state m

-- the calls of items and others are theirs, joined
pub items_calls-append : (items others : List Item) → items_calls (items ++ others) ≡ items_calls items ++ items_calls others
items_calls-append [] others = refl
items_calls-append (item ∷ items) others =
    ap (λ calls. item_calls item ++ calls) (items_calls-append items others) ∙ sym (append_assoc (item_calls item) (items_calls items) (items_calls others))

-- a list of bytes at a machine that stands at an open item
pub machine-open : (o : Open) (bytes : List ℕ) (m : Machine (List ℕ)) → IsOpen o → counted m ≡ value_at o
    → (counted (machine_after decoded bytes m) ≡ value_at (open_after o bytes))
    × (open_calls o ++ machine_calls decoded bytes m ≡ items_calls (done_items o bytes) ++ open_calls (open_after o bytes))
machine-open o [] m is e = (e, append-nil (open_calls o))
machine-open o (b ∷ bytes) m is e =
    let one = value_at-step o b is in
    let same = counted-step b m (value_at o) (sym (counted-counted m) ∙ ap counted e) in
    let rest = machine-open (grow o b).next bytes (step decoded b m) (Grown-grow o b is).next (same.0 ∙ one.0) in
    let more = machine_calls decoded bytes (step decoded b m) in
    let items = (grow o b).items in
    let others = done_items (grow o b).next bytes in
    let last = open_calls (open_after o (b ∷ bytes)) in (
      rest.0,
      ((((sym (append_assoc (open_calls o) (step_calls decoded b m) more)
          ∙ ap (λ calls. (open_calls o ++ calls) ++ more) same.1)
          ∙ ap (λ calls. calls ++ more) one.1)
          ∙ append_assoc (items_calls items) (open_calls (grow o b).next) more)
          ∙ ap (λ calls. items_calls items ++ calls) rest.1)
          ∙ (sym (append_assoc (items_calls items) (items_calls others) last)
          ∙ ap (λ calls. calls ++ last) (sym (items_calls-append items others))),
    )

-- a new machine after a list of bytes
pub machine-division : (bytes : List ℕ)
    → (counted (machine_after decoded bytes (new_machine [])) ≡ value_at (open_after nothing bytes))
    × (machine_calls decoded bytes (new_machine []) ≡ items_calls (done_items nothing bytes) ++ open_calls (open_after nothing bytes))
machine-division bytes = machine-open nothing bytes (new_machine []) tt refl

-- what is unfinished calls nothing at its end
end_calls-unfinished : (body : Body) → end_calls body unfinished ≡ []
end_calls-unfinished (escape bytes) = refl
end_calls-unfinished body = refl

-- so the items at the end call what is called already
items_calls-last : (o : Open) → items_calls (last_items o) ≡ open_calls o
items_calls-last nothing = refl
items_calls-last (front bytes) = refl
items_calls-last (inside body) =
    append-nil (body_calls body ++ end_calls body unfinished)
    ∙ (ap (λ calls. body_calls body ++ calls) (end_calls-unfinished body) ∙ append-nil (body_calls body))

-- the calls of the machine are the calls of the bytes
pub AreCalls-machine : (bytes : List ℕ) → AreCalls bytes (machine_calls decoded bytes (new_machine []))
AreCalls-machine bytes = (
  divide nothing bytes,
  IsDivision-divide bytes,
  (machine-division bytes).1
      ∙ sym (ap items_calls (divide-split nothing bytes)
      ∙ (items_calls-append (done_items nothing bytes) (last_items (open_after nothing bytes))
      ∙ ap (λ calls. items_calls (done_items nothing bytes) ++ calls) (items_calls-last (open_after nothing bytes)))),
)

-- one list of bytes after another
pub machine_after-append : {A : Type 0} (add : AccumulatorStep A) (first second : List ℕ) (m : Machine A)
    → machine_after add (first ++ second) m ≡ machine_after add second (machine_after add first m)
machine_after-append add [] second m = refl
machine_after-append add (b ∷ first) second m = machine_after-append add first second (step add b m)

-- and its calls
pub machine_calls-append : {A : Type 0} (add : AccumulatorStep A) (first second : List ℕ) (m : Machine A)
    → machine_calls add (first ++ second) m ≡ machine_calls add first m ++ machine_calls add second (machine_after add first m)
machine_calls-append add [] second m = refl
machine_calls-append add (b ∷ first) second m =
    ap (λ calls. step_calls add b m ++ calls) (machine_calls-append add first second (step add b m))
    ∙ sym (append_assoc (step_calls add b m) (machine_calls add first (step add b m)) (machine_calls add second (machine_after add first (step add b m))))

-- a new machine stands after no byte
pub StandsAfter-new : StandsAfter (new_machine []) []
StandsAfter-new = refl

-- a machine that takes more bytes stands after those too
pub StandsAfter-machine : (m : Machine (List ℕ)) (before bytes : List ℕ) → StandsAfter m before
    → StandsAfter (machine_after decoded bytes m) (before ++ bytes)
StandsAfter-machine m before bytes stands =
    (counted-machine bytes m (machine_after decoded before (new_machine [])) stands).0
    ∙ ap counted (sym (machine_after-append decoded before bytes (new_machine [])))

-- and its calls continue those of the bytes before
pub Continues-machine : (m : Machine (List ℕ)) (before bytes : List ℕ) → StandsAfter m before → Continues before bytes (machine_calls decoded bytes m)
Continues-machine m before bytes stands first are =
    let after : Machine (List ℕ) = machine_after decoded before (new_machine []) in
    subst (λ calls. AreCalls (before ++ bytes) calls)
    (machine_calls-append decoded before bytes (new_machine [])
    ∙ (ap (λ calls. calls ++ machine_calls decoded bytes after) (AreCalls-only before (machine_calls decoded before (new_machine [])) first (AreCalls-machine before) are)
    ∙ ap (λ calls. first ++ calls) (sym (counted-machine bytes m after stands).1)))
    (AreCalls-machine (before ++ bytes))

-- the machine of a control sequence is not inside a character
control_value-state : (phase : Phase) (m : Machine (List ℕ)) → (control_value phase m).state ≡ Utf8 → ⊥
control_value-state at_entry m e = cc
control_value-state phase m e = cc

-- nor of a device control string
device_value-state : (phase : Phase) (m : Machine (List ℕ)) → (device_value phase m).state ≡ Utf8 → ⊥
device_value-state at_entry m e = cc
device_value-state phase m e = cc

-- nor of an escape sequence
escape_state-not : (some : Bool) → escape_state some ≡ Utf8 → ⊥
escape_state-not true e = cc
escape_state-not false e = cc

-- nor of any body
body_value-state : (body : Body) → (body_value body).state ≡ Utf8 → ⊥
body_value-state (escape bytes) e = escape_state-not (list_any is_intermediate bytes) e
body_value-state (csi between header) e = control_value-state (phase_of (significant header)) (registers (significant header)) e
body_value-state (dcs_header between header) e = device_value-state (phase_of (significant header)) (registers (significant header)) e
body_value-state body e = cc

-- the machine is inside a character only where a front is open
value_at-state : (o : Open) → (value_at o).state ≡ Utf8 → (bytes : List ℕ) × (o ≡ front bytes)
value_at-state nothing e = cc
value_at-state (front bytes) e = (bytes, refl)
value_at-state (inside body) e = absurd (body_value-state body e)

-- what counts of a machine that stands after the bytes
pub StandsAfter-value : (m : Machine (List ℕ)) (before : List ℕ) → StandsAfter m before → counted m ≡ value_at (open_after nothing before)
StandsAfter-value m before stands = stands ∙ (machine-division before).0

-- it is inside a character if the bytes end in one that is unfinished, and only then
pub StandsAfter-state : (m : Machine (List ℕ)) (before : List ℕ) → StandsAfter m before
    → (m.state ≡ Utf8) ↔ ((bytes : List ℕ) × (open_after nothing before ≡ front bytes))
StandsAfter-state m before stands =
    let same : m.state ≡ (value_at (open_after nothing before)).state =
    sym (counted_in-state m.state m) ∙ ap (λ (r : Machine (List ℕ)). r.state) (StandsAfter-value m before stands) in (
      (λ e. value_at-state (open_after nothing before) (sym same ∙ e)),
      (λ is. same ∙ ap (λ o. (value_at o).state) is.1),
    )
