-- What is read of one byte, by what is open before it.
use Rattle.std.proofs.Common.{◌≡◌, ℕ, ◌<◌, arith, Bool, true, false, refl, List, [], ◌∷◌, ◌++◌, ⊎_elim, ap, sym, ◌∙◌, subst, append-nil}
use Rattle.std.specs.Prelude.{◌&&◌, if◌then◌else◌, nat_lt, ⊤}
use Rattle.std.specs.List.{list_any}
use Rattle.std.proofs.lemmas.Bool.{false≢true, and_parts, or_cases, agree_below_at, cond-true, cond-false, lt-ltb, false_from_ne_true}
use Rattle.anstyle_parse.specs.declared.utf8.Taken.{Taken}
use Rattle.anstyle_parse.specs.declared.utf8.Taken.TheVariants.{More, Char, Broken}
use Rattle.anstyle_parse.specs.declared.state.definitions.State.{State}
use Rattle.anstyle_parse.specs.declared.state.definitions.State.TheVariants.{DcsIgnore, DcsPassthrough, Ground, SosPmApcString, Utf8}
use Rattle.anstyle_parse.specs.Stream.Bytes.{is_within, is_intermediate}
use Rattle.anstyle_parse.specs.Stream.Arguments.{significant}
use Rattle.anstyle_parse.specs.Stream.Call.{Call, print, execute, esc_dispatch}
use Rattle.anstyle_parse.specs.Stream.Characters.{is_lead, is_well_formed, is_proper_front, character_of, replacement}
use Rattle.anstyle_parse.specs.Stream.Items.{EachIs, escape, csi, dcs_header, dcs, dcs_ignored, osc, sos_pm_apc, single, character}
use Rattle.anstyle_parse.specs.Machine.AsRead.{is_stray, is_break, is_at_ground, is_in_ignored_string, is_in_terminated_string, replacement_text, string_end, as_read, as_read_whole, break_in}
use Rattle.anstyle_parse.specs.Machine.Decoder.{decoded}
use Rattle.anstyle_parse.specs.Machine.Step.{Machine, new_machine, state_after_answer, step, step_calls, machine_after, machine_calls}
use Rattle.anstyle_parse.specs.Machine.Stands.{counted}
use Rattle.anstyle_parse.specs.Machine.Table.{change_at}
use Rattle.anstyle_parse.proofs.Agreement.Values.{Phase, at_entry, misfit, phase_of, control_value, device_value, registers, escape_state, body_value, value_at}
use Rattle.anstyle_parse.proofs.Agreement.Whole.{value_at-step, machine_calls-append}
use Rattle.anstyle_parse.proofs.Bytes.Classes.{Class, bell_byte, cancel_byte, esc_byte, lead_byte, terminator_byte, class_below, class_of}
use Rattle.anstyle_parse.proofs.Bytes.Passing.{EachIs-parts}
use Rattle.anstyle_parse.proofs.Canonical.TextLength.{is_inside, body-inside}
use Rattle.anstyle_parse.proofs.Characters.Encoding.{within_parts}
use Rattle.anstyle_parse.proofs.Characters.Table.{EachIs-front, is_front-proper, is_front-well_formed}
use Rattle.anstyle_parse.proofs.Division.Exists.{IsOpen}
use Rattle.anstyle_parse.proofs.Division.Grow.{Open, nothing, front, inside, Growth, start, grow, more, done, break_off}
use Rattle.anstyle_parse.proofs.Machine.Actions.{new_in}
use Rattle.anstyle_parse.proofs.Machine.Counted.{answer_calls_at, step_at, step_calls_at, step-class, step_calls-class, counted_in-state, counted-machine}

-- a byte that begins neither a sequence nor a character
pub begins_none : Class → Bool
begins_none esc_byte = false
begins_none lead_byte = false
begins_none c = true

begins_none-start : (b : ℕ) (c : Class) → begins_none c ≡ true → (start b c).next ≡ nothing
unfolding begins_none
begins_none-start b esc_byte e = absurd (false≢true e)
begins_none-start b lead_byte e = absurd (false≢true e)
begins_none-start b c e = refl

pub single-start : (b : ℕ) (c : Class) → begins_none c ≡ true → start b c ≡ done (single b)
unfolding begins_none
single-start b esc_byte e = absurd (false≢true e)
single-start b lead_byte e = absurd (false≢true e)
single-start b c e = refl

stray-below : (b : ℕ) → is_stray b ≡ true → b < 256
unfolding is_stray
stray-below b stray =
    ⊎_elim
    (λ low. let ends = within_parts 0x80 0xC1 b low in omega (arith, ends.1))
    (λ high. let ends = within_parts 0xF5 0xFF b high in omega (arith, ends.1))
    (or_cases (is_within 0x80 0xC1 b) (is_within 0xF5 0xFF b) stray)

-- no stray byte does
pub stray-begins_none : (b : ℕ) → is_stray b ≡ true → begins_none (class_of b) ≡ true
unfolding begins_none is_stray is_within class_below class_of
stray-begins_none b stray =
    let below = stray-below b stray in
    let both : (is_stray b && begins_none (class_below b)) ≡ is_stray b =
    agree_below_at (λ n. is_stray n && begins_none (class_below n)) is_stray 256 b refl below in
    ap begins_none (cond-true (nat_lt b 0x100) (class_below b) _ (lt-ltb b 256 below))
    ∙ (and_parts (is_stray b) (begins_none (class_below b)) (both ∙ stray)).1

-- inside a sequence no byte is handled in the ground state
pub inside-elsewhere : (state : State) (value : List ℕ) (b : ℕ) → is_inside state ≡ true → is_at_ground decoded state value b ≡ false
unfolding is_inside
inside-elsewhere Ground value b is = absurd (false≢true is)
inside-elsewhere Utf8 value b is = absurd (false≢true is)
inside-elsewhere state value b is = refl

-- after a stray byte that is handled in the ground state nothing is open
next-stray : (b : ℕ) → is_stray b ≡ true → (start b (class_of b)).next ≡ nothing
next-stray b stray = begins_none-start b (class_of b) (stray-begins_none b stray)

next_by : (whole proper : Bool) (all bytes : List ℕ) (b : ℕ) →
    let answer : List ℕ × Taken = if whole then ([], Char (character_of all)) else if proper then (all, More) else ([], Broken replacement) in
    let growth : Growth = if whole then done (character all) else if proper then more (front all) else break_off bytes (start b (class_of b)) in
    is_break answer.1 ≡ true → is_stray b ≡ true → growth.next ≡ nothing
next_by true proper all bytes b breaks stray = absurd (false≢true breaks)
next_by false true all bytes b breaks stray = absurd (false≢true breaks)
next_by false false all bytes b breaks stray = next-stray b stray

-- a stray byte that is handled in the ground state leaves nothing open
pub grow-stray : (o : Open) (b : ℕ) → IsOpen o → is_at_ground decoded (value_at o).state (value_at o).accumulator b ≡ true → is_stray b ≡ true → (grow o b).next ≡ nothing
unfolding grow is_proper_front
grow-stray nothing b is at stray = next-stray b stray
grow-stray (front []) b is at stray = absurd (false≢true is)
grow-stray (front (a ∷ bytes)) b is at stray =
    next_by (is_well_formed (a ∷ (bytes ++ b ∷ []))) (is_proper_front (a ∷ (bytes ++ b ∷ []))) (a ∷ (bytes ++ b ∷ [])) (a ∷ bytes) b at stray
grow-stray (inside body) b is at stray =
    absurd (false≢true (sym (inside-elsewhere (body_value body).state (body_value body).accumulator b (body-inside body)) ∙ at))

-- the character that is open is broken off
unfoldable pub broken_off : Open → List Call
broken_off (front bytes) = print replacement ∷ []
broken_off o = []

-- a byte that goes on with no character breaks each
module _ (a : ℕ) (bytes : List ℕ) (b : ℕ) (other : is_within 0x80 0xBF b ≡ false) where
  no_front : EachIs (is_within 0x80 0xBF) (bytes ++ b ∷ []) → ⊥
  no_front each = false≢true (sym other ∙ (EachIs-parts (is_within 0x80 0xBF) bytes (b ∷ []) each).1.0)

  abbrev all : List ℕ
  all = a ∷ (bytes ++ b ∷ [])

  not_whole : is_well_formed all ≡ false
  not_whole = false_from_ne_true (is_well_formed all) (λ h. no_front (EachIs-front a (bytes ++ b ∷ []) (is_front-well_formed all h)))

  not_proper : is_proper_front all ≡ false
  not_proper = false_from_ne_true (is_proper_front all) (λ h. no_front (EachIs-front a (bytes ++ b ∷ []) (is_front-proper all h)))

  breaks : decoded (a ∷ bytes) b ≡ ([], Broken replacement)
  breaks = cond-false (is_well_formed all) _ _ not_whole ∙ cond-false (is_proper_front all) _ _ not_proper

  calls-broken : step_calls decoded b (value_at (front (a ∷ bytes))) ≡ print replacement ∷ step_calls_at decoded Ground (class_of b) b (new_machine [])
  calls-broken =
      step_calls-class decoded b (value_at (front (a ∷ bytes)))
      ∙ ap (λ (x : List ℕ × Taken). answer_calls_at decoded x.1 (class_of b) b (record (new_machine x.0) { state = state_after_answer x.1 })) breaks

  next-broken : (grow (front (a ∷ bytes)) b).next ≡ (start b (class_of b)).next
  unfolding grow
  next-broken =
      ap (λ (g : Growth). g.next) (cond-false (is_well_formed all) _ _ not_whole ∙ cond-false (is_proper_front all) _ _ not_proper)

-- Such a byte where no sequence is open.
unfoldable pub IsOutside : Open → Type 0
IsOutside (inside body) = ⊥
IsOutside o = ⊤

pub calls-outside : (o : Open) (b : ℕ) → IsOpen o → IsOutside o → is_within 0x80 0xBF b ≡ false
    → step_calls decoded b (value_at o) ≡ broken_off o ++ step_calls_at decoded Ground (class_of b) b (new_machine [])
unfolding broken_off IsOutside is_proper_front
calls-outside nothing b is outside other = step_calls-class decoded b (value_at nothing)
calls-outside (front []) b is outside other = absurd (false≢true is)
calls-outside (front (a ∷ bytes)) b is outside other = calls-broken a bytes b other
calls-outside (inside body) b is outside other = absurd outside

pub next-outside : (o : Open) (b : ℕ) → IsOpen o → IsOutside o → is_within 0x80 0xBF b ≡ false → (grow o b).next ≡ (start b (class_of b)).next
unfolding grow IsOutside is_proper_front
next-outside nothing b is outside other = refl
next-outside (front []) b is outside other = absurd (false≢true is)
next-outside (front (a ∷ bytes)) b is outside other = next-broken a bytes b other
next-outside (inside body) b is outside other = absurd outside

-- a byte is handled in the ground state only there
pub outside-at : (o : Open) (b : ℕ) → is_at_ground decoded (value_at o).state (value_at o).accumulator b ≡ true → IsOutside o
unfolding IsOutside
outside-at (inside body) b at =
    absurd (false≢true (sym (inside-elsewhere (body_value body).state (body_value body).accumulator b (body-inside body)) ∙ at))
outside-at o b at = tt

-- what is open after U+FFFD, and its calls
rest-replaced : (machine_calls decoded (0xBF ∷ 0xBD ∷ []) (value_at (front (0xEF ∷ []))) ≡ print replacement ∷ [])
    × (counted (machine_after decoded (0xBF ∷ 0xBD ∷ []) (value_at (front (0xEF ∷ [])))) ≡ value_at nothing)
unfolding step step_calls is_well_formed is_proper_front is_within
rest-replaced = (refl, refl)

module _ (o : Open) (is : IsOpen o) (outside : IsOutside o) where
  begun-replaced : (step_calls decoded 0xEF (value_at o) ≡ broken_off o) × (counted (step decoded 0xEF (value_at o)) ≡ value_at (front (0xEF ∷ [])))
  unfolding is_within class_of class_below is_lead
  begun-replaced = (
    calls-outside o 0xEF is outside refl ∙ append-nil (broken_off o),
    (value_at-step o 0xEF is).0 ∙ ap value_at (next-outside o 0xEF is outside refl),
  )

  pub calls-replaced : machine_calls decoded replacement_text (value_at o) ≡ broken_off o ++ print replacement ∷ []
  calls-replaced =
      let first = begun-replaced in
      let rest = counted-machine (0xBF ∷ 0xBD ∷ []) (step decoded 0xEF (value_at o)) (value_at (front (0xEF ∷ []))) first.1 in
      ap (λ l. l ++ machine_calls decoded (0xBF ∷ 0xBD ∷ []) (step decoded 0xEF (value_at o))) first.0
      ∙ ap (λ l. broken_off o ++ l) (rest.1 ∙ rest-replaced.0)

  pub after-replaced : counted (machine_after decoded replacement_text (value_at o)) ≡ value_at nothing
  after-replaced =
      (counted-machine (0xBF ∷ 0xBD ∷ []) (step decoded 0xEF (value_at o)) (value_at (front (0xEF ∷ []))) begun-replaced.1).0 ∙ rest-replaced.1

  -- a quote in its place
  pub calls-quote : step_calls decoded 0x22 (value_at o) ≡ broken_off o ++ print 0x22 ∷ []
  unfolding is_within class_of class_below
  calls-quote = calls-outside o 0x22 is outside refl

  pub after-quote : counted (step decoded 0x22 (value_at o)) ≡ value_at nothing
  unfolding is_within class_of class_below
  after-quote = (value_at-step o 0x22 is).0 ∙ ap value_at (next-outside o 0x22 is outside refl)

  -- and FF, which begins nothing
  pub calls-break : step_calls decoded 0xFF (value_at o) ≡ broken_off o
  unfolding is_within class_of class_below
  calls-break = calls-outside o 0xFF is outside refl ∙ append-nil (broken_off o)

-- BEL in a string that is ignored: the machine stays as it is
pub bell-kept : (m : Machine (List ℕ)) → m.state ≡ SosPmApcString → counted (step decoded 7 m) ≡ counted m
unfolding class_of class_below
bell-kept m ignored =
    let Q : State → Type 0 = λ s. counted (step_at decoded s bell_byte 7 m) ≡ counted m in
    ap counted (step-class decoded 7 m) ∙ subst Q (sym ignored) refl

-- ESC \ in its place ends it, and so does CAN
pub end-read : (machine_calls decoded string_end (new_in SosPmApcString []) ≡ esc_dispatch [] false 0x5C ∷ [])
    × (counted (machine_after decoded string_end (new_in SosPmApcString [])) ≡ value_at nothing)
unfolding step step_calls change_at is_within
end-read = (refl, refl)

pub cancel-read : (step_calls decoded 0x18 (new_in SosPmApcString []) ≡ execute 0x18 ∷ [])
    × (counted (step decoded 0x18 (new_in SosPmApcString [])) ≡ value_at nothing)
unfolding step step_calls change_at is_within
cancel-read = (refl, refl)

-- such a string is open only where the machine is in one
control-not_ignored : (phase : Phase) (m : Machine (List ℕ)) → is_in_ignored_string (control_value phase m).state ≡ false
control-not_ignored at_entry m = refl
control-not_ignored phase m = refl

device-not_ignored : (phase : Phase) (m : Machine (List ℕ)) → is_in_ignored_string (device_value phase m).state ≡ false
device-not_ignored at_entry m = refl
device-not_ignored phase m = refl

escape-not_ignored : (some : Bool) → is_in_ignored_string (escape_state some) ≡ false
escape-not_ignored true = refl
escape-not_ignored false = refl

pub ignored-value : (o : Open) → is_in_ignored_string (value_at o).state ≡ true → value_at o ≡ new_in SosPmApcString []
ignored-value nothing e = absurd (false≢true e)
ignored-value (front bytes) e = absurd (false≢true e)
ignored-value (inside (escape bytes)) e = absurd (false≢true (sym (escape-not_ignored (list_any is_intermediate bytes)) ∙ e))
ignored-value (inside (csi between header)) e =
    absurd (false≢true (sym (control-not_ignored (phase_of (significant header)) (registers (significant header))) ∙ e))
ignored-value (inside (dcs_header between header)) e =
    absurd (false≢true (sym (device-not_ignored (phase_of (significant header)) (registers (significant header))) ∙ e))
ignored-value (inside (dcs between header final text)) e = absurd (false≢true e)
ignored-value (inside (dcs_ignored between header byte text)) e = absurd (false≢true e)
ignored-value (inside (osc between text)) e = absurd (false≢true e)
ignored-value (inside (sos_pm_apc between kind text)) e = refl

-- A byte in a string that 9C would end: where the machine stands after it.
unfoldable pub after_string : State → Class → Machine (List ℕ)
after_string state esc_byte = value_at (inside (escape []))
after_string state cancel_byte = value_at nothing
after_string state terminator_byte = value_at nothing
after_string state c = new_in state []

pub string-step : (state : State) → is_in_terminated_string state ≡ true → (c : Class) (b : ℕ) → counted (step_at decoded state c b (new_in state [])) ≡ counted (after_string state c)
unfolding after_string
string-step DcsIgnore is esc_byte b = refl
string-step DcsIgnore is cancel_byte b = refl
string-step DcsIgnore is terminator_byte b = refl
string-step DcsIgnore is c b = refl
string-step DcsPassthrough is esc_byte b = refl
string-step DcsPassthrough is cancel_byte b = refl
string-step DcsPassthrough is terminator_byte b = refl
string-step DcsPassthrough is c b = refl
string-step SosPmApcString is esc_byte b = refl
string-step SosPmApcString is cancel_byte b = refl
string-step SosPmApcString is terminator_byte b = refl
string-step SosPmApcString is c b = refl
string-step state is c b = absurd (false≢true is)

device-terminated : (phase : Phase) (m : Machine (List ℕ)) → is_in_terminated_string (device_value phase m).state ≡ true
    → device_value phase m ≡ new_in (device_value phase m).state []
device-terminated misfit m e = refl
device-terminated phase m e = absurd (false≢true e)

pub control-elsewhere : (phase : Phase) (m : Machine (List ℕ)) → is_in_terminated_string (control_value phase m).state ≡ false
control-elsewhere at_entry m = refl
control-elsewhere phase m = refl

pub escape-elsewhere : (some : Bool) → is_in_terminated_string (escape_state some) ≡ false
escape-elsewhere true = refl
escape-elsewhere false = refl

pub terminated-value : (o : Open) → is_in_terminated_string (value_at o).state ≡ true → value_at o ≡ new_in (value_at o).state []
terminated-value nothing e = absurd (false≢true e)
terminated-value (front bytes) e = absurd (false≢true e)
terminated-value (inside (escape bytes)) e = absurd (false≢true (sym (escape-elsewhere (list_any is_intermediate bytes)) ∙ e))
terminated-value (inside (csi between header)) e =
    absurd (false≢true (sym (control-elsewhere (phase_of (significant header)) (registers (significant header))) ∙ e))
terminated-value (inside (dcs_header between header)) e = device-terminated (phase_of (significant header)) (registers (significant header)) e
terminated-value (inside (dcs between header final text)) e = refl
terminated-value (inside (dcs_ignored between header byte text)) e = refl
terminated-value (inside (osc between text)) e = absurd (false≢true e)
terminated-value (inside (sos_pm_apc between kind text)) e = refl

-- the end of a log: a character that is begun is broken off
pub break_in-inside : (state : State) → is_inside state ≡ true → break_in state ≡ []
unfolding is_inside
break_in-inside Ground is = absurd (false≢true is)
break_in-inside Utf8 is = absurd (false≢true is)
break_in-inside state is = refl

pub calls-at_end : (o : Open) → IsOpen o → machine_calls decoded (break_in (value_at o).state) (value_at o) ≡ broken_off o
unfolding broken_off IsOutside
calls-at_end nothing is = refl
calls-at_end (front bytes) is = append-nil _ ∙ calls-break (front bytes) is tt
calls-at_end (inside body) is = ap (λ l. machine_calls decoded l (body_value body)) (break_in-inside (body_value body).state (body-inside body))

pub same_state : (m n : Machine (List ℕ)) → counted m ≡ counted n → m.state ≡ n.state
same_state m n same = sym (counted_in-state m.state m) ∙ ap (λ (r : Machine (List ℕ)). r.state) same ∙ counted_in-state n.state n

pub calls-whole : (bytes : List ℕ) (o : Open) → IsOpen o
    → counted (machine_after decoded (as_read bytes) (new_machine [])) ≡ counted (value_at o)
    → machine_calls decoded (as_read_whole bytes) (new_machine []) ≡ machine_calls decoded (as_read bytes) (new_machine []) ++ broken_off o
unfolding as_read_whole
calls-whole bytes o is stands =
    let m = machine_after decoded (as_read bytes) (new_machine []) in
    let states = same_state m (value_at o) stands in
    machine_calls-append decoded (as_read bytes) (break_in m.state) (new_machine [])
    ∙ ap (λ l. machine_calls decoded (as_read bytes) (new_machine []) ++ l)
    ((counted-machine (break_in m.state) m (value_at o) stands).1 ∙ ap (λ s. machine_calls decoded (break_in s) (value_at o)) states ∙ calls-at_end o is)
