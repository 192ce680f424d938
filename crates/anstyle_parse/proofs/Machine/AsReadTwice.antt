-- What is read of a log, read again, is the same.
use Rattle.std.proofs.Common.{◌≡◌, ℕ, ◌≤◌, ◌⊎◌, arith, true, false, eqb, refl, List, [], ◌∷◌, ◌++◌, ⊎_elim, inl, inr, ap, sym, ◌∙◌, subst}
use Rattle.std.specs.Prelude.{◌&&◌}
use Rattle.std.proofs.lemmas.Bool.{cases_Bool, cond-false, false_from_ne_true, and_left, and_parts}
use Rattle.anstyle_parse.specs.declared.utf8.Taken.{Taken}
use Rattle.anstyle_parse.specs.declared.utf8.Taken.TheVariants.{Broken}
use Rattle.anstyle_parse.specs.declared.state.definitions.State.{State}
use Rattle.anstyle_parse.specs.declared.state.definitions.State.TheVariants.{Ground, Utf8}
use Rattle.anstyle_parse.specs.Stream.Bytes.{is_within, bell}
use Rattle.anstyle_parse.specs.Stream.Characters.{is_lead, is_well_formed, is_proper_front, replacement}
use Rattle.anstyle_parse.specs.Stream.Items.{EachIs}
use Rattle.anstyle_parse.specs.Machine.AsRead.{is_stray, is_at_ground, is_in_ignored_string, is_in_terminated_string, replacement_text, string_end, heard, read_for, read_from, as_read}
use Rattle.anstyle_parse.specs.Machine.Decoder.{decoded}
use Rattle.anstyle_parse.specs.Machine.Stands.{counted}
use Rattle.anstyle_parse.specs.Machine.Step.{Machine, new_machine, IsBroken, after_continuation, state_after_answer, step, step_from, machine_after}
use Rattle.anstyle_parse.proofs.Agreement.Fronts.{nothing_held, front_held}
use Rattle.anstyle_parse.proofs.Agreement.Whole.{machine_after-append}
use Rattle.anstyle_parse.proofs.Bytes.Passing.{EachIs-parts}
use Rattle.anstyle_parse.proofs.Characters.Encoding.{within, within_parts}
use Rattle.anstyle_parse.proofs.Characters.Table.{EachIs-front, is_front-proper, is_front-well_formed}
use Rattle.anstyle_parse.proofs.Machine.AsRead.{AreReadAsTheyAre, as_they_are-byte, as_they_are-more, as_they_are-plain, read_for-stray, read_for-end, read_for-text, read_for-other, read_for-lead, heard-again, heard-bell, string-elsewhere}
use Rattle.anstyle_parse.proofs.Machine.AsReadTo.{completed-read}
use Rattle.anstyle_parse.proofs.Machine.Runs.{begun, reading}
use Rattle.anstyle_parse.proofs.Machine.Steps.{step-at, step-broken}

-- a byte that goes on with no character breaks each
decoded-breaks : (a : ℕ) (front : List ℕ) (b : ℕ) → 0xC0 ≤ b → decoded (a ∷ front) b ≡ ([], Broken replacement)
decoded-breaks a front b high =
    let no : EachIs (is_within 0x80 0xBF) (front ++ b ∷ []) → ⊥ =
    λ each. let last = (EachIs-parts (is_within 0x80 0xBF) front (b ∷ []) each).1.0 in let ends = within_parts 0x80 0xBF b last in omega (arith, ends.1) in
    let bytes = a ∷ (front ++ b ∷ []) in
    cond-false (is_well_formed bytes) _ _ (false_from_ne_true (is_well_formed bytes) (λ h. no (EachIs-front a (front ++ b ∷ []) (is_front-well_formed bytes h))))
    ∙ cond-false (is_proper_front bytes) _ _ (false_from_ne_true (is_proper_front bytes) (λ h. no (EachIs-front a (front ++ b ∷ []) (is_front-proper bytes h))))

-- In the ground state, and at the byte that breaks a character, U+FFFD begins.
begins : (m : Machine (List ℕ)) → m.state ≡ Ground → m.accumulator ≡ [] → step decoded 0xEF m ≡ reading decoded m (0xEF ∷ [])
unfolding is_lead is_within
begins m ground empty =
    let same : record m { state = Ground; accumulator = [] } ≡ m =
    ap (λ (s : State). let r : Machine (List ℕ) = record m { state = s; accumulator = [] } in r) (sym ground)
    ∙ ap (λ (l : List ℕ). let r : Machine (List ℕ) = record m { accumulator = l } in r) (sym empty) in
    ap (λ x. step decoded 0xEF x) (sym same) ∙ (begun decoded m [] 0xEF refl refl).0

begins_broken : (m : Machine (List ℕ)) (a : ℕ) (front : List ℕ) → m.state ≡ Utf8 → m.accumulator ≡ a ∷ front → step decoded 0xEF m ≡ reading decoded m (0xEF ∷ [])
unfolding reading is_lead is_within
begins_broken m a front inside held =
    let answer : decoded m.accumulator 0xEF ≡ ([], Broken replacement) = ap (λ l. decoded l 0xEF) held ∙ decoded-breaks a front 0xEF (omega arith) in
    let breaks : IsBroken (decoded m.accumulator 0xEF).1 = subst (λ (x : List ℕ × Taken). IsBroken x.1) (sym answer) tt in
    let there : Machine (List ℕ) = record m { state = Ground; accumulator = [] } in
    let after : after_continuation decoded 0xEF m ≡ there =
    ap (λ (x : List ℕ × Taken). let r : Machine (List ℕ) = record m { accumulator = x.0; state = state_after_answer x.1 } in r) answer in
    step-broken decoded 0xEF m inside breaks
    ∙ ap (λ x. step_from decoded Ground 0xEF x) after
    ∙ sym (step-at decoded Ground 0xEF there refl)
    ∙ begins there refl refl

goes_on : (m : Machine (List ℕ)) → AreReadAsTheyAre decoded (reading decoded m (0xEF ∷ [])) (0xBF ∷ 0xBD ∷ [])
unfolding is_well_formed is_proper_front is_within
goes_on m = completed-read decoded m [] (0xEF ∷ []) (0xBF ∷ 0xBD ∷ []) replacement (inr (refl, inl (refl, refl)))

-- a byte that is handled in the ground state comes there or inside a character
at_ground_states : (state : State) (value : List ℕ) (b : ℕ) → is_at_ground decoded state value b ≡ true → (state ≡ Ground) ⊎ (state ≡ Utf8)
at_ground_states Ground value b is = inl refl
at_ground_states Utf8 value b is = inr refl
at_ground_states state value b is = absurd (cc)

-- what is read for a byte is read as it is
module _ (m : Machine (List ℕ)) (rests : m.state ≡ Ground → m.accumulator ≡ []) (holds : m.state ≡ Utf8 → (a : ℕ) × (front : List ℕ) × (m.accumulator ≡ a ∷ front)) where
  replacement-read : (b : ℕ) → is_at_ground decoded m.state m.accumulator b ≡ true → AreReadAsTheyAre decoded m replacement_text
  unfolding is_lead is_within
  replacement-read b at =
      let begun_by : step decoded 0xEF m ≡ reading decoded m (0xEF ∷ []) =
      ⊎_elim (λ ground. begins m ground (rests ground)) (λ inside. let held = holds inside in begins_broken m held.0 held.1 inside held.2)
      (at_ground_states m.state m.accumulator b at) in
      let Q : Machine (List ℕ) → Type 0 = λ x. AreReadAsTheyAre decoded x (0xBF ∷ 0xBD ∷ []) in
      as_they_are-more decoded m 0xEF (0xBF ∷ 0xBD ∷ []) (read_for-lead decoded m.state m.accumulator 0xEF refl) (subst Q (sym begun_by) (goes_on m))

  -- ESC \, wherever it stands
  string_end-read : AreReadAsTheyAre decoded m string_end
  string_end-read =
      as_they_are-plain decoded (λ n. is_within 0x1B 0x7E n)
      (λ n is. let ends = within_parts 0x1B 0x7E n is in (omega (arith, ends.1), (λ is_bell. omega (arith, ends.0, is_bell))))
      m string_end (within 0x1B 0x7E 0x1B (omega arith) (omega arith), (within 0x1B 0x7E 0x5C (omega arith) (omega arith), tt))

  -- text of a string
  text-read : (b : ℕ) → (is_in_ignored_string m.state && eqb b bell) ≡ false → is_in_terminated_string m.state ≡ true → AreReadAsTheyAre decoded m (heard b ∷ [])
  text-read b another is =
      as_they_are-byte decoded m (heard b)
      (read_for-text decoded m.state m.accumulator (heard b)
      (and_left (is_at_ground decoded m.state m.accumulator (heard b)) (is_stray (heard b)) (string-elsewhere decoded m.state m.accumulator (heard b) is))
      (ap (λ t. is_in_ignored_string m.state && t) (heard-bell b) ∙ another) is
      ∙ ap (λ n. n ∷ []) (heard-again b))

  read-stays : (b : ℕ) → AreReadAsTheyAre decoded m (read_for decoded m.state m.accumulator b)
  read-stays b =
      let stray = is_at_ground decoded m.state m.accumulator b && is_stray b in
      let ends = is_in_ignored_string m.state && eqb b bell in
      let Q : List ℕ → Type 0 = λ l. AreReadAsTheyAre decoded m l in
      ⊎_elim
      (λ is. subst Q (sym (read_for-stray decoded m.state m.accumulator b is)) (replacement-read b (and_parts (is_at_ground decoded m.state m.accumulator b) (is_stray b) is).0))
      (λ other. ⊎_elim
      (λ is. subst Q (sym (read_for-end decoded m.state m.accumulator b other is)) string_end-read)
      (λ another. ⊎_elim
      (λ is. subst Q (sym (read_for-text decoded m.state m.accumulator b other another is)) (text-read b another is))
      (λ outside. let same = read_for-other decoded m.state m.accumulator b other another outside in subst Q (sym same) (as_they_are-byte decoded m b same))
      (cases_Bool (is_in_terminated_string m.state)))
      (cases_Bool ends))
      (cases_Bool stray)

-- from where a new machine stands after any bytes
read_again : (before bytes : List ℕ) (m : Machine (List ℕ)) → m ≡ machine_after decoded before (new_machine []) → read_from decoded m (read_from decoded m bytes) ≡ read_from decoded m bytes
unfolding AreReadAsTheyAre
read_again before [] m stands = refl
read_again before (b ∷ bytes) m stands =
    let read = read_for decoded m.state m.accumulator b in
    let next = machine_after decoded read m in
    let stands_next : next ≡ machine_after decoded (before ++ read) (new_machine []) =
    ap (machine_after decoded read) stands ∙ sym (machine_after-append decoded before read (new_machine [])) in
    read-stays m (nothing_held m before (ap counted stands)) (front_held m before (ap counted stands)) b (read_from decoded next bytes) ∙ ap (λ l. read ++ l) (read_again (before ++ read) bytes next stands_next)

pub as_read-again : (bytes : List ℕ) → as_read (as_read bytes) ≡ as_read bytes
unfolding as_read
as_read-again bytes = read_again [] bytes (new_machine []) refl
