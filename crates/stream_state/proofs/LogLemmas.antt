-- A stream in pieces, read as a log: any state stands for one, and what comes next goes on with it.
use Rattle.std.proofs.Common.{◌≡◌, ℕ, Bool, true, false, eqb, eqb-true, refl, List, [], ◌∷◌, ◌++◌, ⊎_elim, ap, sym, ◌∙◌, subst, append_assoc, append-nil, IsTrue, ◌↔◌}
use Rattle.std.specs.Prelude.{◌&&◌, ⊤}
use Rattle.std.proofs.lemmas.Bool.{and_parts, cases_Bool, false≢true}
use Rattle.std.proofs.lemmas.List.{append_cancel_left}
use Rattle.anstyle_parse.specs.declared.accumulator.Utf8Parser.{Utf8Parser}
use Rattle.anstyle_parse.specs.declared.parser.Parser.{Parser}
use Rattle.anstyle_parse.specs.declared.state.definitions.State.{State}
use Rattle.anstyle_parse.specs.declared.state.definitions.State.TheVariants.{SosPmApcString, Utf8}
use Rattle.anstyle_parse.specs.Stream.Bytes.{bell, string_terminator}
use Rattle.anstyle_parse.specs.Stream.Call.{Call, print}
use Rattle.anstyle_parse.specs.Stream.Calls.{AreCalls, Continues}
use Rattle.anstyle_parse.specs.Stream.Characters.{replacement}
use Rattle.anstyle_parse.specs.Laws.Lawful.{AreLawful}
use Rattle.anstyle_parse.specs.Machine.AsRead.{is_stray, is_at_ground, is_in_ignored_string, is_in_terminated_string, read_for, read_from, as_read, as_read_whole, break_in}
use Rattle.anstyle_parse.specs.Machine.Decoder.{decoded}
use Rattle.anstyle_parse.specs.Machine.Step.{Machine, new_machine, step, machine_after, machine_calls}
use Rattle.anstyle_parse.specs.Machine.Stands.{StandsAfter, EndsInCharacter, counted}
use Rattle.anstyle_parse.specs.Views.Accumulator.{front_of, parser_after, parser_added}
use Rattle.anstyle_parse.specs.Views.AsRead.{read_by}
use Rattle.anstyle_parse.specs.Views.DecodingProof.{Decodes-parser_after}
use Rattle.anstyle_parse.specs.Views.Parser.{machine_of, AreBelow, IsAfter}
use Rattle.anstyle_parse.proofs.Agreement.Values.{value_at}
use Rattle.anstyle_parse.proofs.Agreement.Whole.{value_at-step, counted-counted, machine_calls-append, AreCalls-machine, StandsAfter-machine, StandsAfter-value, Continues-machine}
use Rattle.anstyle_parse.proofs.Canonical.Items.{AreCalls-nil}
use Rattle.anstyle_parse.proofs.Division.Ends.{EndsInCharacter-open, EndsInCharacter-state}
use Rattle.anstyle_parse.proofs.Division.Exists.{IsOpen-open_after}
use Rattle.anstyle_parse.proofs.Division.Grow.{Open, nothing, front, open_after}
use Rattle.anstyle_parse.proofs.Division.Only.{AreCalls-only}
use Rattle.anstyle_parse.proofs.Lawful.Calls.{lawful}
use Rattle.anstyle_parse.proofs.Machine.AsRead.{read_for-heard, read_from-append, read_from-counted}
use Rattle.anstyle_parse.proofs.Machine.AsReadStreams.{as_read-more, read_from-below}
use Rattle.anstyle_parse.proofs.Bytes.Classes.{terminator_byte, class_below, class_of}
use Rattle.anstyle_parse.proofs.Machine.Actions.{new_in}
use Rattle.anstyle_parse.proofs.Machine.Counted.{counted-step, step-class}
use Rattle.anstyle_parse.proofs.Machine.Passing.{Continues-calls}
use Rattle.stream_state.specs.Log.{ContinuesLog, EndsLog, end_calls}
use Rattle.anstyle_parse.proofs.Machine.LogReading.{grow-stray, broken_off, IsOutside, calls-break, bell-kept, after_string, string-step, terminated-value}

-- the only state in which strings are ignored
ignored-state : (state : State) → is_in_ignored_string state ≡ true → state ≡ SosPmApcString
ignored-state SosPmApcString e = refl
ignored-state state e = absurd (false≢true e)

-- Where a machine stands after one byte more, one stands that has read some log.
module _ (b : ℕ) (before : List ℕ) (m : Machine (List ℕ)) (stands : StandsAfter m (as_read before)) where
  abbrev o : Open
  o = open_after nothing (as_read before)

  abbrev v : Machine (List ℕ)
  v = value_at o

  same : counted m ≡ counted v
  same = sym (counted-counted m) ∙ ap counted (StandsAfter-value m (as_read before) stands)

  stepped : counted (step decoded b m) ≡ counted (step decoded b v)
  stepped = (counted-step b m v same).0

  after-stray : (is_at_ground decoded v.state v.accumulator b && is_stray b) ≡ true → StandsAfter (step decoded b m) (as_read [])
  unfolding as_read
  after-stray is =
      let both = and_parts (is_at_ground decoded v.state v.accumulator b) (is_stray b) is in
      let open_is = IsOpen-open_after nothing (as_read before) tt in
      stepped ∙ (value_at-step o b open_is).0 ∙ ap value_at (grow-stray o b open_is both.0 both.1)

  after-end : (is_in_ignored_string v.state && eqb b bell) ≡ true → StandsAfter (step decoded b m) (as_read before)
  after-end is =
      let both = and_parts (is_in_ignored_string v.state) (eqb b bell) is in
      stepped ∙ ap (λ n. counted (step decoded n v)) (eqb-true b bell both.1) ∙ bell-kept v (ignored-state v.state both.0) ∙ sym same ∙ stands

  -- 9C ends the string that is open
  after-terminator : is_in_terminated_string v.state ≡ true → b ≡ 0x9C → StandsAfter (step decoded b m) (as_read [])
  unfolding as_read after_string class_of class_below
  after-terminator is terminator =
      stepped ∙ ap (λ n. counted (step decoded n v)) terminator
      ∙ ap (λ (x : Machine (List ℕ)). counted (step decoded 0x9C x)) (terminated-value o is)
      ∙ ap counted (step-class decoded 0x9C (new_in v.state []))
      ∙ string-step v.state is terminator_byte 0x9C

  after-same : read_for decoded v.state v.accumulator b ≡ b ∷ [] → StandsAfter (step decoded b m) (as_read (before ++ b ∷ []))
  unfolding as_read
  after-same is =
      let n = machine_after decoded (as_read before) (new_machine []) in
      let read : read_from decoded n (b ∷ []) ≡ b ∷ [] = read_from-counted decoded n v (sym stands ∙ same) (b ∷ []) ∙ ap (λ l. l ++ []) is in
      subst (StandsAfter (step decoded b m)) (sym (read_from-append decoded (new_machine []) before (b ∷ []) ∙ ap (λ l. as_read before ++ l) read))
      (StandsAfter-machine m (as_read before) (b ∷ []) stands)

  after_byte : (log : List ℕ) × StandsAfter (step decoded b m) (as_read log)
  after_byte =
      let terminated = is_in_terminated_string v.state in
      ⊎_elim
      (λ is. ([], after-stray is))
      (λ other. ⊎_elim (λ is. (before, after-end is))
      (λ another. ⊎_elim
      (λ is. let both = and_parts terminated (eqb b string_terminator) is in ([], after-terminator both.0 (eqb-true b string_terminator both.1)))
      (λ further. (before ++ b ∷ [], after-same (read_for-heard decoded v.state v.accumulator b other another further)))
      (cases_Bool (terminated && eqb b string_terminator)))
      (cases_Bool (is_in_ignored_string v.state && eqb b bell)))
      (cases_Bool (is_at_ground decoded v.state v.accumulator b && is_stray b))

after_bytes : (bytes before : List ℕ) (m : Machine (List ℕ)) → StandsAfter m (as_read before) → (log : List ℕ) × StandsAfter (machine_after decoded bytes m) (as_read log)
after_bytes [] before m stands = (before, stands)
after_bytes (b ∷ bytes) before m stands =
    let one = after_byte b before m stands in
    after_bytes bytes one.0 (step decoded b m) one.1

-- so a new machine that took any bytes stands after some log
pub any_log : (bytes : List ℕ) → (log : List ℕ) × StandsAfter (machine_after decoded bytes (new_machine [])) (as_read log)
unfolding as_read
any_log bytes = after_bytes bytes [] (new_machine []) refl

-- what a parser that stands there reads of more bytes continues the log
pub ContinuesLog-calls : (old : Parser Utf8Parser) (bytes : List ℕ) → AreBelow 256 bytes → (before : List ℕ) → IsAfter front_of old (as_read before)
    → ContinuesLog before bytes (machine_calls parser_after (read_by old bytes) (machine_of old))
ContinuesLog-calls old bytes below before stands own are =
    let read = read_by old bytes in
    let more = machine_calls parser_after read (machine_of old) in
    subst (λ l. AreCalls l (own ++ more)) (sym (as_read-more old before bytes below stands))
    (Continues-calls front_of (λ _ _. ⊤) parser_added parser_after Decodes-parser_after old read
    (read_from-below parser_after (machine_of old) bytes below) (as_read before) stands own are)

pub ContinuesLog-append : (before first second : List ℕ) (calls more : List Call) → ContinuesLog before first calls
    → ContinuesLog (before ++ first) second more → ContinuesLog before (first ++ second) (calls ++ more)
ContinuesLog-append before first second calls more one two = λ own are.
    subst (λ (l : List ℕ). AreCalls (as_read l) (own ++ (calls ++ more))) (append_assoc before first second)
    (subst (λ (l : List Call). AreCalls (as_read ((before ++ first) ++ second)) l) (append_assoc own calls more) (two (own ++ calls) (one own are)))

pub ContinuesLog-nil : (before : List ℕ) → ContinuesLog before [] []
ContinuesLog-nil before = λ own are.
    subst (λ (l : List ℕ). AreCalls (as_read l) (own ++ [])) (sym (append-nil before)) (subst (λ (l : List Call). AreCalls (as_read before) l) (sym (append-nil own)) are)

-- of a stream that begins
pub AreCalls-log_begins : AreCalls (as_read []) []
unfolding as_read
AreCalls-log_begins = AreCalls-nil

-- the calls are those of the machine that stands there
pub ContinuesLog-only : (before bytes : List ℕ) (calls : List Call) → ContinuesLog before bytes calls →
    let m = machine_after decoded (as_read before) (new_machine []) in
    calls ≡ machine_calls decoded (read_from decoded m bytes) m
unfolding as_read
ContinuesLog-only before bytes calls continues =
    let x = as_read before in
    let m = machine_after decoded x (new_machine []) in
    let first = machine_calls decoded x (new_machine []) in
    let read = read_from decoded m bytes in
    let all : as_read (before ++ bytes) ≡ x ++ read = read_from-append decoded (new_machine []) before bytes in
    append_cancel_left first calls (machine_calls decoded read m)
    (AreCalls-only (x ++ read) (first ++ calls) (machine_calls decoded (x ++ read) (new_machine []))
    (subst (λ l. AreCalls l (first ++ calls)) all (continues first (AreCalls-machine x))) (AreCalls-machine (x ++ read))
    ∙ machine_calls-append decoded x read (new_machine []))

-- the calls of a log are lawful
pub lawful-log : (before bytes : List ℕ) (calls : List Call) → ContinuesLog before bytes calls
    → AreLawful (machine_calls decoded (as_read before) (new_machine []) ++ calls)
lawful-log before bytes calls continues =
    let first = machine_calls decoded (as_read before) (new_machine []) in
    lawful (as_read (before ++ bytes)) (first ++ calls) (continues first (AreCalls-machine (as_read before)))

-- The end of a log: a character that is begun is U+FFFD, and all else leaves nothing.
module _ (before : List ℕ) where
  abbrev at_end : Machine (List ℕ)
  at_end = machine_after decoded (as_read before) (new_machine [])

  whole-at : as_read_whole before ≡ as_read before ++ break_in at_end.state
  unfolding as_read_whole
  whole-at = refl

  broken-at : (bytes : List ℕ) → open_after nothing (as_read before) ≡ front bytes → machine_calls decoded (0xFF ∷ []) at_end ≡ print replacement ∷ []
  unfolding broken_off IsOutside
  broken-at bytes is =
      let o = open_after nothing (as_read before) in
      let v = value_at o in
      let Q : Open → Type 0 = λ x. IsOutside x in
      let same : counted at_end ≡ counted v = sym (counted-counted at_end) ∙ ap counted (StandsAfter-value at_end (as_read before) refl) in
      append-nil _ ∙ (counted-step 0xFF at_end v same).1
      ∙ calls-break o (IsOpen-open_after nothing (as_read before) tt) (subst Q (sym is) tt) ∙ ap broken_off is

  pub EndsLog-in : EndsInCharacter (as_read before) → EndsLog before (print replacement ∷ [])
  EndsLog-in ends own are =
      let open_is = (EndsInCharacter-open (as_read before)).1 ends in
      let inside = (EndsInCharacter-state at_end (as_read before) refl).1 ends in
      subst (λ l. AreCalls l (own ++ print replacement ∷ [])) (sym (whole-at ∙ ap (λ s. as_read before ++ break_in s) inside))
      (subst (Continues (as_read before) (0xFF ∷ [])) (broken-at open_is.0 open_is.1) (Continues-machine at_end (as_read before) (0xFF ∷ []) refl) own are)

  nothing-in : (state : State) → (state ≡ Utf8 → ⊥) → break_in state ≡ []
  nothing-in Utf8 outside = absurd (outside refl)
  nothing-in state outside = refl

  pub EndsLog-out : (EndsInCharacter (as_read before) → ⊥) → EndsLog before []
  EndsLog-out outside own are =
      let none = nothing-in at_end.state (λ inside. outside ((EndsInCharacter-state at_end (as_read before) refl).0 inside)) in
      subst (λ l. AreCalls l (own ++ [])) (sym (whole-at ∙ ap (λ l. as_read before ++ l) none ∙ append-nil (as_read before)))
      (subst (AreCalls (as_read before)) (sym (append-nil own)) are)

-- by whether a character is begun
pub EndsLog-by : (is_begun : Bool) (before : List ℕ) → (IsTrue is_begun ↔ EndsInCharacter (as_read before)) → EndsLog before (end_calls is_begun)
EndsLog-by true before begun = EndsLog-in before (begun.0 refl)
EndsLog-by false before begun = EndsLog-out before (λ ends. false≢true (begun.1 ends))
