-- How much text the bytes of a piece lead to: three bytes for each, and one more where they end
-- a character that was begun before.
use Rattle.std.proofs.Common.{◌≡◌, ◌≤◌, ◌+◌, ◌*◌, ℕ, Bool, true, false, List, [], ◌∷◌, ◌++◌, length, refl, sym, ap, ◌∙◌, arith, lit≤, IsTrue}
use Rattle.std.specs.Prelude.{encode_utf8, if◌then◌else◌}
use Rattle.std.specs.List.{list_any, sum_by}
use Rattle.std.proofs.lemmas.Bool.{ltb-true, false≢true}
use Rattle.std.proofs.lemmas.List.Sums.{sum_by-cons}
use Rattle.std.proofs.lemmas.Str.{length-encode, len_utf8_bounds}
use Rattle.anstyle_parse.specs.declared.utf8.Taken.{Taken}
use Rattle.anstyle_parse.specs.declared.utf8.Taken.TheVariants.{More, Char, Broken}
use Rattle.anstyle_parse.specs.declared.state.definitions.State.{State}
use Rattle.anstyle_parse.specs.declared.state.definitions.State.TheVariants.{Ground, Utf8}
use Rattle.anstyle_parse.specs.Stream.Bytes.{is_intermediate}
use Rattle.anstyle_parse.specs.Stream.Call.{Call}
use Rattle.anstyle_parse.specs.Stream.Calls.{Continues}
use Rattle.anstyle_parse.specs.Stream.Characters.{is_well_formed, is_proper_front, character_of, replacement}
use Rattle.anstyle_parse.specs.Stream.Arguments.{significant}
use Rattle.anstyle_parse.specs.Stream.Items.{Body, escape, csi, dcs_header}
use Rattle.anstyle_parse.specs.Laws.TextLength.{text_length}
use Rattle.anstyle_parse.specs.Machine.Decoder.{decoded}
use Rattle.anstyle_parse.specs.Machine.Step.{Machine, new_machine, state_after_answer, step, step_calls, machine_after, machine_calls}
use Rattle.anstyle_parse.specs.Machine.Stands.{counted}
use Rattle.anstyle_parse.proofs.Bytes.Classes.{Class, intermediate_byte, digit_byte, colon_byte, semicolon_byte, marker_byte, device_byte, string_byte, control_introducer, command_byte, final_byte, delete_byte, lead_byte, class_of, is_ascii_at, is_ascii-class, is_lead_at, is_lead-class}
use Rattle.anstyle_parse.proofs.Characters.Encoding.{encode_one, encode_three}
use Rattle.anstyle_parse.proofs.Division.Grow.{Open, nothing, front, inside, start, grow, more, done, break_off, Growth, open_after}
use Rattle.anstyle_parse.specs.Stream.Items.{character}
use Rattle.anstyle_parse.proofs.Division.Exists.{IsOpen, Grown-grow, IsOpen-open_after}
use Rattle.anstyle_parse.proofs.Division.Only.{AreCalls-only}
use Rattle.anstyle_parse.proofs.Machine.Counted.{step_calls_at, answer_calls_at, step_calls-class, counted-step}
use Rattle.anstyle_parse.proofs.Agreement.Values.{Phase, at_entry, phase_of, control_value, device_value, registers, escape_state, body_value, value_at}
use Rattle.anstyle_parse.proofs.Agreement.Whole.{value_at-step, counted-counted, machine-division, machine_calls-append, AreCalls-machine}

-- the text that a list of calls leads to
all_text : List Call → ℕ
all_text [] = 0
all_text (call ∷ calls) = text_length call + all_text calls

all_text-sum : (calls : List Call) → sum_by text_length calls ≡ all_text calls
unfolding all_text
all_text-sum [] = refl
all_text-sum (call ∷ calls) = omega (arith, sum_by-cons text_length call calls, all_text-sum calls)

all_text-append : (calls others : List Call) → all_text (calls ++ others) ≡ all_text calls + all_text others
unfolding all_text
all_text-append [] others = omega arith
all_text-append (call ∷ calls) others = omega (arith, all_text-append calls others)

-- what a character that is begun may lead to beyond three bytes for each further byte
owed : Open → ℕ
owed (front bytes) = 1
owed o = 0

owed-few : (o : Open) → owed o ≤ 1
unfolding owed
owed-few (front bytes) = lit≤ tt
owed-few o = lit≤ tt

-- where nothing is open: one byte of text, or a character is begun
module _ (b : ℕ) (c : Class) (class : class_of b ≡ c) where
  printed-left : is_ascii_at c ≡ true → length (encode_utf8 b) + 0 + 0 ≤ 1
  printed-left ascii = omega (arith, ap length (encode_one b (ltb-true b 0x80 (is_ascii-class b ∙ (ap is_ascii_at class ∙ ascii)))))

ground-left : (c : Class) (b : ℕ) (m : Machine (List ℕ)) → class_of b ≡ c
    → all_text (step_calls_at decoded Ground c b (record m { state = Ground; accumulator = [] })) + owed (start b c).next ≤ 1
unfolding all_text owed
ground-left lead_byte b m class = rw (is_ascii-class b ∙ ap is_ascii_at class, is_lead-class b ∙ ap is_lead_at class) (lit≤ tt)
ground-left intermediate_byte b m class = printed-left b intermediate_byte class refl
ground-left digit_byte b m class = printed-left b digit_byte class refl
ground-left colon_byte b m class = printed-left b colon_byte class refl
ground-left semicolon_byte b m class = printed-left b semicolon_byte class refl
ground-left marker_byte b m class = printed-left b marker_byte class refl
ground-left device_byte b m class = printed-left b device_byte class refl
ground-left string_byte b m class = printed-left b string_byte class refl
ground-left control_introducer b m class = printed-left b control_introducer class refl
ground-left command_byte b m class = printed-left b command_byte class refl
ground-left final_byte b m class = printed-left b final_byte class refl
ground-left delete_byte b m class = printed-left b delete_byte class refl
ground-left c b m class = lit≤ tt

-- the states inside a sequence
unfoldable pub is_inside : State → Bool
is_inside Ground = false
is_inside Utf8 = false
is_inside state = true

-- there: one byte of text
inside-left : (c : Class) (state : State) (b : ℕ) (m : Machine (List ℕ)) → is_inside state ≡ true → all_text (step_calls_at decoded state c b (record m { state = state })) ≤ 1
unfolding all_text is_inside
inside-left c Ground b m is = absurd (false≢true is)
inside-left c Utf8 b m is = absurd (false≢true is)
inside-left lead_byte state b m is = lit≤ tt
inside-left c state b m is = lit≤ tt

escape-inside : (some : Bool) → is_inside (escape_state some) ≡ true
unfolding is_inside
escape-inside true = refl
escape-inside false = refl

control-inside : (phase : Phase) (m : Machine (List ℕ)) → is_inside (control_value phase m).state ≡ true
unfolding is_inside
control-inside at_entry m = refl
control-inside phase m = refl

device-inside : (phase : Phase) (m : Machine (List ℕ)) → is_inside (device_value phase m).state ≡ true
unfolding is_inside
device-inside at_entry m = refl
device-inside phase m = refl

pub body-inside : (body : Body) → is_inside (body_value body).state ≡ true
unfolding is_inside
body-inside (escape bytes) = escape-inside (list_any is_intermediate bytes)
body-inside (csi between header) = control-inside (phase_of (significant header)) (registers (significant header))
body-inside (dcs_header between header) = device-inside (phase_of (significant header)) (registers (significant header))
body-inside body = refl

-- inside a character, by the tests of what it is with one byte more
front_by : (whole proper : Bool) (bytes : List ℕ) (b : ℕ) →
    let answer : List ℕ × Taken = if whole then ([], Char (character_of (bytes ++ b ∷ []))) else if proper then (bytes ++ b ∷ [], More) else ([], Broken replacement) in
    let growth : Growth = if whole then done (character (bytes ++ b ∷ [])) else if proper then more (front (bytes ++ b ∷ [])) else break_off bytes (start b (class_of b)) in
    all_text (answer_calls_at decoded answer.1 (class_of b) b (record (new_machine answer.0) { state = state_after_answer answer.1 })) + owed growth.next ≤ 4
unfolding all_text owed
front_by true proper bytes b = omega (arith, length-encode (character_of (bytes ++ b ∷ [])), (len_utf8_bounds (character_of (bytes ++ b ∷ []))).1)
front_by false true bytes b = lit≤ tt
front_by false false bytes b =
    let three : length (encode_utf8 replacement) ≡ 3 = ap length (encode_three replacement (lit≤ tt) (lit≤ tt)) in
    omega (arith, three, ground-left (class_of b) b (new_machine []) refl)

front-left : (bytes : List ℕ) (b : ℕ) → IsTrue (is_proper_front bytes) → all_text (step_calls_at decoded Utf8 (class_of b) b (value_at (front bytes))) + owed (grow (front bytes) b).next ≤ 4
unfolding is_proper_front grow
front-left [] b proper = absurd (false≢true proper)
front-left (a ∷ bytes) b proper = front_by (is_well_formed (a ∷ (bytes ++ b ∷ []))) (is_proper_front (a ∷ (bytes ++ b ∷ []))) (a ∷ bytes) b

-- one byte after an open item
calls-left : (o : Open) (b : ℕ) → IsOpen o → all_text (step_calls_at decoded (value_at o).state (class_of b) b (value_at o)) + owed (grow o b).next ≤ 3 + owed o
unfolding grow owed
calls-left nothing b is = omega (arith, ground-left (class_of b) b (new_machine []) refl)
calls-left (front bytes) b is = front-left bytes b is
calls-left (inside body) b is = omega (arith, inside-left (class_of b) (body_value body).state b (body_value body) (body-inside body), owed-few (grow (inside body) b).next)

no_text : (o : Open) → all_text [] ≤ 3 * 0 + owed o
unfolding all_text
no_text o = omega arith

-- the bytes after it, at a machine that stands there
machine-left : (o : Open) (bytes : List ℕ) (m : Machine (List ℕ)) → IsOpen o → counted m ≡ value_at o → all_text (machine_calls decoded bytes m) ≤ 3 * length bytes + owed o
machine-left o [] m is e = no_text o
machine-left o (b ∷ bytes) m is e =
    let same = counted-step b m (value_at o) (sym (counted-counted m) ∙ ap counted e) in
    let calls = step_calls decoded b m in
    let shown = same.1 ∙ step_calls-class decoded b (value_at o) in
    omega (
      arith,
      all_text-append calls (machine_calls decoded bytes (step decoded b m)),
      ap all_text shown,
      calls-left o b is,
      machine-left (grow o b).next bytes (step decoded b m) (Grown-grow o b is).next (same.0 ∙ (value_at-step o b is).0),
    )

-- what continues the calls of the bytes before
pub text_length-continued : (before bytes : List ℕ) (calls : List Call) → Continues before bytes calls → sum_by text_length calls ≤ 3 * length bytes + 1
text_length-continued before bytes calls continues =
    let m = machine_after decoded before (new_machine []) in
    let first = machine_calls decoded before (new_machine []) in
    let others = machine_calls decoded bytes m in
    let same = AreCalls-only (before ++ bytes) (first ++ calls) (machine_calls decoded (before ++ bytes) (new_machine [])) (continues first (AreCalls-machine before)) (AreCalls-machine (before ++ bytes))
    ∙ machine_calls-append decoded before bytes (new_machine []) in
    let o = open_after nothing before in
    omega (
      arith,
      all_text-sum calls,
      ap all_text same,
      all_text-append first calls,
      all_text-append first others,
      machine-left o bytes m (IsOpen-open_after nothing before tt) (machine-division before).0,
      owed-few o,
    )
