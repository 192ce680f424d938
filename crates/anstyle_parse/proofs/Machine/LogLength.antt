-- How much text the bytes of a log lead to: three bytes for each, and three more where they break a character that was
-- begun before.
use Rattle.std.proofs.Common.{◌≡◌, ◌≤◌, ◌+◌, ◌*◌, ℕ, Bool, true, false, eqb, List, [], ◌∷◌, ◌++◌, length, refl, sym, ap, ◌∙◌, subst, arith, lit≤, IsTrue, ⊎_elim, append-nil}
use Rattle.std.specs.Prelude.{encode_utf8, if◌then◌else◌, ◌&&◌}
use Rattle.std.specs.List.{list_any, sum_by}
use Rattle.std.proofs.lemmas.Bool.{ltb-true, false≢true, and_parts, cases_Bool}
use Rattle.std.proofs.lemmas.List.Sums.{sum_by-cons}
use Rattle.std.proofs.lemmas.Str.{length-encode, len_utf8_bounds}
use Rattle.anstyle_parse.specs.declared.utf8.Taken.{Taken}
use Rattle.anstyle_parse.specs.declared.utf8.Taken.TheVariants.{More, Char, Broken}
use Rattle.anstyle_parse.specs.declared.state.definitions.State.{State}
use Rattle.anstyle_parse.specs.declared.state.definitions.State.TheVariants.{Ground, SosPmApcString, Utf8}
use Rattle.anstyle_parse.specs.Stream.Bytes.{bell, is_intermediate}
use Rattle.anstyle_parse.specs.Stream.Arguments.{significant, has_shape}
use Rattle.anstyle_parse.specs.Stream.Call.{Call, print}
use Rattle.anstyle_parse.specs.Stream.Calls.{AreCalls}
use Rattle.anstyle_parse.specs.Stream.Characters.{is_well_formed, is_proper_front, character_of, replacement}
use Rattle.anstyle_parse.specs.Stream.Items.{Body, escape, csi, dcs_header, dcs, dcs_ignored, osc, sos_pm_apc, character}
use Rattle.anstyle_parse.specs.Laws.TextLength.{text_length}
use Rattle.anstyle_parse.specs.Machine.AsRead.{is_stray, is_at_ground, is_in_ignored_string, is_in_terminated_string, replacement_text, string_end, heard, read_for, read_from, as_read, as_read_whole}
use Rattle.anstyle_parse.specs.Machine.Decoder.{decoded}
use Rattle.anstyle_parse.specs.Machine.Step.{Machine, new_machine, state_after_answer, step_calls, machine_after, machine_calls}
use Rattle.anstyle_parse.specs.Machine.Stands.{counted}
use Rattle.anstyle_parse.proofs.Agreement.Values.{body_value, value_at}
use Rattle.anstyle_parse.proofs.Agreement.Whole.{value_at-step, counted-counted, machine_after-append, machine_calls-append, AreCalls-machine}
use Rattle.anstyle_parse.proofs.Bytes.Classes.{Class, cancel_byte, esc_byte, intermediate_byte, digit_byte, colon_byte, semicolon_byte, marker_byte, device_byte, string_byte, control_introducer, command_byte, final_byte, delete_byte, lead_byte, terminator_byte, bell_byte, class_of, is_ascii_at, is_ascii-class, is_lead_at, is_lead-class}
use Rattle.anstyle_parse.proofs.Canonical.TextLength.{is_inside, body-inside}
use Rattle.anstyle_parse.proofs.Characters.Encoding.{encode_one, encode_three}
use Rattle.anstyle_parse.proofs.Division.Exists.{IsOpen, Grown-grow}
use Rattle.anstyle_parse.proofs.Division.Grow.{Open, nothing, front, inside, Growth, start, grow, more, done, break_off, grow_escape, grow_control, grow_device, grow_hooked, grow_dropped, grow_command, grow_ignored, grow_within, grow_body}
use Rattle.anstyle_parse.proofs.Machine.AsRead.{read_for-stray, read_for-end, read_for-text, read_for-other, read_from-counted}
use Rattle.anstyle_parse.proofs.Machine.Actions.{new_in}
use Rattle.anstyle_parse.proofs.Machine.Counted.{step_calls_at, answer_calls_at, step_calls-class, counted-machine}
use Rattle.anstyle_parse.proofs.Division.Only.{AreCalls-only}
use Rattle.anstyle_parse.proofs.Machine.LogReading.{broken_off, IsOutside, outside-at, calls-replaced, after-replaced, end-read, ignored-value, calls-whole}

-- the text that a list of calls leads to
all_text : List Call → ℕ
all_text [] = 0
all_text (call ∷ calls) = text_length call + all_text calls

all_text-sum : (calls : List Call) → sum_by text_length calls ≡ all_text calls
unfolding all_text
all_text-sum [] = refl
all_text-sum (call ∷ calls) = omega (arith, sum_by-cons text_length call calls, all_text-sum calls)

all_text-append : (calls others : List Call) → all_text (calls ++ others) ≡ all_text calls + all_text others
unfolding all_text
all_text-append [] others = omega arith
all_text-append (call ∷ calls) others = omega (arith, all_text-append calls others)

-- what a character that is begun may lead to beyond three bytes for each further byte
owed : Open → ℕ
owed (front bytes) = 3
owed o = 0

owed-few : (o : Open) → owed o ≤ 3
unfolding owed
owed-few (front bytes) = lit≤ tt
owed-few o = lit≤ tt

-- where nothing is open: one byte of text, or a character is begun
module _ (b : ℕ) (c : Class) (class : class_of b ≡ c) where
  printed-left : is_ascii_at c ≡ true → length (encode_utf8 b) + 0 + 0 ≤ 3
  printed-left ascii = omega (arith, ap length (encode_one b (ltb-true b 0x80 (is_ascii-class b ∙ (ap is_ascii_at class ∙ ascii)))))

ground-left : (c : Class) (b : ℕ) (m : Machine (List ℕ)) → class_of b ≡ c
    → all_text (step_calls_at decoded Ground c b (record m { state = Ground; accumulator = [] })) + owed (start b c).next ≤ 3
unfolding all_text owed
ground-left lead_byte b m class = rw (is_ascii-class b ∙ ap is_ascii_at class, is_lead-class b ∙ ap is_lead_at class) (lit≤ tt)
ground-left intermediate_byte b m class = printed-left b intermediate_byte class refl
ground-left digit_byte b m class = printed-left b digit_byte class refl
ground-left colon_byte b m class = printed-left b colon_byte class refl
ground-left semicolon_byte b m class = printed-left b semicolon_byte class refl
ground-left marker_byte b m class = printed-left b marker_byte class refl
ground-left device_byte b m class = printed-left b device_byte class refl
ground-left string_byte b m class = printed-left b string_byte class refl
ground-left control_introducer b m class = printed-left b control_introducer class refl
ground-left command_byte b m class = printed-left b command_byte class refl
ground-left final_byte b m class = printed-left b final_byte class refl
ground-left delete_byte b m class = printed-left b delete_byte class refl
ground-left c b m class = lit≤ tt

-- inside a sequence: one byte of text
inside-left : (c : Class) (state : State) (b : ℕ) (m : Machine (List ℕ)) → is_inside state ≡ true → all_text (step_calls_at decoded state c b (record m { state = state })) ≤ 1
unfolding all_text is_inside
inside-left c Ground b m is = absurd (false≢true is)
inside-left c Utf8 b m is = absurd (false≢true is)
inside-left lead_byte state b m is = lit≤ tt
inside-left c state b m is = lit≤ tt

-- and no character begins there
Begins : Growth → Type 0
Begins growth = owed growth.next ≡ 0

begins-if : (t : Bool) (g h : Growth) → Begins g → Begins h → Begins (if t then g else h)
unfolding Begins
begins-if true g h first second = first
begins-if false g h first second = second

escape-begins : (bytes : List ℕ) (b : ℕ) (c : Class) → Begins (grow_escape bytes b c)
unfolding Begins owed
escape-begins bytes b device_byte = begins-if (list_any is_intermediate bytes) _ _ refl refl
escape-begins bytes b string_byte = begins-if (list_any is_intermediate bytes) _ _ refl refl
escape-begins bytes b control_introducer = begins-if (list_any is_intermediate bytes) _ _ refl refl
escape-begins bytes b command_byte = begins-if (list_any is_intermediate bytes) _ _ refl refl
escape-begins bytes b c = refl

device-begins : (between header : List ℕ) (b : ℕ) (c : Class) → Begins (grow_device between header b c)
unfolding Begins owed
device-begins between header b intermediate_byte = begins-if (has_shape (significant header ++ b ∷ [])) _ _ refl refl
device-begins between header b digit_byte = begins-if (has_shape (significant header ++ b ∷ [])) _ _ refl refl
device-begins between header b colon_byte = begins-if (has_shape (significant header ++ b ∷ [])) _ _ refl refl
device-begins between header b semicolon_byte = begins-if (has_shape (significant header ++ b ∷ [])) _ _ refl refl
device-begins between header b marker_byte = begins-if (has_shape (significant header ++ b ∷ [])) _ _ refl refl
device-begins between header b c = refl

control-begins : (between header : List ℕ) (b : ℕ) (c : Class) → Begins (grow_control between header b c)
unfolding Begins owed
control-begins between header b device_byte = refl
control-begins between header b string_byte = refl
control-begins between header b control_introducer = refl
control-begins between header b command_byte = refl
control-begins between header b final_byte = refl
control-begins between header b c = refl

hooked-begins : (between header : List ℕ) (final : ℕ) (text : List ℕ) (b : ℕ) (c : Class) → Begins (grow_hooked between header final text b c)
unfolding Begins owed
hooked-begins between header final text b terminator_byte = refl
hooked-begins between header final text b c = refl

dropped-begins : (between header : List ℕ) (byte : ℕ) (text : List ℕ) (b : ℕ) (c : Class) → Begins (grow_dropped between header byte text b c)
unfolding Begins owed
dropped-begins between header byte text b terminator_byte = refl
dropped-begins between header byte text b c = refl

command-begins : (between text : List ℕ) (b : ℕ) (c : Class) → Begins (grow_command between text b c)
unfolding Begins owed
command-begins between text b bell_byte = refl
command-begins between text b c = refl

ignored-begins : (between : List ℕ) (kind : ℕ) (text : List ℕ) (b : ℕ) (c : Class) → Begins (grow_ignored between kind text b c)
unfolding Begins owed
ignored-begins between kind text b terminator_byte = refl
ignored-begins between kind text b c = refl

within-begins : (body : Body) (b : ℕ) (c : Class) → Begins (grow_within body b c)
within-begins (escape bytes) b c = escape-begins bytes b c
within-begins (csi between header) b c = control-begins between header b c
within-begins (dcs_header between header) b c = device-begins between header b c
within-begins (dcs between header final text) b c = hooked-begins between header final text b c
within-begins (dcs_ignored between header byte text) b c = dropped-begins between header byte text b c
within-begins (osc between text) b c = command-begins between text b c
within-begins (sos_pm_apc between kind text) b c = ignored-begins between kind text b c

body-begins : (body : Body) (b : ℕ) (c : Class) → Begins (grow_body body b c)
unfolding Begins owed
body-begins body b esc_byte = refl
body-begins body b cancel_byte = refl
body-begins body b c = within-begins body b c

-- inside a character, by the tests of what it is with one byte more
front_by : (whole proper : Bool) (bytes : List ℕ) (b : ℕ) →
    let answer : List ℕ × Taken = if whole then ([], Char (character_of (bytes ++ b ∷ []))) else if proper then (bytes ++ b ∷ [], More) else ([], Broken replacement) in
    let growth : Growth = if whole then done (character (bytes ++ b ∷ [])) else if proper then more (front (bytes ++ b ∷ [])) else break_off bytes (start b (class_of b)) in
    all_text (answer_calls_at decoded answer.1 (class_of b) b (record (new_machine answer.0) { state = state_after_answer answer.1 })) + owed growth.next ≤ 6
unfolding all_text owed
front_by true proper bytes b = omega (arith, length-encode (character_of (bytes ++ b ∷ [])), (len_utf8_bounds (character_of (bytes ++ b ∷ []))).1)
front_by false true bytes b = lit≤ tt
front_by false false bytes b =
    let three : length (encode_utf8 replacement) ≡ 3 = ap length (encode_three replacement (lit≤ tt) (lit≤ tt)) in
    omega (arith, three, ground-left (class_of b) b (new_machine []) refl)

front-left : (bytes : List ℕ) (b : ℕ) → IsTrue (is_proper_front bytes) → all_text (step_calls_at decoded Utf8 (class_of b) b (value_at (front bytes))) + owed (grow (front bytes) b).next ≤ 6
unfolding is_proper_front grow
front-left [] b proper = absurd (false≢true proper)
front-left (a ∷ bytes) b proper = front_by (is_well_formed (a ∷ (bytes ++ b ∷ []))) (is_proper_front (a ∷ (bytes ++ b ∷ []))) (a ∷ bytes) b

-- one byte after an open item
calls-left : (o : Open) (b : ℕ) → IsOpen o → all_text (step_calls_at decoded (value_at o).state (class_of b) b (value_at o)) + owed (grow o b).next ≤ 3 + owed o
unfolding grow owed Begins
calls-left nothing b is = omega (arith, ground-left (class_of b) b (new_machine []) refl)
calls-left (front bytes) b is = front-left bytes b is
calls-left (inside body) b is = omega (arith, inside-left (class_of b) (body_value body).state b (body_value body) (body-inside body), body-begins body b (class_of b))

-- What is read of a byte, and its calls: what is open after it.
record Reads (o : Open) (read : List ℕ) : Type 0 where
  pub next : Open
  pub is_open : IsOpen next
  pub stands : counted (machine_after decoded read (value_at o)) ≡ value_at next
  pub few : all_text (machine_calls decoded read (value_at o)) + owed next ≤ 3 + owed o

module _ (o : Open) (b : ℕ) (is : IsOpen o) where
  reads-byte : Reads o (b ∷ [])
  reads-byte =
      let calls = step_calls decoded b (value_at o) in
      record {
        next = (grow o b).next;
        is_open = (Grown-grow o b is).next;
        stands = (value_at-step o b is).0;
        few = omega (arith, ap all_text (append-nil calls ∙ step_calls-class decoded b (value_at o)), calls-left o b is);
      }

off-few : (o : Open) → all_text (broken_off o) ≤ owed o
unfolding all_text owed broken_off
off-few (front bytes) = omega (arith, ap length (encode_three replacement (lit≤ tt) (lit≤ tt)))
off-few nothing = lit≤ tt
off-few (inside body) = lit≤ tt

reads-replaced : (o : Open) → IsOpen o → IsOutside o → Reads o replacement_text
unfolding owed all_text
reads-replaced o is outside =
    let three : length (encode_utf8 replacement) ≡ 3 = ap length (encode_three replacement (lit≤ tt) (lit≤ tt)) in
    record {
      next = nothing;
      is_open = tt;
      stands = after-replaced o is outside;
      few = omega (arith, ap all_text (calls-replaced o is outside), all_text-append (broken_off o) (print replacement ∷ []), off-few o, three);
    }

reads-ended : (o : Open) → value_at o ≡ new_in SosPmApcString [] → Reads o string_end
unfolding owed all_text
reads-ended o same = record {
  next = nothing;
  is_open = tt;
  stands = ap (λ (m : Machine (List ℕ)). counted (machine_after decoded string_end m)) same ∙ end-read.1;
  few = omega (arith, ap all_text (ap (machine_calls decoded string_end) same ∙ end-read.0));
}

reads : (o : Open) (b : ℕ) → IsOpen o → Reads o (read_for decoded (value_at o).state (value_at o).accumulator b)
reads o b is =
    let v = value_at o in
    let at = is_at_ground decoded v.state v.accumulator b in
    let ignored = is_in_ignored_string v.state in
    ⊎_elim
    (λ stray. subst (Reads o) (sym (read_for-stray decoded v.state v.accumulator b stray)) (reads-replaced o is (outside-at o b (and_parts at (is_stray b) stray).0)))
    (λ other. ⊎_elim
    (λ ends. subst (Reads o) (sym (read_for-end decoded v.state v.accumulator b other ends)) (reads-ended o (ignored-value o (and_parts ignored (eqb b bell) ends).0)))
    (λ another. ⊎_elim
    (λ inside. subst (Reads o) (sym (read_for-text decoded v.state v.accumulator b other another inside)) (reads-byte o (heard b) is))
    (λ outside. subst (Reads o) (sym (read_for-other decoded v.state v.accumulator b other another outside)) (reads-byte o b is))
    (cases_Bool (is_in_terminated_string v.state)))
    (cases_Bool (ignored && eqb b bell)))
    (cases_Bool (at && is_stray b))

-- What is read of bytes, and its calls.
record ReadsAll (o : Open) (bytes : List ℕ) : Type 0 where
  pub next : Open
  pub is_open : IsOpen next
  pub stands : counted (machine_after decoded (read_from decoded (value_at o) bytes) (value_at o)) ≡ counted (value_at next)
  pub few : all_text (machine_calls decoded (read_from decoded (value_at o) bytes) (value_at o)) + owed next ≤ 3 * length bytes + owed o

no_text : (o : Open) → all_text [] + owed o ≤ 3 * 0 + owed o
unfolding all_text
no_text o = omega arith

reads_all : (o : Open) (bytes : List ℕ) → IsOpen o → ReadsAll o bytes
reads_all o [] is = record { next = o; is_open = is; stands = refl; few = no_text o }
reads_all o (b ∷ bytes) is =
    let v = value_at o in
    let read = read_for decoded v.state v.accumulator b in
    let after = machine_after decoded read v in
    let others = read_from decoded after bytes in
    let one = reads o b is in
    let w = value_at one.next in
    let same : counted after ≡ counted w = sym (counted-counted after) ∙ ap counted one.stands in
    let more = read_from decoded w bytes in
    let equal : others ≡ more = read_from-counted decoded after w same bytes in
    let rest : machine_calls decoded others after ≡ machine_calls decoded more w =
    (counted-machine others after w same).1 ∙ ap (λ l. machine_calls decoded l w) equal in
    let all = reads_all one.next bytes one.is_open in
    record {
      next = all.next;
      is_open = all.is_open;
      stands = ap counted (machine_after-append decoded read others v)
          ∙ (counted-machine others after w same).0
          ∙ ap (λ l. counted (machine_after decoded l w)) equal
          ∙ all.stands;
      few =
          omega (
            arith,
            ap all_text (machine_calls-append decoded read others v ∙ ap (λ l. machine_calls decoded read v ++ l) rest),
            all_text-append (machine_calls decoded read v) (machine_calls decoded more w),
            one.few,
            all.few,
          );
    }

-- wherever a parser stands
pub text_length-read_on : (o : Open) (bytes : List ℕ) → IsOpen o → sum_by text_length (machine_calls decoded (read_from decoded (value_at o) bytes) (value_at o)) ≤ 3 * length bytes + 3
text_length-read_on o bytes is =
    let all = reads_all o bytes is in
    omega (arith, all_text-sum (machine_calls decoded (read_from decoded (value_at o) bytes) (value_at o)), all.few, owed-few o)

-- what a log is read as, and its end
pub text_length-read : (bytes : List ℕ) (calls : List Call) → AreCalls (as_read bytes) calls → sum_by text_length calls ≤ 3 * length bytes
unfolding as_read owed
text_length-read bytes calls are =
    let all = reads_all nothing bytes tt in
    omega (arith, all_text-sum calls, ap all_text (AreCalls-only (as_read bytes) calls (machine_calls decoded (as_read bytes) (new_machine [])) are (AreCalls-machine (as_read bytes))), all.few)

pub text_length-read_whole : (bytes : List ℕ) (calls : List Call) → AreCalls (as_read_whole bytes) calls → sum_by text_length calls ≤ 3 * length bytes
unfolding as_read owed
text_length-read_whole bytes calls are =
    let all = reads_all nothing bytes tt in
    let first = machine_calls decoded (as_read bytes) (new_machine []) in
    omega (
      arith,
      all_text-sum calls,
      ap all_text (AreCalls-only (as_read_whole bytes) calls (machine_calls decoded (as_read_whole bytes) (new_machine [])) are (AreCalls-machine (as_read_whole bytes))
          ∙ calls-whole bytes all.next all.is_open all.stands),
      all_text-append first (broken_off all.next),
      off-few all.next,
      all.few,
    )
