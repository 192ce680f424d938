-- How much HTML the bytes of a piece lead to: at most 6,534 bytes each.
use Rattle.std.proofs.Common.{◌≡◌, ◌≤◌, ◌*◌, ℕ, suc, Bool, true, false, List, [], ◌∷◌, ◌++◌, length, refl, sym, ap, ap₂, ◌∙◌, arith, lit≤, length-append, IsTrue}
use Rattle.std.specs.Prelude.{encode_utf8, if◌then◌else◌, ⊤}
use Rattle.std.proofs.lemmas.Bool.{false≢true}
use Rattle.std.proofs.lemmas.List.{append_cancel_left}
use Rattle.anstyle_parse.specs.declared.utf8.Taken.{Taken}
use Rattle.anstyle_parse.specs.declared.utf8.Taken.TheVariants.{More, Char, Broken}
use Rattle.anstyle_parse.specs.declared.state.definitions.State.{State}
use Rattle.anstyle_parse.specs.declared.state.definitions.State.TheVariants.{Ground, Utf8}
use Rattle.anstyle_parse.specs.Stream.Call.{Call, print, execute}
use Rattle.anstyle_parse.specs.Stream.Calls.{Continues}
use Rattle.anstyle_parse.specs.Stream.Characters.{is_well_formed, is_proper_front, character_of, replacement}
use Rattle.anstyle_parse.specs.Machine.Decoder.{decoded}
use Rattle.anstyle_parse.specs.Machine.Step.{Machine, new_machine, state_after_answer, step, step_calls, machine_after, machine_calls}
use Rattle.anstyle_parse.specs.Machine.Stands.{counted}
use Rattle.anstyle_parse.proofs.Bytes.Classes.{Class, lead_byte, class_of, is_ascii_at, is_ascii-class, is_lead_at, is_lead-class}
use Rattle.anstyle_parse.proofs.Characters.Encoding.{encode_three}
use Rattle.anstyle_parse.proofs.Division.Grow.{Open, nothing, front, inside, grow, open_after}
use Rattle.anstyle_parse.proofs.Division.Exists.{IsOpen, Grown-grow, IsOpen-open_after}
use Rattle.anstyle_parse.proofs.Division.Only.{AreCalls-only}
use Rattle.anstyle_parse.proofs.Machine.Counted.{step_calls_at, answer_calls_at, step_calls-class, counted-step}
use Rattle.anstyle_parse.proofs.Agreement.Values.{body_value, value_at}
use Rattle.anstyle_parse.proofs.Agreement.Whole.{value_at-step, counted-counted, machine-division, machine_calls-append, AreCalls-machine}
use Rattle.anstyle_parse.proofs.Canonical.TextLength.{is_inside, body-inside}
use Rattle.ansi_strip.specs.Strip.{stripped_call}
use Rattle.ansi_html.specs.declared.scheme.Styling.{Styling}
use Rattle.ansi_html.specs.AddingProof.{html_from-append}
use Rattle.ansi_html.specs.Html.{escaped_text, Standing, is_executed, text_html, call_html, standing_after, html_from, standing_at_end, line_break, beginning, change}
use Rattle.ansi_html.proofs.HtmlLemmas.{call_html-print, standing_after-print, change-same, escaped_high}
use Rattle.ansi_html.proofs.LengthLemmas.{length-beginning, length-text_html, length-stripped}
use Rattle.ansi_html.proofs.SoundLemmas.{AreSound, AreSound-after}

-- the calls that may be text
texts : List Call → ℕ
texts [] = 0
texts (print c ∷ calls) = suc (texts calls)
texts (execute b ∷ calls) = suc (texts calls)
texts (call ∷ calls) = texts calls

module _ (styling : Styling) where
  length-call : (at : Standing) (call : Call) → AreSound at → length (call_html styling at call) ≤ 6531
  length-call at call sound = length-text_html styling at (is_executed 0x0A call) (stripped_call call) sound (length-stripped call)

  -- each of them 6,531 at most, and the others nothing
  length-texts : (at : Standing) (calls : List Call) → AreSound at → length (html_from styling at calls) ≤ 6531 * texts calls
  unfolding texts text_html
  length-texts at [] sound = omega arith
  length-texts at (print c ∷ calls) sound =
      let after = standing_after (print c) at in
      omega (arith, length-append (call_html styling at (print c)) (html_from styling after calls), length-call at (print c) sound, length-texts after calls (AreSound-after (print c) at sound))
  length-texts at (execute b ∷ calls) sound =
      let after = standing_after (execute b) at in
      omega (arith, length-append (call_html styling at (execute b)) (html_from styling after calls), length-call at (execute b) sound, length-texts after calls (AreSound-after (execute b) at sound))
  length-texts at (call ∷ calls) sound = length-texts (standing_after call at) calls (AreSound-after call at sound)

  -- text of the element of the text before it: a reference, or a character
  length-same : (at : Standing) (call : Call) → at.shown ≡ at.selected → at.returned ≡ false → length (call_html styling at call) ≤ 6
  unfolding text_html
  length-same at call same not_returned = by_text (stripped_call call) (length-stripped call)
    where
      line_feed : Bool
      line_feed = is_executed 0x0A call

      by_text : (bytes : List ℕ) → length (escaped_text bytes) ≤ 6 → length (text_html styling at line_feed bytes) ≤ 6
      by_text [] few = omega arith
      by_text (b ∷ bytes) few =
          let nothing : beginning styling at line_feed ≡ [] =
          ap₂ (λ shown returned. change styling shown at.selected ++ line_break returned line_feed) same not_returned ∙ ap (λ l. l ++ []) (change-same styling at.selected) in
          omega (arith, few, ap (λ l. length (l ++ escaped_text (b ∷ bytes))) nothing)

-- no call, or one
AtMostOne : List Call → Type 0
AtMostOne [] = ⊤
AtMostOne (call ∷ []) = ⊤
AtMostOne (call ∷ other ∷ calls) = ⊥

texts-one : (calls : List Call) → AtMostOne calls → texts calls ≤ 1
unfolding texts AtMostOne
texts-one [] few = lit≤ tt
texts-one (print c ∷ []) few = lit≤ tt
texts-one (execute b ∷ []) few = lit≤ tt
texts-one (call ∷ []) few = lit≤ tt
texts-one (call ∷ other ∷ calls) few = absurd few

-- where nothing is open: at most one call
ground-one : (c : Class) (b : ℕ) (m : Machine (List ℕ)) → class_of b ≡ c → AtMostOne (step_calls_at decoded Ground c b (record m { state = Ground; accumulator = [] }))
unfolding AtMostOne
ground-one lead_byte b m class = rw (is_ascii-class b ∙ ap is_ascii_at class, is_lead-class b ∙ ap is_lead_at class) tt
ground-one c b m class = tt

-- inside a sequence: one text
inside-one : (c : Class) (state : State) (b : ℕ) (m : Machine (List ℕ)) → is_inside state ≡ true → texts (step_calls_at decoded state c b (record m { state = state })) ≤ 1
unfolding texts is_inside
inside-one c Ground b m is = absurd (false≢true is)
inside-one c Utf8 b m is = absurd (false≢true is)
inside-one lead_byte state b m is = lit≤ tt
inside-one c state b m is = lit≤ tt

module _ (styling : Styling) (at : Standing) (sound : AreSound at) where
  Few : List Call → Type 0
  Few calls = length (html_from styling at calls) ≤ 6534

  few-texts : (calls : List Call) → texts calls ≤ 1 → Few calls
  unfolding Few
  few-texts calls one = omega (arith, length-texts styling at calls sound)

  -- a character that is broken off, and what its breaking byte leads to
  few-broken : (calls : List Call) → AtMostOne calls → Few (print replacement ∷ calls)
  unfolding Few AtMostOne texts
  few-broken [] few = few-texts (print replacement ∷ []) (lit≤ tt)
  few-broken (call ∷ []) few =
      let three : length (encode_utf8 replacement) ≡ 3 = ap length (encode_three replacement (lit≤ tt) (lit≤ tt)) in
      let first = call_html styling at (print replacement) in
      let after = standing_after (print replacement) at in
      let stands = standing_after-print styling at replacement in
      let shown = call_html-print styling at replacement ∙ ap (λ l. beginning styling at false ++ l) (escaped_high replacement (lit≤ tt)) in
      let same = length-same styling after call (ap (λ (s : Standing). s.shown) stands ∙ sym (ap (λ (s : Standing). s.selected) stands)) (ap (λ (s : Standing). s.returned) stands) in
      omega (
        arith,
        three,
        ap length shown,
        length-append (beginning styling at false) (encode_utf8 replacement),
        length-beginning styling at false sound.selected,
        length-append first (call_html styling after call ++ []),
        length-append (call_html styling after call) [],
        same,
      )
  few-broken (call ∷ other ∷ calls) few = absurd few

  -- inside a character, by the tests of what it is with one byte more
  few-by : (whole proper : Bool) (bytes : List ℕ) (b : ℕ) →
      let answer : List ℕ × Taken = if whole then ([], Char (character_of (bytes ++ b ∷ []))) else if proper then (bytes ++ b ∷ [], More) else ([], Broken replacement) in
      Few (answer_calls_at decoded answer.1 (class_of b) b (record (new_machine answer.0) { state = state_after_answer answer.1 }))
  unfolding texts
  few-by true proper bytes b = few-texts (print (character_of (bytes ++ b ∷ [])) ∷ []) (lit≤ tt)
  few-by false true bytes b = few-texts [] (lit≤ tt)
  few-by false false bytes b = few-broken (step_calls_at decoded Ground (class_of b) b (new_machine [])) (ground-one (class_of b) b (new_machine []) refl)

  few-front : (bytes : List ℕ) (b : ℕ) → IsTrue (is_proper_front bytes) → Few (step_calls_at decoded Utf8 (class_of b) b (value_at (front bytes)))
  unfolding is_proper_front
  few-front [] b proper = absurd (false≢true proper)
  few-front (a ∷ bytes) b proper = few-by (is_well_formed (a ∷ (bytes ++ b ∷ []))) (is_proper_front (a ∷ (bytes ++ b ∷ []))) (a ∷ bytes) b

  -- one byte after an open item
  few-byte : (o : Open) (b : ℕ) → IsOpen o → Few (step_calls_at decoded (value_at o).state (class_of b) b (value_at o))
  few-byte nothing b is = few-texts _ (texts-one _ (ground-one (class_of b) b (new_machine []) refl))
  few-byte (front bytes) b is = few-front bytes b is
  few-byte (inside body) b is = few-texts _ (inside-one (class_of b) (body_value body).state b (body_value body) (body-inside body))

-- at the end of calls links are sound
pub AreSound-at_end : (calls : List Call) (at : Standing) → AreSound at → AreSound (standing_at_end at calls)
AreSound-at_end [] at sound = sound
AreSound-at_end (call ∷ calls) at sound = AreSound-at_end calls (standing_after call at) (AreSound-after call at sound)

-- the bytes after it, at a machine that stands there
module _ (styling : Styling) where
  length-machine : (o : Open) (bytes : List ℕ) (m : Machine (List ℕ)) (at : Standing) → AreSound at → IsOpen o → counted m ≡ value_at o
      → length (html_from styling at (machine_calls decoded bytes m)) ≤ 6534 * length bytes
  unfolding Few
  length-machine o [] m at sound is e = omega arith
  length-machine o (b ∷ bytes) m at sound is e =
      let same = counted-step b m (value_at o) (sym (counted-counted m) ∙ ap counted e) in
      let calls = step_calls decoded b m in
      let others = machine_calls decoded bytes (step decoded b m) in
      let shown = same.1 ∙ step_calls-class decoded b (value_at o) in
      let after = standing_at_end at calls in
      omega (
        arith,
        ap length (html_from-append styling calls others at),
        length-append (html_from styling at calls) (html_from styling after others),
        ap (λ (l : List Call). length (html_from styling at l)) shown,
        few-byte styling at sound o b is,
        length-machine (grow o b).next bytes (step decoded b m) after (AreSound-at_end calls at sound) (Grown-grow o b is).next (same.0 ∙ (value_at-step o b is).0),
      )

  -- what continues the calls of the bytes before
  pub length-html_continued : (before bytes : List ℕ) (calls : List Call) (at : Standing) → AreSound at → Continues before bytes calls → length (html_from styling at calls) ≤ 6534 * length bytes
  length-html_continued before bytes calls at sound continues =
      let m = machine_after decoded before (new_machine []) in
      let first = machine_calls decoded before (new_machine []) in
      let others = machine_calls decoded bytes m in
      let same = AreCalls-only (before ++ bytes) (first ++ calls) (machine_calls decoded (before ++ bytes) (new_machine [])) (continues first (AreCalls-machine before)) (AreCalls-machine (before ++ bytes))
      ∙ machine_calls-append decoded before bytes (new_machine []) in
      omega (
        arith,
        ap (λ (l : List Call). length (html_from styling at l)) (append_cancel_left first calls others same),
        length-machine (open_after nothing before) bytes m at sound (IsOpen-open_after nothing before tt) (machine-division before).0,
      )
