-- A log beside bytes that are as many, where a quotation mark stands for each byte that belongs to no character, and CAN
-- for each BEL that ends a string: these make as many calls.
use Rattle.std.proofs.Common.{◌≡◌, ◌≤◌, ℕ, false, eqb, List, [], ◌∷◌, ◌++◌, length, refl, sym, ap, ◌∙◌, subst, arith, inl, inr, ⊎_elim, append-nil}
use Rattle.std.specs.Prelude.{◌&&◌}
use Rattle.std.proofs.lemmas.Bool.{and_parts, cases_Bool}
use Rattle.anstyle_parse.specs.Stream.Bytes.{bell}
use Rattle.anstyle_parse.specs.Stream.Call.{Call, print, execute, esc_dispatch}
use Rattle.anstyle_parse.specs.Stream.Calls.{AreCalls}
use Rattle.anstyle_parse.specs.Stream.Characters.{replacement}
use Rattle.anstyle_parse.specs.Machine.AsRead.{is_stray, is_at_ground, is_in_ignored_string, is_in_terminated_string, replacement_text, string_end, heard, read_for, read_from, as_read, as_read_whole}
use Rattle.anstyle_parse.specs.Machine.Decoder.{decoded}
use Rattle.anstyle_parse.specs.Machine.Step.{Machine, new_machine, step, step_calls, machine_after, machine_calls}
use Rattle.anstyle_parse.specs.Machine.Stands.{counted}
use Rattle.anstyle_parse.proofs.Agreement.Values.{value_at}
use Rattle.anstyle_parse.proofs.Agreement.Whole.{value_at-step, counted-counted, machine_after-append, machine_calls-append, AreCalls-machine}
use Rattle.anstyle_parse.proofs.Division.Exists.{IsOpen, Grown-grow}
use Rattle.anstyle_parse.proofs.Division.Grow.{Open, nothing, front, inside, grow}
use Rattle.anstyle_parse.proofs.Machine.AsRead.{read_for-stray, read_for-end, read_for-text, read_for-other, read_from-counted}
use Rattle.anstyle_parse.proofs.Machine.Counted.{counted-machine}
use Rattle.anstyle_parse.proofs.Canonical.Bounds.{length-calls}
use Rattle.anstyle_parse.proofs.Division.Begun.{AreCalls-in_place}
use Rattle.anstyle_parse.proofs.Division.Ends.{EndsInCharacter-state}
use Rattle.anstyle_parse.proofs.Division.Only.{AreCalls-only}
use Rattle.anstyle_parse.proofs.Machine.LogReading.{broken_off, IsOutside, outside-at, calls-replaced, after-replaced, calls-quote, after-quote, end-read, cancel-read, ignored-value, calls-whole, same_state}
use Rattle.anstyle_parse.proofs.Machine.Actions.{new_in}
use Rattle.anstyle_parse.specs.Laws.Lighter.{AreLighter, AreEnough}
use Rattle.anstyle_parse.specs.declared.state.definitions.State.TheVariants.{SosPmApcString, Utf8}

lighter-same : (calls : List Call) → AreLighter calls calls
unfolding AreLighter
lighter-same [] = tt
lighter-same (call ∷ calls) = (inl refl, lighter-same calls)

lighter-append : (calls others more further : List Call) → AreLighter calls others → AreLighter more further → AreLighter (calls ++ more) (others ++ further)
unfolding AreLighter
lighter-append [] [] more further one two = two
lighter-append [] (other ∷ others) more further one two = absurd one
lighter-append (call ∷ calls) [] more further one two = absurd one
lighter-append (call ∷ calls) (other ∷ others) more further one two = (one.0, lighter-append calls others more further one.1 two)

pub length-lighter : (calls others : List Call) → AreLighter calls others → length calls ≡ length others
unfolding AreLighter
length-lighter [] [] are = refl
length-lighter [] (other ∷ others) are = absurd are
length-lighter (call ∷ calls) [] are = absurd are
length-lighter (call ∷ calls) (other ∷ others) are = omega (arith, length-lighter calls others are.1)

-- What is read of a byte, and the byte beside it.
record Quotes (o : Open) (read : List ℕ) : Type 0 where
  pub byte : ℕ
  pub next : Open
  pub is_open : IsOpen next
  pub stands : counted (machine_after decoded read (value_at o)) ≡ value_at next
  pub beside : counted (step decoded byte (value_at o)) ≡ value_at next
  pub lighter : AreLighter (machine_calls decoded read (value_at o)) (step_calls decoded byte (value_at o))

quotes-byte : (o : Open) (b : ℕ) → IsOpen o → Quotes o (b ∷ [])
quotes-byte o b is =
    let calls = step_calls decoded b (value_at o) in
    record {
      byte = b;
      next = (grow o b).next;
      is_open = (Grown-grow o b is).next;
      stands = (value_at-step o b is).0;
      beside = (value_at-step o b is).0;
      lighter = subst (λ l. AreLighter l calls) (sym (append-nil calls)) (lighter-same calls);
    }

one_quote : AreLighter (print replacement ∷ []) (print 0x22 ∷ [])
unfolding AreLighter
one_quote = (inr (inl (refl, refl)), tt)

one_cancel : AreLighter (esc_dispatch [] false 0x5C ∷ []) (execute 0x18 ∷ [])
unfolding AreLighter
one_cancel = (inr (inr (refl, refl)), tt)

quotes-replaced : (o : Open) → IsOpen o → IsOutside o → Quotes o replacement_text
quotes-replaced o is outside = record {
  byte = 0x22;
  next = nothing;
  is_open = tt;
  stands = after-replaced o is outside;
  beside = after-quote o is outside;
  lighter =
      subst (λ l. AreLighter l (step_calls decoded 0x22 (value_at o))) (sym (calls-replaced o is outside))
      (subst (AreLighter (broken_off o ++ print replacement ∷ [])) (sym (calls-quote o is outside))
      (lighter-append (broken_off o) (broken_off o) (print replacement ∷ []) (print 0x22 ∷ []) (lighter-same (broken_off o)) one_quote));
}

quotes-ended : (o : Open) → value_at o ≡ new_in SosPmApcString [] → Quotes o string_end
quotes-ended o same = record {
  byte = 0x18;
  next = nothing;
  is_open = tt;
  stands = ap (λ (m : Machine (List ℕ)). counted (machine_after decoded string_end m)) same ∙ end-read.1;
  beside = ap (λ (m : Machine (List ℕ)). counted (step decoded 0x18 m)) same ∙ cancel-read.1;
  lighter =
      subst (λ l. AreLighter l (step_calls decoded 0x18 (value_at o))) (sym (ap (machine_calls decoded string_end) same ∙ end-read.0))
      (subst (AreLighter (esc_dispatch [] false 0x5C ∷ [])) (sym (ap (step_calls decoded 0x18) same ∙ cancel-read.0)) one_cancel);
}

quotes : (o : Open) (b : ℕ) → IsOpen o → Quotes o (read_for decoded (value_at o).state (value_at o).accumulator b)
quotes o b is =
    let v = value_at o in
    let at = is_at_ground decoded v.state v.accumulator b in
    let ignored = is_in_ignored_string v.state in
    ⊎_elim
    (λ stray. subst (Quotes o) (sym (read_for-stray decoded v.state v.accumulator b stray)) (quotes-replaced o is (outside-at o b (and_parts at (is_stray b) stray).0)))
    (λ other. ⊎_elim
    (λ ends. subst (Quotes o) (sym (read_for-end decoded v.state v.accumulator b other ends)) (quotes-ended o (ignored-value o (and_parts ignored (eqb b bell) ends).0)))
    (λ another. ⊎_elim
    (λ inside. subst (Quotes o) (sym (read_for-text decoded v.state v.accumulator b other another inside)) (quotes-byte o (heard b) is))
    (λ outside. subst (Quotes o) (sym (read_for-other decoded v.state v.accumulator b other another outside)) (quotes-byte o b is))
    (cases_Bool (is_in_terminated_string v.state)))
    (cases_Bool (ignored && eqb b bell)))
    (cases_Bool (at && is_stray b))

-- The bytes beside what is read of others, and the calls of both.
pub record AreQuoted (o : Open) (bytes : List ℕ) : Type 0 where
  pub raw : List ℕ
  pub next : Open
  pub is_open : IsOpen next
  pub as_long : length raw ≡ length bytes
  pub stands : counted (machine_after decoded (read_from decoded (value_at o) bytes) (value_at o)) ≡ counted (value_at next)
  pub beside : counted (machine_after decoded raw (value_at o)) ≡ counted (value_at next)
  pub lighter : AreLighter (machine_calls decoded (read_from decoded (value_at o) bytes) (value_at o)) (machine_calls decoded raw (value_at o))

pub quoted : (o : Open) (bytes : List ℕ) → IsOpen o → AreQuoted o bytes
quoted o [] is = record { raw = []; next = o; is_open = is; as_long = refl; stands = refl; beside = refl; lighter = lighter-same [] }
quoted o (b ∷ bytes) is =
    let v = value_at o in
    let read = read_for decoded v.state v.accumulator b in
    let after = machine_after decoded read v in
    let others = read_from decoded after bytes in
    let one = quotes o b is in
    let w = value_at one.next in
    let stepped = step decoded one.byte v in
    let same : counted after ≡ counted w = sym (counted-counted after) ∙ ap counted one.stands in
    let beside : counted stepped ≡ counted w = sym (counted-counted stepped) ∙ ap counted one.beside in
    let more = read_from decoded w bytes in
    let equal : others ≡ more = read_from-counted decoded after w same bytes in
    let all = quoted one.next bytes one.is_open in
    let first : machine_calls decoded (read ++ others) v ≡ machine_calls decoded read v ++ machine_calls decoded more w =
    machine_calls-append decoded read others v
    ∙ ap (λ l. machine_calls decoded read v ++ l) ((counted-machine others after w same).1 ∙ ap (λ l. machine_calls decoded l w) equal) in
    let second : machine_calls decoded (one.byte ∷ all.raw) v ≡ step_calls decoded one.byte v ++ machine_calls decoded all.raw w =
    ap (λ l. step_calls decoded one.byte v ++ l) (counted-machine all.raw stepped w beside).1 in
    record {
      raw = one.byte ∷ all.raw;
      next = all.next;
      is_open = all.is_open;
      as_long = omega (arith, all.as_long);
      stands = ap counted (machine_after-append decoded read others v)
          ∙ (counted-machine others after w same).0
          ∙ ap (λ l. counted (machine_after decoded l w)) equal
          ∙ all.stands;
      beside = (counted-machine all.raw stepped w beside).0 ∙ all.beside;
      lighter =
          subst (λ l. AreLighter l (machine_calls decoded (one.byte ∷ all.raw) v)) (sym first)
          (subst (AreLighter (machine_calls decoded read v ++ machine_calls decoded more w)) (sym second)
          (lighter-append (machine_calls decoded read v) (step_calls decoded one.byte v) (machine_calls decoded more w)
          (machine_calls decoded all.raw w) one.lighter all.lighter));
    }

-- what is read of a log
pub enough-read : (bytes : List ℕ) (calls : List Call) → AreCalls (as_read bytes) calls → AreEnough (length bytes) calls
unfolding as_read
enough-read bytes calls are =
    let all = quoted nothing bytes tt in
    let made = machine_calls decoded (as_read bytes) (new_machine []) in
    let others = machine_calls decoded all.raw (new_machine []) in
    record {
      raw = all.raw;
      others = others;
      short = omega (arith, all.as_long);
      made = AreCalls-machine all.raw;
      lighter = subst (λ l. AreLighter l others) (AreCalls-only (as_read bytes) made calls (AreCalls-machine (as_read bytes)) are) all.lighter;
    }

-- and what its end adds: a character that is begun has a byte, in whose place a quotation mark may stand
module _ (bytes : List ℕ) where
  abbrev all : AreQuoted nothing bytes
  all = quoted nothing bytes tt

  abbrev made : List Call
  made = machine_calls decoded (as_read bytes) (new_machine [])

  abbrev others : List Call
  others = machine_calls decoded all.raw (new_machine [])

  enough-by : (o : Open) → all.next ≡ o → AreEnough (length bytes) (made ++ broken_off o)
  unfolding as_read broken_off
  enough-by nothing is = record {
    raw = all.raw;
    others = others;
    short = omega (arith, all.as_long);
    made = AreCalls-machine all.raw;
    lighter = subst (λ l. AreLighter l others) (sym (append-nil made)) all.lighter;
  }
  enough-by (inside body) is = record {
    raw = all.raw;
    others = others;
    short = omega (arith, all.as_long);
    made = AreCalls-machine all.raw;
    lighter = subst (λ l. AreLighter l others) (sym (append-nil made)) all.lighter;
  }
  enough-by (front begun) is =
      let state : (machine_after decoded all.raw (new_machine [])).state ≡ Utf8 =
      same_state (machine_after decoded all.raw (new_machine [])) (value_at all.next) all.beside ∙ ap (λ x. (value_at x).state) is in
      let ends = (EndsInCharacter-state (machine_after decoded all.raw (new_machine [])) all.raw refl).0 state in
      let (place, short, are) = AreCalls-in_place all.raw others (AreCalls-machine all.raw) ends in
      record {
        raw = place;
        others = others ++ print 0x22 ∷ [];
        short = omega (arith, all.as_long, short);
        made = are;
        lighter = lighter-append made others (print replacement ∷ []) (print 0x22 ∷ []) all.lighter one_quote;
      }

  pub enough-read_whole : (calls : List Call) → AreCalls (as_read_whole bytes) calls → AreEnough (length bytes) calls
  unfolding as_read
  enough-read_whole calls are =
      subst (AreEnough (length bytes))
      (sym (AreCalls-only (as_read_whole bytes) calls (machine_calls decoded (as_read_whole bytes) (new_machine [])) are (AreCalls-machine (as_read_whole bytes))
      ∙ calls-whole bytes all.next all.is_open all.stands))
      (enough-by all.next refl)

-- as many calls at most
pub length-enough : (count : ℕ) (calls : List Call) → AreEnough count calls → length calls ≤ count
length-enough count calls enough =
    omega (arith, length-lighter calls enough.others enough.lighter, length-calls enough.raw enough.others enough.made, enough.short)
