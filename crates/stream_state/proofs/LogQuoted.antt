-- A log beside bytes that are as many, where a quotation mark stands for each byte that belongs to no character: what
-- continues it.
use Rattle.std.proofs.Common.{◌≡◌, ◌≤◌, ◌*◌, ℕ, List, [], ◌∷◌, ◌++◌, length, refl, sym, ap, ◌∙◌, subst, arith, length-append}
use Rattle.anstyle_parse.specs.Stream.Call.{Call}
use Rattle.anstyle_parse.specs.Stream.Calls.{Continues}
use Rattle.anstyle_parse.specs.Laws.Lighter.{AreLighter}
use Rattle.anstyle_parse.specs.Machine.AsRead.{read_from, as_read}
use Rattle.anstyle_parse.specs.Machine.Decoder.{decoded}
use Rattle.anstyle_parse.specs.Machine.Step.{Machine, new_machine, step, step_calls, machine_after, machine_calls}
use Rattle.anstyle_parse.specs.Machine.Stands.{StandsAfter, counted}
use Rattle.anstyle_parse.proofs.Agreement.Values.{value_at}
use Rattle.anstyle_parse.proofs.Agreement.Whole.{counted-counted, StandsAfter-value, Continues-machine}
use Rattle.anstyle_parse.proofs.Division.Exists.{IsOpen-open_after}
use Rattle.anstyle_parse.proofs.Division.Grow.{nothing, open_after}
use Rattle.anstyle_parse.proofs.Machine.AsRead.{read_from-counted}
use Rattle.anstyle_parse.proofs.Machine.CallCounts.{step_calls-few}
use Rattle.anstyle_parse.proofs.Machine.Counted.{counted-machine}
use Rattle.anstyle_parse.proofs.Machine.LogQuoted.{length-lighter, quoted}
use Rattle.stream_state.specs.Log.{ContinuesLog}
use Rattle.stream_state.proofs.LogLemmas.{ContinuesLog-only}

-- What continues a log, and what is beside it.
pub record IsBeside (before bytes : List ℕ) (calls : List Call) : Type 0 where
  pub raw : List ℕ
  pub others : List Call
  pub as_long : length raw ≡ length bytes
  pub lighter : AreLighter calls others
  pub few_calls : length calls ≤ 2 * length bytes
  pub continues : (held : List ℕ) → StandsAfter (machine_after decoded (as_read before) (new_machine [])) held → Continues held raw others

-- two calls for each byte at most
length-raw : (bytes : List ℕ) (m : Machine (List ℕ)) → length (machine_calls decoded bytes m) ≤ 2 * length bytes
length-raw [] m = omega arith
length-raw (b ∷ bytes) m =
    omega (arith, length-append (step_calls decoded b m) (machine_calls decoded bytes (step decoded b m)), step_calls-few decoded b m, length-raw bytes (step decoded b m))

pub quoted-log : (before bytes : List ℕ) (calls : List Call) → ContinuesLog before bytes calls → IsBeside before bytes calls
quoted-log before bytes calls continues =
    let x = as_read before in
    let m = machine_after decoded x (new_machine []) in
    let o = open_after nothing x in
    let v = value_at o in
    let same : counted m ≡ counted v = sym (counted-counted m) ∙ ap counted (StandsAfter-value m x refl) in
    let read = read_from decoded m bytes in
    let all = quoted o bytes (IsOpen-open_after nothing x tt) in
    let raw = all.raw in
    let is : calls ≡ machine_calls decoded (read_from decoded v bytes) v =
    ContinuesLog-only before bytes calls continues
    ∙ (counted-machine read m v same).1 ∙ ap (λ l. machine_calls decoded l v) (read_from-counted decoded m v same bytes) in
    record {
      raw = raw;
      others = machine_calls decoded raw v;
      as_long = all.as_long;
      lighter = subst (λ l. AreLighter l (machine_calls decoded raw v)) (sym is) all.lighter;
      few_calls =
          omega (
            arith,
            ap length is,
            length-lighter (machine_calls decoded (read_from decoded v bytes) v) (machine_calls decoded raw v) all.lighter,
            length-raw raw v,
            all.as_long,
          );
      continues = λ held stands. Continues-machine v held raw (sym same ∙ stands);
    }
