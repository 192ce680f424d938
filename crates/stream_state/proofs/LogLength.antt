-- How much text the bytes of a log lead to that continue others: three bytes for each, and three more where they break a
-- character that was begun before.
use Rattle.std.proofs.Common.{◌≡◌, ◌≤◌, ◌+◌, ◌*◌, ℕ, List, [], length, refl, sym, ap, ◌∙◌, arith}
use Rattle.std.specs.List.{sum_by}
use Rattle.anstyle_parse.specs.Stream.Call.{Call}
use Rattle.anstyle_parse.specs.Laws.TextLength.{text_length}
use Rattle.anstyle_parse.specs.Machine.AsRead.{read_from, as_read}
use Rattle.anstyle_parse.specs.Machine.Decoder.{decoded}
use Rattle.anstyle_parse.specs.Machine.Step.{new_machine, machine_after, machine_calls}
use Rattle.anstyle_parse.specs.Machine.Stands.{counted}
use Rattle.anstyle_parse.proofs.Agreement.Values.{value_at}
use Rattle.anstyle_parse.proofs.Agreement.Whole.{counted-counted, StandsAfter-value}
use Rattle.anstyle_parse.proofs.Division.Exists.{IsOpen-open_after}
use Rattle.anstyle_parse.proofs.Division.Grow.{nothing, open_after}
use Rattle.anstyle_parse.proofs.Machine.AsRead.{read_from-counted}
use Rattle.anstyle_parse.proofs.Machine.Counted.{counted-machine}
use Rattle.anstyle_parse.proofs.Machine.LogLength.{text_length-read_on}
use Rattle.stream_state.specs.Log.{ContinuesLog}
use Rattle.stream_state.proofs.LogLemmas.{ContinuesLog-only}

-- what continues the calls of the log before
pub text_length-log : (before bytes : List ℕ) (calls : List Call) → ContinuesLog before bytes calls → sum_by text_length calls ≤ 3 * length bytes + 3
text_length-log before bytes calls continues =
    let x = as_read before in
    let m = machine_after decoded x (new_machine []) in
    let o = open_after nothing x in
    let v = value_at o in
    let same : counted m ≡ counted v = sym (counted-counted m) ∙ ap counted (StandsAfter-value m x refl) in
    let read = read_from decoded m bytes in
    omega (
      arith,
      ap (λ l. sum_by text_length l) (ContinuesLog-only before bytes calls continues
          ∙ (counted-machine read m v same).1 ∙ ap (λ l. machine_calls decoded l v) (read_from-counted decoded m v same bytes)),
      text_length-read_on o bytes (IsOpen-open_after nothing x tt),
    )
