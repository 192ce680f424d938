-- Calls that continue those of other bytes.
use Rattle.std.proofs.Common.{◌≤◌, ◌*◌, ℕ, List, [], ◌∷◌, ◌++◌, length, sym, subst, append_assoc, append-nil, arith, length-append}
use Rattle.anstyle_parse.specs.Stream.Call.{Call}
use Rattle.anstyle_parse.specs.Stream.Calls.{AreCalls, Continues}
use Rattle.anstyle_parse.specs.Machine.Step.{Machine, AccumulatorStep, step, step_calls, machine_calls}
use Rattle.anstyle_parse.proofs.Machine.CallCounts.{step_calls-few}

-- what continues some bytes, and then what continues all of those
pub Continues-append : (before first second : List ℕ) (calls more : List Call) → Continues before first calls → Continues (before ++ first) second more → Continues before (first ++ second) (calls ++ more)
Continues-append before first second calls more one two = λ own are.
    subst (λ (l : List ℕ). AreCalls l (own ++ (calls ++ more))) (append_assoc before first second)
    (subst (λ (l : List Call). AreCalls ((before ++ first) ++ second) l) (append_assoc own calls more) (two (own ++ calls) (one own are)))

-- no bytes make no calls
pub Continues-nil : (before : List ℕ) → Continues before [] []
Continues-nil before = λ own are.
    subst (λ (l : List ℕ). AreCalls l (own ++ [])) (sym (append-nil before)) (subst (λ (l : List Call). AreCalls before l) (sym (append-nil own)) are)

-- two calls for each byte at most
pub length-machine_calls : {A : Type 0} (adds : AccumulatorStep A) (bytes : List ℕ) (m : Machine A) → length (machine_calls adds bytes m) ≤ 2 * length bytes
length-machine_calls adds [] m = omega arith
length-machine_calls adds (b ∷ bytes) m =
    omega (arith, length-append (step_calls adds b m) (machine_calls adds bytes (step adds b m)), step_calls-few adds b m, length-machine_calls adds bytes (step adds b m))
