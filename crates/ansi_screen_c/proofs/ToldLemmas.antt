-- What is said of an answer holds of the number that is told of it, and of what is in the handle.
use Rattle.std.proofs.Common.{◌≡◌, ℕ, Bool, true, false, sym, subst}
use Rattle.std.specs.Prelude.{Option, Some, Result, Ok, Err, IfOk, IfErr}
use Rattle.std.specs.Bool.{OnTrue, OnFalse}

told-ok : (P : ℕ → Type 0) (answer : Result ℕ ℕ) (is : Bool) (told : ℕ) → OnTrue is (answer ≡ Ok told) → IfOk answer P → OnTrue is (P told)
told-ok P answer true told e holds = subst (λ (it : Result ℕ ℕ). IfOk it P) e holds
told-ok P answer false told e holds = tt

told-err : (P : ℕ → Type 0) (answer : Result ℕ ℕ) (is : Bool) (told : ℕ) → OnFalse is (answer ≡ Err told) → IfErr answer P → OnFalse is (P told)
told-err P answer true told e holds = tt
told-err P answer false told e holds = subst (λ (it : Result ℕ ℕ). IfErr it P) e holds

module _ {T : Type 0} (P : ℕ → Option T → Type 0) (answer : Result ℕ ℕ) (held lent : T) (was : Option T) (e : was ≡ Some held) (f : lent ≡ held) where
  pub ok-held : IfOk answer (λ n. P n (Some lent)) → IfOk answer (λ n. P n was)
  ok-held reads =
      subst (λ (it : Option T). IfOk answer (λ n. P n it)) (sym e) (subst (λ (it : T). IfOk answer (λ n. P n (Some it))) f reads)

  pub err-held : IfErr answer (λ n. P n (Some lent)) → IfErr answer (λ n. P n was)
  err-held lacks =
      subst (λ (it : Option T). IfErr answer (λ n. P n it)) (sym e) (subst (λ (it : T). IfErr answer (λ n. P n (Some it))) f lacks)

  pub is-told : (is : Bool) (told : ℕ) → OnTrue is (answer ≡ Ok told) → IfOk answer (λ n. P n (Some lent)) → OnTrue is (P told was)
  is-told is told ok reads = told-ok (λ n. P n was) answer is told ok (ok-held reads)

  pub is-refused : (is : Bool) (told : ℕ) → OnFalse is (answer ≡ Err told) → IfErr answer (λ n. P n (Some lent)) → OnFalse is (P told was)
  is-refused is told err lacks = told-err (λ n. P n was) answer is told err (err-held lacks)
