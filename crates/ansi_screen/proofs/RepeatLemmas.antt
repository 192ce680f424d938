-- A step that is taken several times.
use Rattle.std.proofs.Common.{◌≡◌, ℕ, zero, suc, ◌+◌, refl, ap, ◌∙◌, arith}
use Rattle.std.specs.Fn.{iterate}

-- one more is taken last
pub iterate-suc : {A : Type 0} (step : A → A) (n : ℕ) (x : A) → iterate step (suc n) x ≡ step (iterate step n x)
iterate-suc step zero x = refl
iterate-suc step (suc n) x = iterate-suc step n (step x)

-- so many times, and then so many more
pub iterate-add : {A : Type 0} (step : A → A) (n m : ℕ) (x : A) → iterate step m (iterate step n x) ≡ iterate step (n + m) x
iterate-add step zero m x =
    let none : m ≡ zero + m = omega arith in
    ap (λ k. iterate step k x) none
iterate-add step (suc n) m x =
    let next : suc (n + m) ≡ suc n + m = omega arith in
    iterate-add step n m (step x) ∙ ap (λ k. iterate step k x) next
