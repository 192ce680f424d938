-- What a performer that counts has counted after a list of calls.
use Rattle.std.proofs.Common.{◌≡◌, ℕ, ◌+◌, ◌≤◌, List, [], ◌∷◌, length, min, refl, ap, ◌∙◌, arith}
use Rattle.std.specs.List.{sum_by}
use Rattle.std.proofs.lemmas.List.Sums.{sum_by-cons}
use Rattle.anstyle_parse.specs.Stream.Call.{Call, Goes}

sum_by-one : (calls : List Call) → sum_by (λ _. 1) calls ≡ length calls
sum_by-one [] = refl
sum_by-one (call ∷ calls) = omega (arith, sum_by-cons (λ _. 1) call calls, sum_by-one calls)

module _ {P : Type 0} (means : P → Call → P → Type 0) (count : P → ℕ) (limit : ℕ) where
  pub Goes-sum : (weight : Call → ℕ) → ((old : P) (call : Call) (new : P) → means old call new → count new ≡ min limit (count old + weight call))
      → (first last : P) (calls : List Call) → count first ≤ limit → Goes means first calls last → count last ≡ min limit (count first + sum_by weight calls)
  Goes-sum weight adds first last [] fits goes = ap count goes ∙ omega arith
  Goes-sum weight adds first last (call ∷ calls) fits (mid, is, goes) =
      let added = adds first call mid is in
      Goes-sum weight adds mid last calls (omega (arith, added)) goes
      ∙ (ap (λ n. min limit (n + sum_by weight calls)) added ∙ omega (arith, sum_by-cons weight call calls))

  pub Goes-number : ((old : P) (call : Call) (new : P) → means old call new → count new ≡ min limit (count old + 1))
      → (first last : P) (calls : List Call) → count first ≤ limit → Goes means first calls last → count last ≡ min limit (count first + length calls)
  Goes-number adds first last calls fits goes =
      Goes-sum (λ _. 1) adds first last calls fits goes ∙ ap (λ n. min limit (count first + n)) (sum_by-one calls)
