-- How many calls one byte makes: at most two.
use Rattle.std.proofs.Common.{◌≡◌, ℕ, ◌≤◌, Bool, true, false, ◌&&◌, cond, length, refl, ◌∙◌, IsTrue, ◌⊎◌, inl, inr, ⊎_elim, append-nil, arith, lit≤}
use Rattle.std.proofs.lemmas.Bool.{and_parts, false≢true, cond_both}
use Rattle.anstyle_parse.specs.declared.utf8.Taken.{Taken}
use Rattle.anstyle_parse.specs.declared.utf8.Taken.TheVariants.{More, Char, Broken}
use Rattle.anstyle_parse.specs.declared.state.definitions.State.{State}
use Rattle.anstyle_parse.specs.declared.state.definitions.State.TheVariants.{DcsPassthrough, Ground, OscString, Utf8}
use Rattle.anstyle_parse.specs.Stream.Bytes.{is_cancel}
use Rattle.anstyle_parse.specs.Machine.Step.{Machine, AccumulatorStep, IsBroken, print_answer, state_after_answer, step_calls}
use Rattle.anstyle_parse.proofs.Bytes.Classes.{Class, esc_byte, lead_byte, class_of, is_cancel_at, is_cancel-class}
use Rattle.anstyle_parse.proofs.Machine.Counted.{answer_calls_at, step_calls_at, step_calls-class}

-- the states that make a call on the way out
calls_last : State → Bool
calls_last OscString = true
calls_last DcsPassthrough = true
calls_last state = false

-- there are two of them
calls_last-cases : (state : State) → calls_last state ≡ true → (state ≡ OscString) ⊎ (state ≡ DcsPassthrough)
unfolding calls_last
calls_last-cases OscString e = inl refl
calls_last-cases DcsPassthrough e = inr refl
calls_last-cases state e = absurd (false≢true e)

-- how many calls a byte of this class may make in this state, where the accumulator answers this
most_calls : State → Taken → Class → ℕ
most_calls Utf8 (Broken c) class = 2
most_calls state answer class = cond (calls_last state && is_cancel_at class) 2 1

-- an answer is at most one call
length-print_answer : (answer : Taken) → length (print_answer answer) ≤ 1
length-print_answer More = lit≤ tt
length-print_answer (Char c) = lit≤ tt
length-print_answer (Broken c) = lit≤ tt

-- and so are those of a byte in Ground: the lines match on its class, so that they compute
step_calls_at-ground : {A : Type 0} (add : AccumulatorStep A) (class : Class) (b : ℕ) (m : Machine A) → length (step_calls_at add Ground class b (record m { state = Ground })) ≤ 1
step_calls_at-ground add lead_byte b m = rw append-nil (length-print_answer (add m.accumulator b).1)
step_calls_at-ground add esc_byte b m = lit≤ tt
step_calls_at-ground add class b m = lit≤ tt

-- after an answer there are more where the byte broke a character
answer_calls_at-most : {A : Type 0} (add : AccumulatorStep A) (answer : Taken) (class : Class) (b : ℕ) (accumulator : A) (m : Machine A)
    → length (answer_calls_at add answer class b (record m { accumulator = accumulator; state = state_after_answer answer })) ≤ most_calls Utf8 answer class
unfolding most_calls calls_last
answer_calls_at-most add More class b accumulator m = lit≤ tt
answer_calls_at-most add (Char c) class b accumulator m = lit≤ tt
answer_calls_at-most add (Broken c) class b accumulator m = omega (arith, step_calls_at-ground add class b (record m { accumulator = accumulator }))

-- The calls of each class in each state: the lines match on both, so that they compute.
step_calls_at-most : {A : Type 0} (add : AccumulatorStep A) (class : Class) (state : State) (b : ℕ) (m : Machine A)
    → length (step_calls_at add state class b (record m { state = state })) ≤ most_calls state (add m.accumulator b).1 class
unfolding most_calls calls_last
step_calls_at-most add class Utf8 b m = answer_calls_at-most add (add m.accumulator b).1 class b (add m.accumulator b).0 m
step_calls_at-most add class Ground b m = step_calls_at-ground add class b m
step_calls_at-most add esc_byte state b m = lit≤ tt
step_calls_at-most add class state b m = lit≤ tt

-- a byte makes at most as many calls as its class may
step_calls-most : {A : Type 0} (add : AccumulatorStep A) (b : ℕ) (m : Machine A) → length (step_calls add b m) ≤ most_calls m.state (add m.accumulator b).1 (class_of b)
step_calls-most add b m = rw (step_calls-class add b m) (step_calls_at-most add (class_of b) m.state b m)

-- that is one, or two
most_calls-few : (state : State) (answer : Taken) (class : Class) → most_calls state answer class ≤ 2
unfolding most_calls
most_calls-few Utf8 (Broken c) class = lit≤ tt
most_calls-few state answer class = cond_both (calls_last state && is_cancel_at class) 2 1 (λ n. n ≤ 2) (λ _. lit≤ tt) (λ _. lit≤ tt)

-- two only for 18 and 1A in such a state, or where the byte breaks a character
most_calls-two : (state : State) (answer : Taken) (class : Class) → 2 ≤ most_calls state answer class
    → ((calls_last state && is_cancel_at class) ≡ true) ⊎ ((state ≡ Utf8) × IsBroken answer)
unfolding most_calls
most_calls-two Utf8 (Broken c) class = λ more. inr (refl, tt)
most_calls-two state answer class =
    cond_both (calls_last state && is_cancel_at class) 2 1 (λ n. 2 ≤ n → ((calls_last state && is_cancel_at class) ≡ true) ⊎ ((state ≡ Utf8) × IsBroken answer))
    (λ both _. inl both) (λ _ more. absurd (omega arith))

module _ {A : Type 0} (adds : AccumulatorStep A) (b : ℕ) (m : Machine A) where
  -- one byte makes no more than two calls
  pub step_calls-few : length (step_calls adds b m) ≤ 2
  step_calls-few = omega (arith, step_calls-most adds b m, most_calls-few m.state (adds m.accumulator b).1 (class_of b))

  -- and two only if it is 18 or 1A, in a string whose end is a call, or if it breaks a character
  pub step_calls-two : length (step_calls adds b m) ≡ 2
      → (IsTrue (is_cancel b) × ((m.state ≡ OscString) ⊎ (m.state ≡ DcsPassthrough))) ⊎ ((m.state ≡ Utf8) × IsBroken (adds m.accumulator b).1)
  step_calls-two two =
      ⊎_elim
      (λ last.
      let both = and_parts (calls_last m.state) (is_cancel_at (class_of b)) last in
      inl (is_cancel-class b ∙ both.1, calls_last-cases m.state both.0))
      (λ breaks. inr breaks)
      (most_calls-two m.state (adds m.accumulator b).1 (class_of b) (omega (arith, step_calls-most adds b m)))
