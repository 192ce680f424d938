-- The machine's steps by cases, and machines that agree in each part.
use Rattle.std.proofs.Common.{◌≡◌, ℕ, List, refl, [], ◌∷◌, ◌++◌, length, ap, sym, subst, ◌∙◌, eqb, eq-eqb}
use Rattle.std.proofs.lemmas.Bool.{cond-true, cond-false, cond_both, ne_eqb}
use Rattle.anstyle_parse.specs.Stream.Bytes.{semicolon}
use Rattle.anstyle_parse.specs.Stream.Arguments.{max_osc_bytes, max_osc_parts}
use Rattle.anstyle_parse.specs.declared.utf8.Taken.{Taken}
use Rattle.anstyle_parse.specs.declared.utf8.Taken.TheVariants.{Broken}
use Rattle.anstyle_parse.specs.declared.state.definitions.State.{State}
use Rattle.anstyle_parse.specs.declared.state.definitions.State.TheVariants.{Anywhere, Ground, OscString, Utf8}
use Rattle.anstyle_parse.specs.declared.state.definitions.Action.{Action}
use Rattle.anstyle_parse.specs.Stream.Call.{Call, Goes}
use Rattle.anstyle_parse.specs.Machine.Table.{change_at}
use Rattle.anstyle_parse.specs.Machine.Step.{Machine, AccumulatorStep, IsBroken, stored_count, with_part, after_osc_put, after_action, action_calls, exit_action, entry_action, after_change, change_calls, after_continuation, print_answer, after_answer, answer_calls, step, step_calls, step_from, step_calls_from}

module _ {A : Type 0} (m : Machine A) where
  -- the same text, cut into the same parts
  pub same_parts : {ps qs : List (List ℕ)} {x y : List ℕ} → ps ≡ qs → x ≡ y
      → ◌≡◌ {A = Machine A} (record m { closed_parts = ps; open_part = x }) (record m { closed_parts = qs; open_part = y })
  same_parts {ps} {qs} {x} {y} e f =
      ap (λ cs. let r : Machine A = record m { closed_parts = cs; open_part = x } in r) e
      ∙ ap (λ z. let r : Machine A = record m { closed_parts = qs; open_part = z } in r) f

  pub with_part-room : (length m.closed_parts ≡ max_osc_parts → ⊥) → with_part m ≡ record m { closed_parts = m.closed_parts ++ m.open_part ∷ []; open_part = [] }
  with_part-room room = cond-false (eqb (length m.closed_parts) max_osc_parts) m _ (ne_eqb (length m.closed_parts) max_osc_parts room)

  pub with_part-full : length m.closed_parts ≡ max_osc_parts → with_part m ≡ m
  with_part-full full = cond-true (eqb (length m.closed_parts) max_osc_parts) m _ (eq-eqb (length m.closed_parts) max_osc_parts full)

  pub storing-full : (b : ℕ) → stored_count m ≡ max_osc_bytes → after_osc_put b m ≡ m
  storing-full b full = cond-true (eqb (stored_count m) max_osc_bytes) m _ (eq-eqb (stored_count m) max_osc_bytes full)

  module _ (b : ℕ) (room : stored_count m ≡ max_osc_bytes → ⊥) where
    pub storing-separator : b ≡ semicolon → after_osc_put b m ≡ with_part m
    storing-separator e =
        cond-false (eqb (stored_count m) max_osc_bytes) m _ (ne_eqb (stored_count m) max_osc_bytes room)
        ∙ cond-true (eqb b semicolon) (with_part m) _ (eq-eqb b semicolon e)

    pub storing-other : (b ≡ semicolon → ⊥) → after_osc_put b m ≡ record m { open_part = m.open_part ++ b ∷ [] }
    storing-other ne =
        cond-false (eqb (stored_count m) max_osc_bytes) m _ (ne_eqb (stored_count m) max_osc_bytes room)
        ∙ cond-false (eqb b semicolon) (with_part m) _ (ne_eqb b semicolon ne)

-- going on by further calls
pub Goes-append : {P : Type 0} (means : P → Call → P → Type 0) (a b c : P) (xs ys : List Call) → Goes means a xs b → Goes means b ys c → Goes means a (xs ++ ys) c
Goes-append {P = P} means a b c [] ys first second = let Q : P → Type 0 = λ p. Goes means p ys c in subst Q first second
Goes-append means a b c (x ∷ xs) ys first second = (first.0, first.1, Goes-append means first.0 b c xs ys first.2 second)

module _ {A : Type 0} (add : AccumulatorStep A) where
  -- a change to a state of its own
  pub after_change-moves : (state : State) (action : Action) (b : ℕ) (m : Machine A) → (state ≡ Anywhere → ⊥)
      → after_change add state action b m ≡ record (after_action add (entry_action state) b (after_action add action b (after_action add (exit_action m.state) b m))) { state = state }
  after_change-moves Anywhere action b m moves = absurd (moves refl)
  after_change-moves state action b m moves = refl

  pub change_calls-moves : (state : State) (action : Action) (b : ℕ) (m : Machine A) → (state ≡ Anywhere → ⊥)
      → change_calls add state action b m
      ≡ action_calls add (exit_action m.state) b m
      ++ (action_calls add action b (after_action add (exit_action m.state) b m)
      ++ action_calls add (entry_action state) b (after_action add action b (after_action add (exit_action m.state) b m)))
  change_calls-moves Anywhere action b m moves = absurd (moves refl)
  change_calls-moves state action b m moves = refl

  -- what is done on the way out leaves the accumulator
  pub accumulator-exit : (state : State) (b : ℕ) (m : Machine A) → (after_action add (exit_action state) b m).accumulator ≡ m.accumulator
  accumulator-exit OscString b m = cond_both (eqb (length m.closed_parts) max_osc_parts) m (record m { closed_parts = m.closed_parts ++ m.open_part ∷ []; open_part = [] }) (λ n. n.accumulator ≡ m.accumulator) (λ _. refl) (λ _. refl)
  accumulator-exit state b m = refl

  -- after an answer the byte is handled in Ground, if it broke a character
  after_answer-broken : (answer : Taken) (b : ℕ) (m : Machine A) → IsBroken answer → after_answer add answer b m ≡ step_from add Ground b m
  after_answer-broken (Broken c) b m breaks = refl
  after_answer-broken answer b m breaks = absurd breaks

  answer_calls-broken : (answer : Taken) (b : ℕ) (m : Machine A) → IsBroken answer → answer_calls add answer b m ≡ print_answer answer ++ step_calls_from add Ground b m
  answer_calls-broken (Broken c) b m breaks = refl
  answer_calls-broken answer b m breaks = absurd breaks

  -- and else not
  after_answer-whole : (answer : Taken) (b : ℕ) (m : Machine A) → (IsBroken answer → ⊥) → after_answer add answer b m ≡ m
  after_answer-whole (Broken c) b m whole = absurd (whole tt)
  after_answer-whole answer b m whole = refl

  answer_calls-whole : (answer : Taken) (b : ℕ) (m : Machine A) → (IsBroken answer → ⊥) → answer_calls add answer b m ≡ print_answer answer
  answer_calls-whole (Broken c) b m whole = absurd (whole tt)
  answer_calls-whole answer b m whole = refl

  pub step_from-outside : (state : State) (b : ℕ) (m : Machine A) → (state ≡ Utf8 → ⊥) → step_from add state b m ≡ after_change add (change_at state b).state (change_at state b).action b m
  step_from-outside Utf8 b m ne = absurd (ne refl)
  step_from-outside state b m ne = refl

  pub step_calls_from-outside : (state : State) (b : ℕ) (m : Machine A) → (state ≡ Utf8 → ⊥) → step_calls_from add state b m ≡ change_calls add (change_at state b).state (change_at state b).action b m
  step_calls_from-outside Utf8 b m ne = absurd (ne refl)
  step_calls_from-outside state b m ne = refl

  pub step-at : (state : State) (b : ℕ) (m : Machine A) → m.state ≡ state → step add b m ≡ step_from add state b m
  unfolding step
  step-at state b m e = ap (λ s. step_from add s b m) e

  pub step-outside : (b : ℕ) (m : Machine A) → (m.state ≡ Utf8 → ⊥) → step add b m ≡ after_change add (change_at m.state b).state (change_at m.state b).action b m
  unfolding step
  step-outside b m ne = step_from-outside m.state b m ne

  pub step_calls-at : (state : State) (b : ℕ) (m : Machine A) → m.state ≡ state → step_calls add b m ≡ step_calls_from add state b m
  unfolding step_calls
  step_calls-at state b m e = ap (λ s. step_calls_from add s b m) e

  -- inside a character: a byte that breaks it, and one that does not
  module _ (b : ℕ) (m : Machine A) (inside : m.state ≡ Utf8) where
    pub step-broken : IsBroken (add m.accumulator b).1 → step add b m ≡ step_from add Ground b (after_continuation add b m)
    step-broken breaks = step-at Utf8 b m inside ∙ after_answer-broken (add m.accumulator b).1 b (after_continuation add b m) breaks

    pub step_calls-broken : IsBroken (add m.accumulator b).1
        → step_calls add b m ≡ print_answer (add m.accumulator b).1 ++ step_calls_from add Ground b (after_continuation add b m)
    step_calls-broken breaks = step_calls-at Utf8 b m inside ∙ answer_calls-broken (add m.accumulator b).1 b (after_continuation add b m) breaks

    pub step-whole : (IsBroken (add m.accumulator b).1 → ⊥) → step add b m ≡ after_continuation add b m
    step-whole whole = step-at Utf8 b m inside ∙ after_answer-whole (add m.accumulator b).1 b (after_continuation add b m) whole

    pub step_calls-whole : (IsBroken (add m.accumulator b).1 → ⊥) → step_calls add b m ≡ print_answer (add m.accumulator b).1
    step_calls-whole whole = step_calls-at Utf8 b m inside ∙ answer_calls-whole (add m.accumulator b).1 b (after_continuation add b m) whole

-- three actions in turn are a change of state
module _ {A P : Type 0} (add : AccumulatorStep A) (means : P → Call → P → Type 0) (state : State) (action exit entry : Action) (b : ℕ)
    (m m1 m2 m3 : Machine A) (p p1 p2 p3 : P)
    (moves : state ≡ Anywhere → ⊥) (exit_is : exit ≡ exit_action m.state) (entry_is : entry ≡ entry_action state)
    (first : m1 ≡ after_action add exit b m) (second : m2 ≡ after_action add action b m1) (third : m3 ≡ after_action add entry b m2) where
  first_is : m1 ≡ after_action add (exit_action m.state) b m
  first_is = first ∙ ap (λ x. after_action add x b m) exit_is

  second_is : m2 ≡ after_action add action b (after_action add (exit_action m.state) b m)
  second_is = second ∙ ap (λ x. after_action add action b x) first_is

  third_is : m3 ≡ after_action add (entry_action state) b (after_action add action b (after_action add (exit_action m.state) b m))
  third_is = third ∙ ap (λ x. after_action add x b m2) entry_is ∙ ap (λ x. after_action add (entry_action state) b x) second_is

  pub moved : ◌≡◌ {A = Machine A} (record m3 { state = state }) (after_change add state action b m)
  moved = ap (λ x. let r : Machine A = record x { state = state } in r) third_is ∙ sym (after_change-moves add state action b m moves)

  pub moved_calls : Goes means p (action_calls add exit b m) p1 → Goes means p1 (action_calls add action b m1) p2 → Goes means p2 (action_calls add entry b m2) p3
      → Goes means p (change_calls add state action b m) p3
  moved_calls g1 g2 g3 =
      let Q : List Call → Type 0 = λ calls. Goes means p calls p3 in
      subst Q
      (ap (λ x. action_calls add x b m ++ (action_calls add action b m1 ++ action_calls add entry b m2)) exit_is
      ∙ ap (λ x. action_calls add (exit_action m.state) b m ++ (action_calls add action b x ++ action_calls add entry b m2)) first_is
      ∙ ap (λ x. action_calls add (exit_action m.state) b m ++ (action_calls add action b (after_action add (exit_action m.state) b m) ++ action_calls add x b m2)) entry_is
      ∙ ap (λ x. action_calls add (exit_action m.state) b m ++ (action_calls add action b (after_action add (exit_action m.state) b m) ++ action_calls add (entry_action state) b x)) second_is
      ∙ sym (change_calls-moves add state action b m moves))
      (Goes-append means p p1 p3 (action_calls add exit b m) (action_calls add action b m1 ++ action_calls add entry b m2) g1
      (Goes-append means p1 p2 p3 (action_calls add action b m1) (action_calls add entry b m2) g2 g3))
