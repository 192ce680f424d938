-- A machine over any accumulator goes as the one over fronts, where a byte that reaches the accumulator does.
use Rattle.std.proofs.Common.{◌≡◌, ℕ, ◌<◌, Bool, true, false, List, [], ◌∷◌, ◌++◌, length, refl, sym, ap, ◌∙◌, cond, Option}
use Rattle.std.specs.Prelude.{⊤, ◌==◌}
use Rattle.std.specs.List.{AllByRecursion}
use Rattle.anstyle_parse.specs.declared.utf8.Taken.{Taken}
use Rattle.anstyle_parse.specs.declared.utf8.Taken.TheVariants.{Broken}
use Rattle.anstyle_parse.specs.declared.state.definitions.State.{State}
use Rattle.anstyle_parse.specs.declared.state.definitions.State.TheVariants.{Anywhere, DcsPassthrough, Escape, Ground, Utf8}
use Rattle.anstyle_parse.specs.declared.state.definitions.Action.{Action}
use Rattle.anstyle_parse.specs.declared.state.definitions.Action.TheVariants.{Collect, CsiDispatch, Hook, OscEnd, OscPut, Param, BeginUtf8}
use Rattle.anstyle_parse.specs.Stream.Bytes.{colon, semicolon, bell}
use Rattle.anstyle_parse.specs.Stream.Arguments.{max_fields, max_collected, max_osc_bytes, max_osc_parts}
use Rattle.anstyle_parse.specs.Stream.Call.{print, hook, csi_dispatch, osc_dispatch}
use Rattle.anstyle_parse.specs.Machine.Table.{change_at}
use Rattle.anstyle_parse.specs.Machine.Decoder.{decoded}
use Rattle.anstyle_parse.specs.Machine.Step.{Machine, AccumulatorStep, IsBroken, field_count, stored_count, pushed, after_collect, after_param, with_last_field, with_part, after_osc_put, dispatched, print_answer, state_after_answer, exit_action, entry_action, after_action, action_calls, after_change, change_calls, after_continuation, after_answer, answer_calls, step_from, step_calls_from, step, step_calls, machine_after, machine_calls}
use Rattle.anstyle_parse.specs.Views.Parser.{ReachesAccumulator, HoldsWhereReached}
use Rattle.anstyle_parse.specs.Machine.Stands.{seen, Decodes}
use Rattle.anstyle_parse.proofs.Machine.Steps.{accumulator-exit}
use Rattle.anstyle_parse.proofs.Machine.Reaches.{ReachesAccumulator-begin}

-- the accumulator does with the byte as the decoder does with the front that it is seen as
abbrev pub AddsAs : {A : Type 0} → (A → List ℕ) → AccumulatorStep A → A → ℕ → Type 0
AddsAs front adds value b = decoded (front value) b ≡ (front (adds value b).0, (adds value b).1)

-- each time that the byte reaches it
abbrev pub AddsAsWhereReached : {A : Type 0} → (A → List ℕ) → AccumulatorStep A → State → A → ℕ → Type 0
AddsAsWhereReached front adds state value b = HoldsWhereReached (λ value. AddsAs front adds value b) adds state value b

-- on the way out of a state no byte goes to the accumulator
exit_action-begin : (state : State) → exit_action state ≡ BeginUtf8 → ⊥
exit_action-begin DcsPassthrough e = cc
exit_action-begin state e = cc

-- nor on the way in
entry_action-begin : (state : State) → entry_action state ≡ BeginUtf8 → ⊥
entry_action-begin Escape e = cc
entry_action-begin state e = cc

-- From here on: what is done to a machine is done to it as it is seen.
module _ {A : Type 0} (front : A → List ℕ) where
  seen-cond : (t : Bool) (m n : Machine A) → seen front (cond t m n) ≡ cond t (seen front m) (seen front n)
  seen-cond true m n = refl
  seen-cond false m n = refl

  seen-collecting : (b : ℕ) (m : Machine A) → seen front (after_collect b m) ≡ after_collect b (seen front m)
  seen-collecting b m = seen-cond (length m.collected == max_collected) (record m { ignoring = true }) (record m { collected = m.collected ++ b ∷ [] })

  seen-with_parameter : (b : ℕ) (m : Machine A) → seen front (after_param b m) ≡ after_param b (seen front m)
  seen-with_parameter b m =
      seen-cond (field_count m == max_fields) _ _
      ∙ ap (cond (field_count m == max_fields) _)
      (seen-cond (b == semicolon) _ _ ∙ ap (cond (b == semicolon) _) (seen-cond (b == colon) _ _))

  seen-with_last_field : (m : Machine A) → seen front (with_last_field m) ≡ with_last_field (seen front m)
  seen-with_last_field m = seen-cond (field_count m == max_fields) (record m { ignoring = true }) (pushed m)

  seen-with_part : (m : Machine A) → seen front (with_part m) ≡ with_part (seen front m)
  seen-with_part m = seen-cond (length m.closed_parts == max_osc_parts) m (record m { closed_parts = m.closed_parts ++ m.open_part ∷ []; open_part = [] })

  seen-storing : (b : ℕ) (m : Machine A) → seen front (after_osc_put b m) ≡ after_osc_put b (seen front m)
  seen-storing b m =
      let longer : Machine (List ℕ) = record (seen front m) { open_part = m.open_part ++ b ∷ [] } in
      seen-cond (stored_count m == max_osc_bytes) _ _
      ∙ ap (cond (stored_count m == max_osc_bytes) _)
      (seen-cond (b == semicolon) _ _ ∙ ap (λ r. cond (b == semicolon) r longer) (seen-with_part m))

-- From here on: for one byte, if it is added to the front where it reaches the accumulator.
module _ {A : Type 0} (front : A → List ℕ) (adds : AccumulatorStep A) (b : ℕ) where
  -- an action
  seen-after_action : (action : Action) (m : Machine A) → (action ≡ BeginUtf8 → AddsAs front adds m.accumulator b)
      → seen front (after_action adds action b m) ≡ after_action decoded action b (seen front m)
  seen-after_action Collect m as_front = seen-collecting front b m
  seen-after_action Param m as_front = seen-with_parameter front b m
  seen-after_action Hook m as_front = seen-with_last_field front m
  seen-after_action CsiDispatch m as_front = seen-with_last_field front m
  seen-after_action OscPut m as_front = seen-storing front b m
  seen-after_action OscEnd m as_front = seen-with_part front m
  seen-after_action BeginUtf8 m as_front = ap (λ answer. let r : Machine (List ℕ) = record (seen front m) { accumulator = answer.0 } in r) (sym (as_front refl))
  seen-after_action action m as_front = refl

  -- its calls
  action_calls-seen : (action : Action) (m : Machine A) → (action ≡ BeginUtf8 → AddsAs front adds m.accumulator b)
      → action_calls adds action b m ≡ action_calls decoded action b (seen front m)
  action_calls-seen Hook m as_front = ap (λ r. dispatched hook b r ∷ []) (seen-with_last_field front m)
  action_calls-seen CsiDispatch m as_front = ap (λ r. dispatched csi_dispatch b r ∷ []) (seen-with_last_field front m)
  action_calls-seen OscEnd m as_front = ap (λ (r : Machine (List ℕ)). osc_dispatch r.closed_parts (b == bell) ∷ []) (seen-with_part front m)
  action_calls-seen BeginUtf8 m as_front = ap (λ answer. print_answer answer.1) (sym (as_front refl))
  action_calls-seen action m as_front = refl

  -- what is done on the way out of a state
  seen-left : (m : Machine A) → seen front (after_action adds (exit_action m.state) b m) ≡ after_action decoded (exit_action m.state) b (seen front m)
  seen-left m = seen-after_action (exit_action m.state) m (λ e. absurd (exit_action-begin m.state e))

  -- it leaves the accumulator
  left_adds : (action : Action) (m : Machine A) → (action ≡ BeginUtf8 → AddsAs front adds m.accumulator b)
      → action ≡ BeginUtf8 → AddsAs front adds (after_action adds (exit_action m.state) b m).accumulator b
  left_adds action m as_front e = rw (accumulator-exit adds m.state b m) (as_front e)

  -- that, and the action
  seen-acted : (action : Action) (m : Machine A) → (action ≡ BeginUtf8 → AddsAs front adds m.accumulator b)
      → seen front (after_action adds action b (after_action adds (exit_action m.state) b m))
      ≡ after_action decoded action b (after_action decoded (exit_action m.state) b (seen front m))
  seen-acted action m as_front =
      seen-after_action action (after_action adds (exit_action m.state) b m) (left_adds action m as_front)
      ∙ ap (after_action decoded action b) (seen-left m)

  -- a change of state
  seen-after_change : (state : State) (action : Action) (m : Machine A) → (action ≡ BeginUtf8 → AddsAs front adds m.accumulator b)
      → seen front (after_change adds state action b m) ≡ after_change decoded state action b (seen front m)
  seen-after_change Anywhere action m as_front = seen-after_action action m as_front
  seen-after_change state action m as_front =
      let acted : Machine A = after_action adds action b (after_action adds (exit_action m.state) b m) in
      ap (λ r. let entered : Machine (List ℕ) = record r { state = state } in entered)
      (seen-after_action (entry_action state) acted (λ e. absurd (entry_action-begin state e))
      ∙ ap (after_action decoded (entry_action state) b) (seen-acted action m as_front))

  -- its calls
  change_calls-seen : (state : State) (action : Action) (m : Machine A) → (action ≡ BeginUtf8 → AddsAs front adds m.accumulator b)
      → change_calls adds state action b m ≡ change_calls decoded state action b (seen front m)
  change_calls-seen Anywhere action m as_front = action_calls-seen action m as_front
  change_calls-seen state action m as_front =
      let left : Machine A = after_action adds (exit_action m.state) b m in
      let acted : Machine A = after_action adds action b left in
      let exits = action_calls-seen (exit_action m.state) m (λ e. absurd (exit_action-begin m.state e)) in
      let acts = action_calls-seen action left (left_adds action m as_front) ∙ ap (action_calls decoded action b) (seen-left m) in
      let enters = action_calls-seen (entry_action state) acted (λ e. absurd (entry_action-begin state e)) ∙ ap (action_calls decoded (entry_action state) b) (seen-acted action m as_front) in
      cc

  -- an answer, after which the byte may be handled once more
  seen-after_answer : (answer : Taken) (m : Machine A) → (IsBroken answer → ReachesAccumulator Ground b → AddsAs front adds m.accumulator b)
      → seen front (after_answer adds answer b m) ≡ after_answer decoded answer b (seen front m)
  seen-after_answer (Broken c) m as_front =
      seen-after_change (change_at Ground b).state (change_at Ground b).action m (λ e. as_front tt (ReachesAccumulator-begin Ground b e))
  seen-after_answer answer m as_front = refl

  -- its calls
  answer_calls-seen : (answer : Taken) (m : Machine A) → (IsBroken answer → ReachesAccumulator Ground b → AddsAs front adds m.accumulator b)
      → answer_calls adds answer b m ≡ answer_calls decoded answer b (seen front m)
  answer_calls-seen (Broken c) m as_front =
      ap (λ calls. print c ∷ calls)
      (change_calls-seen (change_at Ground b).state (change_at Ground b).action m (λ e. as_front tt (ReachesAccumulator-begin Ground b e)))
  answer_calls-seen answer m as_front = refl

  -- the machine as it is seen, after what the decoder answers
  abbrev seen-answered : Machine A → List ℕ × Taken → Machine (List ℕ)
  seen-answered m answer = record (seen front m) { accumulator = answer.0; state = state_after_answer answer.1 }

  -- one byte in each state
  seen-step_from : (state : State) (m : Machine A) → AddsAsWhereReached front adds state m.accumulator b
      → seen front (step_from adds state b m) ≡ step_from decoded state b (seen front m)
  seen-step_from Utf8 m as_front =
      seen-after_answer (adds m.accumulator b).1 (after_continuation adds b m) (as_front.1 refl)
      ∙ ap (λ answer. after_answer decoded answer.1 b (seen-answered m answer)) (sym (as_front.0 tt))
  seen-step_from state m as_front =
      seen-after_change (change_at state b).state (change_at state b).action m (λ e. as_front.0 (ReachesAccumulator-begin state b e))

  -- its calls
  step_calls_from-seen : (state : State) (m : Machine A) → AddsAsWhereReached front adds state m.accumulator b
      → step_calls_from adds state b m ≡ step_calls_from decoded state b (seen front m)
  step_calls_from-seen Utf8 m as_front =
      answer_calls-seen (adds m.accumulator b).1 (after_continuation adds b m) (as_front.1 refl)
      ∙ ap (λ answer. answer_calls decoded answer.1 b (seen-answered m answer)) (sym (as_front.0 tt))
  step_calls_from-seen state m as_front =
      change_calls-seen (change_at state b).state (change_at state b).action m (λ e. as_front.0 (ReachesAccumulator-begin state b e))

  -- one byte does to a machine what it does to the machine as it is seen, with the same calls
  pub Seen-byte : (m : Machine A) → AddsAsWhereReached front adds m.state m.accumulator b
      → (seen front (step adds b m) ≡ step decoded b (seen front m)) × (step_calls adds b m ≡ step_calls decoded b (seen front m))
  unfolding step step_calls
  Seen-byte m as_front = (seen-step_from m.state m as_front, step_calls_from-seen m.state m as_front)

-- so does each byte of a list that keeps the machine to what the lemma on one byte asks
pub Seen-bytes : {A : Type 0} (front : A → List ℕ) (adds : AccumulatorStep A) (Takes : ℕ → Type 0) (Keeps : Machine A → Type 0)
    → ((b : ℕ) → Takes b → (m : Machine A) → Keeps m → AddsAsWhereReached front adds m.state m.accumulator b × Keeps (step adds b m))
    → (bytes : List ℕ) → AllByRecursion Takes bytes → (m : Machine A) → Keeps m
    → (seen front (machine_after adds bytes m) ≡ machine_after decoded bytes (seen front m))
    × (machine_calls adds bytes m ≡ machine_calls decoded bytes (seen front m))
    × Keeps (machine_after adds bytes m)
Seen-bytes front adds Takes Keeps one [] all m keeps = (refl, refl, keeps)
Seen-bytes front adds Takes Keeps one (b ∷ bytes) all m keeps =
    let first = one b all.0 m keeps in
    let same = Seen-byte front adds b m first.0 in
    let others = Seen-bytes front adds Takes Keeps one bytes all.1 (step adds b m) first.1 in (
      others.0 ∙ ap (machine_after decoded bytes) same.0,
      (ap (λ calls. step_calls adds b m ++ calls) (others.1 ∙ ap (machine_calls decoded bytes) same.0))
          ∙ ap (λ calls. calls ++ machine_calls decoded bytes (step decoded b (seen front m))) same.1,
      others.2,
    )

-- From here on: an accumulator that decodes, and any bytes.
module _ {A : Type 0} (front : A → List ℕ) (takes : A → ℕ → Type 0) (add : A → ℕ → A × Option ℕ) (adds : AccumulatorStep A) (decodes : Decodes A front takes add adds) where
  -- it adds as the decoder does, each time
  adds_as : {state : State} (value : A) (b : ℕ) → b < 256 → AddsAsWhereReached front adds state value b
  adds_as value b small = ((λ reaches. decodes.steps value b small), (λ inside breaks reaches. decodes.steps (adds value b).0 b small))

  -- the machine as it is seen takes one byte
  pub Seen-step : (b : ℕ) → b < 256 → (m : Machine A)
      → (seen front (step adds b m) ≡ step decoded b (seen front m)) × (step_calls adds b m ≡ step_calls decoded b (seen front m))
  Seen-step b small m = Seen-byte front adds b m (adds_as m.accumulator b small)

  -- and a list of bytes
  pub Seen-machine : (bytes : List ℕ) → AllByRecursion (λ b. b < 256) bytes → (m : Machine A)
      → (seen front (machine_after adds bytes m) ≡ machine_after decoded bytes (seen front m))
      × (machine_calls adds bytes m ≡ machine_calls decoded bytes (seen front m))
  Seen-machine bytes small m =
      let all = Seen-bytes front adds (λ b. b < 256) (λ r. ⊤) (λ b lt r keeps. (adds_as r.accumulator b lt, tt)) bytes small m tt in
      (all.0, all.1)
