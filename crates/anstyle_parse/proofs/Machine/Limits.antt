-- What the parser keeps stays within its limits, whatever the bytes are.
use Rattle.std.proofs.Common.{◌≡◌, ℕ, ◌+◌, ◌≤◌, false, List, [], ◌∷◌, ◌++◌, length, take, eqb, arith, length-append, length-take, lit≤}
use Rattle.std.proofs.lemmas.Bool.{cond_both, eqb-false}
use Rattle.anstyle_parse.specs.declared.utf8.Taken.{Taken}
use Rattle.anstyle_parse.specs.declared.utf8.Taken.TheVariants.{Broken}
use Rattle.anstyle_parse.specs.declared.state.definitions.State.{State}
use Rattle.anstyle_parse.specs.declared.state.definitions.State.TheVariants.{Anywhere, Ground, Utf8}
use Rattle.anstyle_parse.specs.declared.state.definitions.Action.{Action}
use Rattle.anstyle_parse.specs.declared.state.definitions.Action.TheVariants.{Clear, Collect, CsiDispatch, Hook, OscEnd, OscPut, OscStart, Param}
use Rattle.anstyle_parse.specs.declared.parser.Parser.{Parser}
use Rattle.anstyle_parse.specs.Stream.Bytes.{colon, semicolon}
use Rattle.anstyle_parse.specs.Stream.Arguments.{max_fields, max_collected, max_osc_bytes, max_osc_parts}
use Rattle.anstyle_parse.specs.Machine.Table.{change_at}
use Rattle.anstyle_parse.specs.Machine.Step.{Machine, IsWithinLimits, field_count, stored_count, pushed, extended, after_clear, after_collect, after_param, with_last_field, after_osc_start, with_part, after_osc_put, AccumulatorStep, after_action, exit_action, entry_action, after_change, after_continuation, after_answer, step, step_from, machine_after}
use Rattle.anstyle_parse.specs.Views.Parser.{machine_of}
use Rattle.anstyle_parse.proofs.Lists.Splits.{length-concat_push}
use Rattle.anstyle_parse.proofs.Arguments.Lengths.{stored_total, length-cut}
use Rattle.anstyle_parse.proofs.Arguments.Starts.{field_total}

-- a count within its limit that is not the limit leaves room for one more
room_below : (count limit : ℕ) → count ≤ limit → eqb count limit ≡ false → count + 1 ≤ limit
room_below count limit within not_full =
    let other : count ≡ limit → ⊥ = eqb-false count limit not_full in omega arith

-- one more element
length-push : (xs : List ℕ) (x : ℕ) → length (xs ++ x ∷ []) ≡ length xs + 1
length-push xs x = length-append xs (x ∷ [])

-- one more list
length-push_list : (xss : List (List ℕ)) (xs : List ℕ) → length (xss ++ xs ∷ []) ≡ length xss + 1
length-push_list xss xs = length-append xss (xs ∷ [])

-- Each action keeps the limits.
module _ {A : Type 0} (b : ℕ) (m : Machine A) (h : IsWithinLimits m) where
  IsWithinLimits-cleared : IsWithinLimits (after_clear m)
  IsWithinLimits-cleared = record { fields = lit≤ tt; collected = lit≤ tt; stored = h.stored; parts = h.parts }

  IsWithinLimits-collecting : IsWithinLimits (after_collect b m)
  IsWithinLimits-collecting =
      cond_both (eqb (length m.collected) max_collected) _ _ (λ (r : Machine A). IsWithinLimits r)
      (λ _. record { fields = h.fields; collected = h.collected; stored = h.stored; parts = h.parts })
      (λ e. record {
        fields = h.fields;
        collected = omega (arith, length-push m.collected b, room_below (length m.collected) max_collected h.collected e);
        stored = h.stored;
        parts = h.parts;
      })

  -- the number as one more field, where there is room
  module _ (room : field_count m + 1 ≤ max_fields) where
    IsWithinLimits-pushed : IsWithinLimits (pushed m)
    IsWithinLimits-pushed = record {
      fields = omega (arith, room, length-concat_push m.closed_groups (m.open_group ++ m.number ∷ []), length-push m.open_group m.number);
      collected = h.collected;
      stored = h.stored;
      parts = h.parts;
    }

    IsWithinLimits-extended : IsWithinLimits (extended m)
    IsWithinLimits-extended = record {
      fields = omega (arith, room, length-push m.open_group m.number);
      collected = h.collected;
      stored = h.stored;
      parts = h.parts;
    }

  IsWithinLimits-with_last_field : IsWithinLimits (with_last_field m)
  IsWithinLimits-with_last_field =
      cond_both (eqb (field_count m) max_fields) _ _ (λ (r : Machine A). IsWithinLimits r)
      (λ _. record { fields = h.fields; collected = h.collected; stored = h.stored; parts = h.parts })
      (λ e. IsWithinLimits-pushed (room_below (field_count m) max_fields h.fields e))

  IsWithinLimits-text_begun : IsWithinLimits (after_osc_start m)
  IsWithinLimits-text_begun = record { fields = h.fields; collected = h.collected; stored = lit≤ tt; parts = lit≤ tt }

  IsWithinLimits-with_part : IsWithinLimits (with_part m)
  IsWithinLimits-with_part =
      cond_both (eqb (length m.closed_parts) max_osc_parts) _ _ (λ (r : Machine A). IsWithinLimits r)
      (λ _. h)
      (λ e. record {
        fields = h.fields;
        collected = h.collected;
        stored = omega (arith, h.stored, length-concat_push m.closed_parts m.open_part);
        parts = omega (arith, length-push_list m.closed_parts m.open_part, room_below (length m.closed_parts) max_osc_parts h.parts e);
      })

  IsWithinLimits-storing : IsWithinLimits (after_osc_put b m)
  IsWithinLimits-storing =
      cond_both (eqb (stored_count m) max_osc_bytes) _ _ (λ (r : Machine A). IsWithinLimits r)
      (λ _. h)
      (λ e. cond_both (eqb b semicolon) _ _ (λ (r : Machine A). IsWithinLimits r)
      (λ _. IsWithinLimits-with_part)
      (λ _. record {
        fields = h.fields;
        collected = h.collected;
        stored = omega (arith, length-push m.open_part b, room_below (stored_count m) max_osc_bytes h.stored e);
        parts = h.parts;
      }))

  IsWithinLimits-with_parameter : IsWithinLimits (after_param b m)
  IsWithinLimits-with_parameter =
      cond_both (eqb (field_count m) max_fields) _ _ (λ (r : Machine A). IsWithinLimits r)
      (λ _. record { fields = h.fields; collected = h.collected; stored = h.stored; parts = h.parts })
      (λ e.
      let pushes = IsWithinLimits-pushed (room_below (field_count m) max_fields h.fields e) in
      let extends = IsWithinLimits-extended (room_below (field_count m) max_fields h.fields e) in
      cond_both (eqb b semicolon) _ _ (λ (r : Machine A). IsWithinLimits r)
      (λ _. record { fields = pushes.fields; collected = h.collected; stored = h.stored; parts = h.parts })
      (λ _. cond_both (eqb b colon) _ _ (λ (r : Machine A). IsWithinLimits r)
      (λ _. record { fields = extends.fields; collected = h.collected; stored = h.stored; parts = h.parts })
      (λ _. record { fields = h.fields; collected = h.collected; stored = h.stored; parts = h.parts })))

module _ {A : Type 0} (adds : AccumulatorStep A) where
  -- whichever the action is
  IsWithinLimits-action : (action : Action) (b : ℕ) (m : Machine A) → IsWithinLimits m → IsWithinLimits (after_action adds action b m)
  IsWithinLimits-action Clear b m h = IsWithinLimits-cleared b m h
  IsWithinLimits-action Collect b m h = IsWithinLimits-collecting b m h
  IsWithinLimits-action Param b m h = IsWithinLimits-with_parameter b m h
  IsWithinLimits-action Hook b m h = IsWithinLimits-with_last_field b m h
  IsWithinLimits-action CsiDispatch b m h = IsWithinLimits-with_last_field b m h
  IsWithinLimits-action OscStart b m h = IsWithinLimits-text_begun b m h
  IsWithinLimits-action OscPut b m h = IsWithinLimits-storing b m h
  IsWithinLimits-action OscEnd b m h = IsWithinLimits-with_part b m h
  IsWithinLimits-action action b m h = record { fields = h.fields; collected = h.collected; stored = h.stored; parts = h.parts }

  -- a change of state
  IsWithinLimits-change : (state : State) (action : Action) (b : ℕ) (m : Machine A) → IsWithinLimits m → IsWithinLimits (after_change adds state action b m)
  IsWithinLimits-change Anywhere action b m h = IsWithinLimits-action action b m h
  IsWithinLimits-change state action b m h =
      let left = after_action adds (exit_action m.state) b m in
      let acted = after_action adds action b left in
      let entered = IsWithinLimits-action (entry_action state) b acted
      (IsWithinLimits-action action b left (IsWithinLimits-action (exit_action m.state) b m h)) in
      record { fields = entered.fields; collected = entered.collected; stored = entered.stored; parts = entered.parts }

  -- an answer of the accumulator, after which the byte may be handled once more
  IsWithinLimits-answer : (answer : Taken) (b : ℕ) (m : Machine A) → IsWithinLimits m → IsWithinLimits (after_answer adds answer b m)
  IsWithinLimits-answer (Broken c) b m h = IsWithinLimits-change (change_at Ground b).state (change_at Ground b).action b m h
  IsWithinLimits-answer answer b m h = h

  -- a byte in each state
  IsWithinLimits-from : (state : State) (b : ℕ) (m : Machine A) → IsWithinLimits m → IsWithinLimits (step_from adds state b m)
  IsWithinLimits-from Utf8 b m h =
      IsWithinLimits-answer (adds m.accumulator b).1 b (after_continuation adds b m)
      (record { fields = h.fields; collected = h.collected; stored = h.stored; parts = h.parts })
  IsWithinLimits-from state b m h = IsWithinLimits-change (change_at state b).state (change_at state b).action b m h

-- one byte keeps the limits
pub IsWithinLimits-step : {A : Type 0} (adds : AccumulatorStep A) (b : ℕ) (m : Machine A) → IsWithinLimits m → IsWithinLimits (step adds b m)
unfolding step
IsWithinLimits-step adds b m h = IsWithinLimits-from adds m.state b m h

-- and so do bytes, one after another
pub IsWithinLimits-machine : {A : Type 0} (adds : AccumulatorStep A) (bytes : List ℕ) (m : Machine A) → IsWithinLimits m → IsWithinLimits (machine_after adds bytes m)
IsWithinLimits-machine adds [] m h = h
IsWithinLimits-machine adds (b ∷ bytes) m h = IsWithinLimits-machine adds bytes (step adds b m) (IsWithinLimits-step adds b m h)

-- a parser is within the limits: its own conditions, and the size of its array of fields
pub IsWithinLimits-parser : {C : Type 0} (p : Parser C) → length p.header.params.numbers ≡ max_fields → IsWithinLimits (machine_of p)
IsWithinLimits-parser p numbers =
    let h = p.header in
    let t = p.command in
    record {
      fields = omega (arith, h.params.in_range, field_total h.params.open_fields h.params.len h.params.starts h.params.numbers h.params.open_within (omega (arith, h.params.in_range, numbers)) h.params.first_starts);
      collected = omega (arith, length-take h.intermediate_count h.intermediates, h.few_intermediates);
      stored = omega (arith, t.text_fits, stored_total t.text.items t.lengths t.parts t.closed t.closed_parts t.parts_in_text);
      parts = omega (arith, length-cut (take t.parts t.lengths) t.text.items, length-take t.parts t.lengths, t.few_parts);
    }
