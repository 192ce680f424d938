-- The actions on a header's registers, or on a command's text, read and write no others.
use Rattle.std.proofs.Common.{◌≡◌, ℕ, ◌+◌, ◌*◌, ◌-◌, Bool, true, false, [], ◌∷◌, ◌++◌, length, min, refl, ap, sym, ◌∙◌}
use Rattle.std.specs.Prelude.{if◌then◌else◌, ◌==◌}
use Rattle.std.proofs.lemmas.Bool.{false≢true}
use Rattle.anstyle_parse.specs.declared.state.definitions.State.{State}
use Rattle.anstyle_parse.specs.declared.state.definitions.Action.{Action}
use Rattle.anstyle_parse.specs.declared.state.definitions.Action.TheVariants.{Collect, CsiDispatch, Hook, OscEnd, OscPut, OscStart, Param, BeginUtf8}
use Rattle.anstyle_parse.specs.Stream.Bytes.{colon, semicolon}
use Rattle.anstyle_parse.specs.Stream.Arguments.{max_fields, max_field, max_collected, max_osc_bytes, max_osc_parts}
use Rattle.anstyle_parse.specs.Stream.Call.{hook, csi_dispatch}
use Rattle.anstyle_parse.proofs.Arguments.TextFold.{without_text}
use Rattle.anstyle_parse.specs.Machine.Step.{Machine, new_machine, dispatched, field_count, stored_count, pushed, extended, after_clear, after_collect, after_param, with_last_field, with_part, after_osc_put, AccumulatorStep, after_action, action_calls}

-- a state with nothing in its registers
abbrev pub new_in : {A : Type 0} → State → A → Machine A
new_in state accumulator = record (new_machine accumulator) { state = state }

-- a machine with the header of another
abbrev pub with_header_of : {A B : Type 0} → Machine A → Machine B → Machine B
with_header_of m n = record n { collected = m.collected; ignoring = m.ignoring; closed_groups = m.closed_groups; open_group = m.open_group; number = m.number }

-- a machine with the text of another
abbrev pub with_text_of : {A B : Type 0} → Machine A → Machine B → Machine B
with_text_of m n = record n { closed_parts = m.closed_parts; open_part = m.open_part }

-- a state with nothing but a header, and with nothing but a text
abbrev pub headed : {A : Type 0} → State → A → Machine A → Machine A
headed state accumulator m = with_header_of m (new_in state accumulator)

abbrev pub texted : {A : Type 0} → State → A → Machine A → Machine A
texted state accumulator m = with_text_of m (new_in state accumulator)

-- the same, with the answers of the tests given
abbrev pub collecting_by : {A : Type 0} → Bool → ℕ → Machine A → Machine A
collecting_by full b m = if full then record m { ignoring = true } else record m { collected = m.collected ++ b ∷ [] }

-- full: 32 fields; then whether the byte separates groups, and fields
abbrev pub with_parameter_by : {A : Type 0} → Bool → Bool → Bool → ℕ → Machine A → Machine A
with_parameter_by full ends_group ends_field b m =
    if full then record m { ignoring = true }
    else if ends_group then record (pushed m) { number = 0 }
    else if ends_field then record (extended m) { number = 0 }
    else record m { number = min max_field (m.number * 10 + (b - 0x30)) }

-- full: 32 fields
abbrev with_last_field_by : {A : Type 0} → Bool → Machine A → Machine A
with_last_field_by full m = if full then record m { ignoring = true } else pushed m

-- full: sixteen parts
abbrev with_part_by : {A : Type 0} → Bool → Machine A → Machine A
with_part_by full m = if full then m else record m { closed_parts = m.closed_parts ++ m.open_part ∷ []; open_part = [] }

-- full: 1024 bytes; then whether the byte separates parts, and whether there are sixteen
abbrev pub storing_by : {A : Type 0} → Bool → Bool → Bool → ℕ → Machine A → Machine A
storing_by full separates parts_full b m =
    if full then m else if separates then with_part_by parts_full m else record m { open_part = m.open_part ++ b ∷ [] }

-- From here on: what an action makes of a header, or of a text, does not depend on what else the
-- machine has.
module _ {A B : Type 0} (b : ℕ) (m : Machine A) (n : Machine B) where
  collecting_by-with_header : (full : Bool) → collecting_by full b (with_header_of m n) ≡ with_header_of (collecting_by full b m) n
  collecting_by-with_header true = refl
  collecting_by-with_header false = refl

  with_parameter_by-with_header : (full ends_group ends_field : Bool)
      → with_parameter_by full ends_group ends_field b (with_header_of m n) ≡ with_header_of (with_parameter_by full ends_group ends_field b m) n
  with_parameter_by-with_header true ends_group ends_field = refl
  with_parameter_by-with_header false true ends_field = refl
  with_parameter_by-with_header false false true = refl
  with_parameter_by-with_header false false false = refl

  with_last_field_by-with_header : (full : Bool) → with_last_field_by full (with_header_of m n) ≡ with_header_of (with_last_field_by full m) n
  with_last_field_by-with_header true = refl
  with_last_field_by-with_header false = refl

  with_part_by-with_text : (full : Bool) → with_part_by full (with_text_of m n) ≡ with_text_of (with_part_by full m) n
  with_part_by-with_text true = refl
  with_part_by-with_text false = refl

  storing_by-with_text : (full separates parts_full : Bool)
      → storing_by full separates parts_full b (with_text_of m n) ≡ with_text_of (storing_by full separates parts_full b m) n
  storing_by-with_text true separates parts_full = refl
  storing_by-with_text false true parts_full = with_part_by-with_text parts_full
  storing_by-with_text false false parts_full = refl

  pub collecting-with_header : after_collect b (with_header_of m n) ≡ with_header_of (after_collect b m) n
  collecting-with_header = collecting_by-with_header (length m.collected == max_collected)

  pub with_parameter-with_header : after_param b (with_header_of m n) ≡ with_header_of (after_param b m) n
  with_parameter-with_header = with_parameter_by-with_header (field_count m == max_fields) (b == semicolon) (b == colon)

  pub with_last_field-with_header : with_last_field (with_header_of m n) ≡ with_header_of (with_last_field m) n
  with_last_field-with_header = with_last_field_by-with_header (field_count m == max_fields)

  pub with_part-with_text : with_part (with_text_of m n) ≡ with_text_of (with_part m) n
  with_part-with_text = with_part_by-with_text (length m.closed_parts == max_osc_parts)

  pub storing-with_text : after_osc_put b (with_text_of m n) ≡ with_text_of (after_osc_put b m) n
  storing-with_text = storing_by-with_text (stored_count m == max_osc_bytes) (b == semicolon) (length m.closed_parts == max_osc_parts)

-- So what a header does, or a text, is what the whole machine does.
module _ {A B : Type 0} (b : ℕ) (part new : Machine A) (m : Machine B) where
  pub collecting-whole : new ≡ after_collect b part → with_header_of new m ≡ after_collect b (with_header_of part m)
  collecting-whole e = ap (λ h. with_header_of h m) e ∙ sym (collecting-with_header b part m)

  pub with_parameter-whole : new ≡ after_param b part → with_header_of new m ≡ after_param b (with_header_of part m)
  with_parameter-whole e = ap (λ h. with_header_of h m) e ∙ sym (with_parameter-with_header b part m)

  pub with_last_field-whole : new ≡ with_last_field part → with_header_of new m ≡ with_last_field (with_header_of part m)
  with_last_field-whole e = ap (λ h. with_header_of h m) e ∙ sym (with_last_field-with_header b part m)

  pub with_part-whole : new ≡ with_part part → with_text_of new m ≡ with_part (with_text_of part m)
  with_part-whole e = ap (λ t. with_text_of t m) e ∙ sym (with_part-with_text b part m)

  pub storing-whole : new ≡ after_osc_put b part → with_text_of new m ≡ after_osc_put b (with_text_of part m)
  storing-whole e = ap (λ t. with_text_of t m) e ∙ sym (storing-with_text b part m)

-- From here on: the action keeps all but the header (`cleared`), or all but the text.
module _ {A : Type 0} (b : ℕ) (m : Machine A) where
  collecting_by-cleared : (full : Bool) → after_clear (collecting_by full b m) ≡ after_clear m
  collecting_by-cleared true = refl
  collecting_by-cleared false = refl

  with_parameter_by-cleared : (full ends_group ends_field : Bool) → after_clear (with_parameter_by full ends_group ends_field b m) ≡ after_clear m
  with_parameter_by-cleared true ends_group ends_field = refl
  with_parameter_by-cleared false true ends_field = refl
  with_parameter_by-cleared false false true = refl
  with_parameter_by-cleared false false false = refl

  with_last_field_by-cleared : (full : Bool) → after_clear (with_last_field_by full m) ≡ after_clear m
  with_last_field_by-cleared true = refl
  with_last_field_by-cleared false = refl

  with_part_by-without_text : (full : Bool) → without_text (with_part_by full m) ≡ without_text m
  with_part_by-without_text true = refl
  with_part_by-without_text false = refl

  storing_by-without_text : (full separates parts_full : Bool) → without_text (storing_by full separates parts_full b m) ≡ without_text m
  storing_by-without_text true separates parts_full = refl
  storing_by-without_text false true parts_full = with_part_by-without_text parts_full
  storing_by-without_text false false parts_full = refl

  pub with_last_field-cleared : after_clear (with_last_field m) ≡ after_clear m
  with_last_field-cleared = with_last_field_by-cleared (field_count m == max_fields)

  pub with_part-without_text : without_text (with_part m) ≡ without_text m
  with_part-without_text = with_part_by-without_text (length m.closed_parts == max_osc_parts)

  pub storing-without_text : without_text (after_osc_put b m) ≡ without_text m
  storing-without_text = storing_by-without_text (stored_count m == max_osc_bytes) (b == semicolon) (length m.closed_parts == max_osc_parts)

-- the actions of the states in which a header is read
abbrev pub is_of_header : Action → Bool
is_of_header OscStart = false
is_of_header OscPut = false
is_of_header OscEnd = false
is_of_header BeginUtf8 = false
is_of_header action = true

-- what such an action does to the header comes of the header alone
pub after_action-headed : {A : Type 0} (add : AccumulatorStep A) (action : Action) (state : State) (accumulator : A) (b : ℕ) (m : Machine A) → is_of_header action ≡ true
    → after_action add action b (headed state accumulator m) ≡ headed state accumulator (after_action add action b m)
after_action-headed add Collect state accumulator b m e = collecting-with_header b m (new_in state accumulator)
after_action-headed add Param state accumulator b m e = with_parameter-with_header b m (new_in state accumulator)
after_action-headed add Hook state accumulator b m e = with_last_field-with_header b m (new_in state accumulator)
after_action-headed add CsiDispatch state accumulator b m e = with_last_field-with_header b m (new_in state accumulator)
after_action-headed add OscStart state accumulator b m e = absurd (false≢true e)
after_action-headed add OscPut state accumulator b m e = absurd (false≢true e)
after_action-headed add OscEnd state accumulator b m e = absurd (false≢true e)
after_action-headed add BeginUtf8 state accumulator b m e = absurd (false≢true e)
after_action-headed add action state accumulator b m e = refl

-- and it keeps all else
pub after_action-cleared : {A : Type 0} (add : AccumulatorStep A) (action : Action) (b : ℕ) (m : Machine A) → is_of_header action ≡ true
    → after_clear (after_action add action b m) ≡ after_clear m
after_action-cleared add Collect b m e = collecting_by-cleared b m (length m.collected == max_collected)
after_action-cleared add Param b m e = with_parameter_by-cleared b m (field_count m == max_fields) (b == semicolon) (b == colon)
after_action-cleared add Hook b m e = with_last_field-cleared b m
after_action-cleared add CsiDispatch b m e = with_last_field-cleared b m
after_action-cleared add OscStart b m e = absurd (false≢true e)
after_action-cleared add OscPut b m e = absurd (false≢true e)
after_action-cleared add OscEnd b m e = absurd (false≢true e)
after_action-cleared add BeginUtf8 b m e = absurd (false≢true e)
after_action-cleared add action b m e = refl

-- and so do its calls
pub action_calls-headed : {A : Type 0} (add : AccumulatorStep A) (action : Action) (state : State) (accumulator : A) (b : ℕ) (m : Machine A) → is_of_header action ≡ true
    → action_calls add action b (headed state accumulator m) ≡ action_calls add action b m
action_calls-headed add Hook state accumulator b m e =
    ap (λ (r : Machine _). dispatched hook b r ∷ []) (with_last_field-with_header b m (new_in state accumulator))
action_calls-headed add CsiDispatch state accumulator b m e =
    ap (λ (r : Machine _). dispatched csi_dispatch b r ∷ []) (with_last_field-with_header b m (new_in state accumulator))
action_calls-headed add OscStart state accumulator b m e = absurd (false≢true e)
action_calls-headed add OscPut state accumulator b m e = absurd (false≢true e)
action_calls-headed add OscEnd state accumulator b m e = absurd (false≢true e)
action_calls-headed add BeginUtf8 state accumulator b m e = absurd (false≢true e)
action_calls-headed add action state accumulator b m e = refl
