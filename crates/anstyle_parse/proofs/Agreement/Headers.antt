-- One byte at a machine for a control sequence, or for a device control string whose header
-- has not ended.
use Rattle.std.proofs.Common.{◌≡◌, ℕ, Bool, true, false, cond, List, [], ◌∷◌, ◌++◌, refl, sym, ap, ap₂, ◌∙◌, subst, append-nil, append_assoc}
use Rattle.std.specs.Prelude.{if◌then◌else◌}
use Rattle.std.proofs.lemmas.Bool.{false≢true, cond-true, cond-false}
use Rattle.anstyle_parse.specs.declared.state.definitions.State.{State}
use Rattle.anstyle_parse.specs.declared.state.definitions.State.TheVariants.{CsiEntry, CsiIntermediate, CsiParam, DcsEntry, DcsIntermediate, DcsParam, DcsPassthrough, Ground}
use Rattle.anstyle_parse.specs.Stream.Arguments.{significant, has_shape, groups_of, collected_of, ignore_of}
use Rattle.anstyle_parse.specs.Stream.Call.{Call, execute, hook, csi_dispatch}
use Rattle.anstyle_parse.specs.Stream.Calls.{executes, body_calls, control_dispatch}
use Rattle.anstyle_parse.specs.Stream.Items.{csi, dcs_header, dcs, dcs_ignored}
use Rattle.anstyle_parse.specs.Machine.Decoder.{decoded}
use Rattle.anstyle_parse.specs.Machine.Step.{Machine, new_machine, dispatched, with_last_field}
use Rattle.anstyle_parse.specs.Machine.Stands.{counted}
use Rattle.anstyle_parse.proofs.Bytes.Classes.{Class, cancel_byte, esc_byte, intermediate_byte, digit_byte, colon_byte, semicolon_byte, marker_byte, device_byte, string_byte, control_introducer, command_byte, final_byte, class_of, is_control_at}
use Rattle.anstyle_parse.proofs.Division.Grow.{into, grow_header, grow_body}
use Rattle.anstyle_parse.proofs.Arguments.HeaderFold.{header_groups, header_collected, header_ignoring, with_last_field-collected}
use Rattle.anstyle_parse.proofs.Machine.Actions.{new_in, headed, collecting-with_header, with_parameter-with_header, with_last_field-with_header}
use Rattle.anstyle_parse.proofs.Machine.Counted.{step_at, step_calls_at}
use Rattle.anstyle_parse.proofs.Agreement.Values.{Phase, at_entry, in_parameters, in_intermediates, misfit, phase_of, phase_at, fits, fits-phase_of, control_state, device_state, registers, control_value, device_value, executes-push, has_shape-push, next_phase, next_registers, header_value-push}
use Rattle.anstyle_parse.proofs.Agreement.Escape.{Grows, calls-ended}

-- the arguments of a dispatch, or of a hook, from the registers of a header of the right shape
shown : (call : List (List ℕ) → List ℕ → Bool → ℕ → Call) (state : State) (header : List ℕ) (b : ℕ) → has_shape header ≡ true
    → dispatched call b (with_last_field (headed state [] (registers header))) ≡ call (groups_of header) (collected_of header) (ignore_of header) b
shown call state header b shape =
    ap (λ (r : Machine (List ℕ)). dispatched call b r) (with_last_field-with_header b (registers header) (new_in state []))
    ∙ (ap (λ groups. call groups (with_last_field (registers header)).collected (with_last_field (registers header)).ignoring b) (header_groups header (new_machine []))
    ∙ (ap (λ collected. call (groups_of header) collected (with_last_field (registers header)).ignoring b) (with_last_field-collected (registers header))
    ∙ ap₂ (λ collected ignoring. call (groups_of header) collected ignoring b) (header_collected header (new_machine []) shape) (header_ignoring header (new_machine []) shape)))

-- leaving a header for a state in which no register counts
left_header : (state next : State) (b : ℕ) (m : Machine (List ℕ)) → new_in next (with_last_field (headed state [] m)).accumulator ≡ new_in next []
left_header state next b m = ap (λ (r : Machine (List ℕ)). new_in next r.accumulator) (with_last_field-with_header b m (new_in state []))

-- a header's phase fits if it has the shape
has_shape-phase : (header : List ℕ) (phase : Phase) → phase_of header ≡ phase → has_shape header ≡ fits phase
has_shape-phase header phase e = sym (fits-phase_of header) ∙ ap fits e

-- a control sequence that goes on
control_goes_on : (p : Phase) (c : Class) (b : ℕ) (between header : List ℕ) → phase_of (significant header) ≡ p → class_of b ≡ c
    → (let m = control_value p (registers (significant header)) in
    counted (step_at decoded m.state c b m) ≡ control_value (next_phase p c) (next_registers b c (registers (significant header))))
    → (let m = control_value p (registers (significant header)) in step_calls_at decoded m.state c b m ≡ cond (is_control_at c) (execute b ∷ []) [])
    → Grows (control_value p (registers (significant header))) (body_calls (csi between header)) c b (into (csi between (header ++ b ∷ [])))
control_goes_on p c b between header e class value calls = (
  value ∙ sym (header_value-push b c class control_value header p e),
  (ap (λ more. (executes between ++ executes header) ++ more) calls
      ∙ append_assoc (executes between) (executes header) (cond (is_control_at c) (execute b ∷ []) []))
      ∙ ap (λ more. executes between ++ more) (sym (executes-push b c class header)),
)

-- the final byte of one that has the shape
control_final : (state : State) (b : ℕ) (between header : List ℕ) → has_shape (significant header) ≡ true
    → (let r = with_last_field (headed state [] (registers (significant header))) in
    (new_in Ground r.accumulator ≡ new_machine [])
    × (body_calls (csi between header) ++ dispatched csi_dispatch b r ∷ []
    ≡ ((body_calls (csi between header) ++ control_dispatch (significant header) b) ++ []) ++ []))
control_final state b between header shape = (
  left_header state Ground b (registers (significant header)),
  (ap (λ call. body_calls (csi between header) ++ call ∷ []) (shown csi_dispatch state (significant header) b shape)
      ∙ ap (λ calls. body_calls (csi between header) ++ calls) (sym (cond-true (has_shape (significant header)) _ [] shape)))
      ∙ calls-ended (body_calls (csi between header)) (control_dispatch (significant header) b),
)

-- of one that has not
control_misfit : (b : ℕ) (between header : List ℕ) → has_shape (significant header) ≡ false
    → body_calls (csi between header) ++ [] ≡ ((body_calls (csi between header) ++ control_dispatch (significant header) b) ++ []) ++ []
control_misfit b between header shape =
    ap (λ calls. body_calls (csi between header) ++ calls) (sym (cond-false (has_shape (significant header)) _ [] shape))
    ∙ calls-ended (body_calls (csi between header)) (control_dispatch (significant header) b)

-- a byte of each class after a control sequence, for each phase of its header
pub control_grows : (p : Phase) (c : Class) (b : ℕ) (between header : List ℕ) → phase_of (significant header) ≡ p → class_of b ≡ c
    → Grows (control_value p (registers (significant header))) (body_calls (csi between header)) c b (grow_body (csi between header) b c)
control_grows at_entry intermediate_byte b between header e class =
    control_goes_on at_entry intermediate_byte b between header e class (ap (λ (r : Machine (List ℕ)). headed CsiIntermediate r.accumulator r) (collecting-with_header b (registers (significant header)) (new_in CsiEntry []))) refl
control_grows at_entry digit_byte b between header e class =
    control_goes_on at_entry digit_byte b between header e class (ap (λ (r : Machine (List ℕ)). headed CsiParam r.accumulator r) (with_parameter-with_header b (registers (significant header)) (new_in CsiEntry []))) refl
control_grows at_entry colon_byte b between header e class =
    control_goes_on at_entry colon_byte b between header e class (ap (λ (r : Machine (List ℕ)). headed CsiParam r.accumulator r) (with_parameter-with_header b (registers (significant header)) (new_in CsiEntry []))) refl
control_grows at_entry semicolon_byte b between header e class =
    control_goes_on at_entry semicolon_byte b between header e class (ap (λ (r : Machine (List ℕ)). headed CsiParam r.accumulator r) (with_parameter-with_header b (registers (significant header)) (new_in CsiEntry []))) refl
control_grows at_entry marker_byte b between header e class =
    control_goes_on at_entry marker_byte b between header e class (ap (λ (r : Machine (List ℕ)). headed CsiParam r.accumulator r) (collecting-with_header b (registers (significant header)) (new_in CsiEntry []))) refl
control_grows in_parameters intermediate_byte b between header e class =
    control_goes_on in_parameters intermediate_byte b between header e class (ap (λ (r : Machine (List ℕ)). headed CsiIntermediate r.accumulator r) (collecting-with_header b (registers (significant header)) (new_in CsiParam []))) refl
control_grows in_parameters digit_byte b between header e class =
    control_goes_on in_parameters digit_byte b between header e class (ap counted (with_parameter-with_header b (registers (significant header)) (new_in CsiParam []))) refl
control_grows in_parameters colon_byte b between header e class =
    control_goes_on in_parameters colon_byte b between header e class (ap counted (with_parameter-with_header b (registers (significant header)) (new_in CsiParam []))) refl
control_grows in_parameters semicolon_byte b between header e class =
    control_goes_on in_parameters semicolon_byte b between header e class (ap counted (with_parameter-with_header b (registers (significant header)) (new_in CsiParam []))) refl
control_grows in_intermediates intermediate_byte b between header e class =
    control_goes_on in_intermediates intermediate_byte b between header e class (ap counted (collecting-with_header b (registers (significant header)) (new_in CsiIntermediate []))) refl
control_grows p esc_byte b between header e class = (refl, calls-ended (body_calls (csi between header)) [])
control_grows p cancel_byte b between header e class = (refl, calls-ended (body_calls (csi between header)) (execute b ∷ []))
control_grows misfit device_byte b between header e class = (refl, control_misfit b between header (has_shape-phase (significant header) misfit e))
control_grows misfit string_byte b between header e class = (refl, control_misfit b between header (has_shape-phase (significant header) misfit e))
control_grows misfit control_introducer b between header e class = (refl, control_misfit b between header (has_shape-phase (significant header) misfit e))
control_grows misfit command_byte b between header e class = (refl, control_misfit b between header (has_shape-phase (significant header) misfit e))
control_grows misfit final_byte b between header e class = (refl, control_misfit b between header (has_shape-phase (significant header) misfit e))
control_grows p device_byte b between header e class = control_final (control_state p) b between header (has_shape-phase (significant header) p e)
control_grows p string_byte b between header e class = control_final (control_state p) b between header (has_shape-phase (significant header) p e)
control_grows p control_introducer b between header e class = control_final (control_state p) b between header (has_shape-phase (significant header) p e)
control_grows p command_byte b between header e class = control_final (control_state p) b between header (has_shape-phase (significant header) p e)
control_grows p final_byte b between header e class = control_final (control_state p) b between header (has_shape-phase (significant header) p e)
control_grows p c b between header e class = control_goes_on p c b between header e class refl refl

-- a device control string whose header goes on
device_goes_on : (p : Phase) (c : Class) (b : ℕ) (between header : List ℕ) → phase_of (significant header) ≡ p → class_of b ≡ c
    → (let m = device_value p (registers (significant header)) in
    counted (step_at decoded m.state c b m) ≡ device_value (next_phase p c) (next_registers b c (registers (significant header))))
    → (let m = device_value p (registers (significant header)) in step_calls_at decoded m.state c b m ≡ [])
    → Grows (device_value p (registers (significant header))) (executes between) c b (into (dcs_header between (header ++ b ∷ [])))
device_goes_on p c b between header e class value calls = (
  value ∙ sym (header_value-push b c class device_value header p e),
  ap (λ more. executes between ++ more) calls ∙ append-nil (executes between),
)

-- a byte that goes on with the header or does not fit it
device_header : (p : Phase) (c : Class) (b : ℕ) (between header : List ℕ) → phase_of (significant header) ≡ p → class_of b ≡ c
    → Grows (device_value p (registers (significant header))) (executes between) c b
    (if fits (phase_at p c) then into (dcs_header between (header ++ b ∷ [])) else into (dcs_ignored between header b []))
    → Grows (device_value p (registers (significant header))) (executes between) c b (grow_header between header b)
device_header p c b between header e class grows =
    subst (λ t. Grows (device_value p (registers (significant header))) (executes between) c b (if t then into (dcs_header between (header ++ b ∷ [])) else into (dcs_ignored between header b [])))
    (sym (has_shape-push b c class (significant header) p e)) grows

-- the final byte
device_final : (state : State) (b : ℕ) (between header : List ℕ) → has_shape (significant header) ≡ true
    → (let r = with_last_field (headed state [] (registers (significant header))) in
    (new_in DcsPassthrough r.accumulator ≡ new_in DcsPassthrough [])
    × (executes between ++ dispatched hook b r ∷ []
    ≡ body_calls (dcs between header b [])))
device_final state b between header shape = (
  left_header state DcsPassthrough b (registers (significant header)),
  ap (λ call. executes between ++ call ∷ []) (shown hook state (significant header) b shape),
)

-- a byte of each class after a device control string, for each phase of its header
pub device_grows : (p : Phase) (c : Class) (b : ℕ) (between header : List ℕ) → phase_of (significant header) ≡ p → fits p ≡ true → class_of b ≡ c
    → Grows (device_value p (registers (significant header))) (body_calls (dcs_header between header)) c b (grow_body (dcs_header between header) b c)
device_grows at_entry intermediate_byte b between header e fit class =
    device_header at_entry intermediate_byte b between header e class (device_goes_on at_entry intermediate_byte b between header e class (ap (λ (r : Machine (List ℕ)). headed DcsIntermediate r.accumulator r) (collecting-with_header b (registers (significant header)) (new_in DcsEntry []))) refl)
device_grows at_entry digit_byte b between header e fit class =
    device_header at_entry digit_byte b between header e class (device_goes_on at_entry digit_byte b between header e class (ap (λ (r : Machine (List ℕ)). headed DcsParam r.accumulator r) (with_parameter-with_header b (registers (significant header)) (new_in DcsEntry []))) refl)
device_grows at_entry colon_byte b between header e fit class =
    device_header at_entry colon_byte b between header e class (device_goes_on at_entry colon_byte b between header e class (ap (λ (r : Machine (List ℕ)). headed DcsParam r.accumulator r) (with_parameter-with_header b (registers (significant header)) (new_in DcsEntry []))) refl)
device_grows at_entry semicolon_byte b between header e fit class =
    device_header at_entry semicolon_byte b between header e class (device_goes_on at_entry semicolon_byte b between header e class (ap (λ (r : Machine (List ℕ)). headed DcsParam r.accumulator r) (with_parameter-with_header b (registers (significant header)) (new_in DcsEntry []))) refl)
device_grows at_entry marker_byte b between header e fit class =
    device_header at_entry marker_byte b between header e class (device_goes_on at_entry marker_byte b between header e class (ap (λ (r : Machine (List ℕ)). headed DcsParam r.accumulator r) (collecting-with_header b (registers (significant header)) (new_in DcsEntry []))) refl)
device_grows in_parameters intermediate_byte b between header e fit class =
    device_header in_parameters intermediate_byte b between header e class (device_goes_on in_parameters intermediate_byte b between header e class (ap (λ (r : Machine (List ℕ)). headed DcsIntermediate r.accumulator r) (collecting-with_header b (registers (significant header)) (new_in DcsParam []))) refl)
device_grows in_parameters digit_byte b between header e fit class =
    device_header in_parameters digit_byte b between header e class (device_goes_on in_parameters digit_byte b between header e class (ap counted (with_parameter-with_header b (registers (significant header)) (new_in DcsParam []))) refl)
device_grows in_parameters colon_byte b between header e fit class =
    device_header in_parameters colon_byte b between header e class (device_goes_on in_parameters colon_byte b between header e class (ap counted (with_parameter-with_header b (registers (significant header)) (new_in DcsParam []))) refl)
device_grows in_parameters semicolon_byte b between header e fit class =
    device_header in_parameters semicolon_byte b between header e class (device_goes_on in_parameters semicolon_byte b between header e class (ap counted (with_parameter-with_header b (registers (significant header)) (new_in DcsParam []))) refl)
device_grows in_intermediates intermediate_byte b between header e fit class =
    device_header in_intermediates intermediate_byte b between header e class (device_goes_on in_intermediates intermediate_byte b between header e class (ap counted (collecting-with_header b (registers (significant header)) (new_in DcsIntermediate []))) refl)
device_grows in_parameters marker_byte b between header e fit class = device_header in_parameters marker_byte b between header e class (refl, append-nil (executes between))
device_grows in_intermediates digit_byte b between header e fit class = device_header in_intermediates digit_byte b between header e class (refl, append-nil (executes between))
device_grows in_intermediates colon_byte b between header e fit class = device_header in_intermediates colon_byte b between header e class (refl, append-nil (executes between))
device_grows in_intermediates semicolon_byte b between header e fit class = device_header in_intermediates semicolon_byte b between header e class (refl, append-nil (executes between))
device_grows in_intermediates marker_byte b between header e fit class = device_header in_intermediates marker_byte b between header e class (refl, append-nil (executes between))
device_grows misfit c b between header e fit class = absurd (false≢true fit)
device_grows p esc_byte b between header e fit class = (refl, calls-ended (executes between) [])
device_grows p cancel_byte b between header e fit class = (refl, calls-ended (executes between) (execute b ∷ []))
device_grows p device_byte b between header e fit class = device_final (device_state p) b between header (has_shape-phase (significant header) p e ∙ fit)
device_grows p string_byte b between header e fit class = device_final (device_state p) b between header (has_shape-phase (significant header) p e ∙ fit)
device_grows p control_introducer b between header e fit class = device_final (device_state p) b between header (has_shape-phase (significant header) p e ∙ fit)
device_grows p command_byte b between header e fit class = device_final (device_state p) b between header (has_shape-phase (significant header) p e ∙ fit)
device_grows p final_byte b between header e fit class = device_final (device_state p) b between header (has_shape-phase (significant header) p e ∙ fit)
device_grows p c b between header e fit class = device_goes_on p c b between header e class refl refl
