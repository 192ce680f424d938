-- The machine for an open item: what counts of a machine that stands where the item is open.
use Rattle.std.proofs.Common.{◌≡◌, ℕ, Bool, true, false, cond, List, [], ◌∷◌, ◌++◌, map, filter, refl, sym, ap, ◌∙◌, append-nil}
use Rattle.std.specs.Prelude.{if◌then◌else◌, ◌||◌, ◌&&◌}
use Rattle.std.specs.List.{list_all, list_any}
use Rattle.std.proofs.lemmas.List.{map-append}
use Rattle.std.proofs.lemmas.List.Elements.{filter-append}
use Rattle.std.proofs.lemmas.List.Folds.{list_any-append}
use Rattle.anstyle_parse.specs.declared.state.definitions.State.{State}
use Rattle.anstyle_parse.specs.declared.state.definitions.State.TheVariants.{CsiEntry, CsiIgnore, CsiIntermediate, CsiParam, DcsEntry, DcsIgnore, DcsIntermediate, DcsParam, DcsPassthrough, Escape, EscapeIntermediate, OscString, SosPmApcString, Utf8}
use Rattle.anstyle_parse.specs.Stream.Bytes.{is_control, is_intermediate, is_parameter, is_marker, is_significant}
use Rattle.anstyle_parse.specs.Stream.Arguments.{significant, after_parameters, has_shape}
use Rattle.anstyle_parse.specs.Stream.Call.{Call, execute, put}
use Rattle.anstyle_parse.specs.Stream.Calls.{executes, is_put, body_calls}
use Rattle.anstyle_parse.specs.Stream.Items.{Body, escape, csi, dcs_header, dcs, dcs_ignored, osc, sos_pm_apc}
use Rattle.anstyle_parse.specs.Machine.Step.{Machine, new_machine, after_collect, after_param, after_osc_put}
use Rattle.anstyle_parse.proofs.Bytes.Classes.{Class, intermediate_byte, class_of, is_control_at, is_intermediate_at, is_parameter_at, is_marker_at, is_significant_at, is_put_at, is_kept_at, is_control-class, is_intermediate-class, is_parameter-class, is_marker-class, is_significant-class, is_put-class, is_kept-class}
use Rattle.anstyle_parse.proofs.Division.Grow.{Open, nothing, front, inside}
use Rattle.anstyle_parse.proofs.Arguments.HeaderFold.{header_after, header_after-append}
use Rattle.anstyle_parse.proofs.Arguments.TextFold.{text_after, text_after-append}
use Rattle.anstyle_parse.proofs.Machine.Actions.{new_in, headed, texted}

-- how far a header has come, by its significant bytes; a misfit has not the shape
pub data Phase : Type 0 where
  at_entry in_parameters in_intermediates misfit : Phase

-- one byte more, by whether it is a marker, a parameter byte, an intermediate
abbrev pub phase_by : Phase → Bool → Bool → Bool → Phase
phase_by at_entry marker parameter intermediate =
    if marker then in_parameters else if parameter then in_parameters else if intermediate then in_intermediates else misfit
phase_by in_parameters marker parameter intermediate = if parameter then in_parameters else if intermediate then in_intermediates else misfit
phase_by in_intermediates marker parameter intermediate = if intermediate then in_intermediates else misfit
phase_by misfit marker parameter intermediate = misfit

-- one byte after another
abbrev pub phase_from : Phase → List ℕ → Phase
phase_from phase [] = phase
phase_from phase (b ∷ bytes) = phase_from (phase_by phase (is_marker b) (is_parameter b) (is_intermediate b)) bytes

-- the phase of a whole header
abbrev pub phase_of : List ℕ → Phase
phase_of bytes = phase_from at_entry bytes

-- one byte more, by its class
abbrev pub phase_at : Phase → Class → Phase
phase_at phase class = phase_by phase (is_marker_at class) (is_parameter_at class) (is_intermediate_at class)

-- no misfit
abbrev pub fits : Phase → Bool
fits misfit = false
fits phase = true

-- a misfit stays one
fits-misfit : (bytes : List ℕ) → fits (phase_from misfit bytes) ≡ false
fits-misfit [] = refl
fits-misfit (b ∷ bytes) = fits-misfit bytes

-- among intermediates only more of them fit
fits-in_intermediates : (bytes : List ℕ) → fits (phase_from in_intermediates bytes) ≡ list_all is_intermediate bytes
fits-in_intermediates [] = refl
fits-in_intermediates (b ∷ bytes) =
    elim (is_intermediate b) as (λ t. fits (phase_from (cond t in_intermediates misfit) bytes) ≡ (t && list_all is_intermediate bytes))
    [ true ↦ fits-in_intermediates bytes | false ↦ fits-misfit bytes ]

-- among parameter bytes, more of them and then intermediates
fits-in_parameters : (bytes : List ℕ) → fits (phase_from in_parameters bytes) ≡ list_all is_intermediate (after_parameters bytes)
fits-in_parameters [] = refl
fits-in_parameters (b ∷ bytes) =
    elim (is_parameter b) as (λ t. fits (phase_from (cond t in_parameters (cond (is_intermediate b) in_intermediates misfit)) bytes)
    ≡ list_all is_intermediate (cond t (after_parameters bytes) (b ∷ bytes)))
    [ true ↦ fits-in_parameters bytes | false ↦ fits-in_intermediates (b ∷ bytes) ]

-- the phase fits if the header has the shape
pub fits-phase_of : (bytes : List ℕ) → fits (phase_of bytes) ≡ has_shape bytes
fits-phase_of [] = refl
fits-phase_of (b ∷ bytes) =
    elim (is_marker b) as (λ t. fits (phase_from (cond t in_parameters (cond (is_parameter b) in_parameters (cond (is_intermediate b) in_intermediates misfit))) bytes)
    ≡ list_all is_intermediate (after_parameters (cond t bytes (b ∷ bytes))))
    [ true ↦ fits-in_parameters bytes | false ↦ fits-in_parameters (b ∷ bytes) ]

-- the state of a control sequence, by the phase of its header
abbrev pub control_state : Phase → State
control_state at_entry = CsiEntry
control_state in_parameters = CsiParam
control_state in_intermediates = CsiIntermediate
control_state misfit = CsiIgnore

-- of a device control string
abbrev pub device_state : Phase → State
device_state at_entry = DcsEntry
device_state in_parameters = DcsParam
device_state in_intermediates = DcsIntermediate
device_state misfit = DcsIgnore

-- the registers of a header, as a machine that has read nothing else
abbrev pub registers : List ℕ → Machine (List ℕ)
registers header = header_after header (new_machine [])

-- the registers, unless they no longer count
abbrev pub header_value : Phase → State → Machine (List ℕ) → Machine (List ℕ)
header_value misfit state m = new_in state []
header_value phase state m = headed state [] m

-- the machine for a control sequence, by its phase and registers
abbrev pub control_value : Phase → Machine (List ℕ) → Machine (List ℕ)
control_value phase m = header_value phase (control_state phase) m

-- for a device control string
abbrev pub device_value : Phase → Machine (List ℕ) → Machine (List ℕ)
device_value phase m = header_value phase (device_state phase) m

-- an escape sequence, by whether it has an intermediate
abbrev pub escape_state : Bool → State
escape_state some = if some then EscapeIntermediate else Escape

-- the machine for a body
abbrev pub body_value : Body → Machine (List ℕ)
body_value (escape bytes) = headed (escape_state (list_any is_intermediate bytes)) [] (registers (filter is_intermediate bytes))
body_value (csi between header) = control_value (phase_of (significant header)) (registers (significant header))
body_value (dcs_header between header) = device_value (phase_of (significant header)) (registers (significant header))
body_value (dcs between header final text) = new_in DcsPassthrough []
body_value (dcs_ignored between header byte text) = new_in DcsIgnore []
body_value (osc between text) = texted OscString [] (text_after text (new_machine []))
body_value (sos_pm_apc between kind text) = new_in SosPmApcString []

-- the machine for an open item
abbrev pub value_at : Open → Machine (List ℕ)
value_at nothing = new_machine []
value_at (front bytes) = new_in Utf8 bytes
value_at (inside body) = body_value body

-- the calls of an open item so far
abbrev pub open_calls : Open → List Call
open_calls nothing = []
open_calls (front bytes) = []
open_calls (inside body) = body_calls body

-- one byte more in a list of those that pass a test
filter-push : (test : ℕ → Bool) (bytes : List ℕ) (b : ℕ) (answer : Bool) → test b ≡ answer
    → filter test (bytes ++ b ∷ []) ≡ cond answer (filter test bytes ++ b ∷ []) (filter test bytes)
filter-push test bytes b true e = filter-append test bytes (b ∷ []) ∙ ap (λ t. filter test bytes ++ cond t (b ∷ []) []) e
filter-push test bytes b false e =
    filter-append test bytes (b ∷ []) ∙ (ap (λ t. filter test bytes ++ cond t (b ∷ []) []) e ∙ append-nil (filter test bytes))

-- the calls of those, one for each
calls-push : (call : ℕ → Call) (test : ℕ → Bool) (bytes : List ℕ) (b : ℕ) (answer : Bool) → test b ≡ answer
    → map call (filter test (bytes ++ b ∷ [])) ≡ map call (filter test bytes) ++ cond answer (call b ∷ []) []
calls-push call test bytes b answer e =
    ap (λ list. map call list) (filter-append test bytes (b ∷ []))
    ∙ (map-append call (filter test bytes) (filter test (b ∷ []))
    ∙ ap (λ calls. map call (filter test bytes) ++ calls)
    (ap (λ t. map call (cond t (b ∷ []) [])) e
    ∙ elim answer as (λ t. map call (cond t (b ∷ []) []) ≡ cond t (call b ∷ []) []) [ true ↦ refl | false ↦ refl ]))

-- the phase and the registers of a header after one more byte
abbrev pub next_phase : Phase → Class → Phase
next_phase phase class = if is_significant_at class then phase_at phase class else phase

-- its registers
abbrev pub next_registers : ℕ → Class → Machine (List ℕ) → Machine (List ℕ)
next_registers b class m = if is_significant_at class then (if is_parameter_at class then after_param b m else after_collect b m) else m

-- From here on c is the class of the byte b that is appended.
module _ (b : ℕ) (c : Class) (class : class_of b ≡ c) where
  pub executes-push : (bytes : List ℕ) → executes (bytes ++ b ∷ []) ≡ executes bytes ++ cond (is_control_at c) (execute b ∷ []) []
  executes-push bytes = calls-push execute is_control bytes b (is_control_at c) (is_control-class b ∙ ap is_control_at class)

  pub puts-push : (bytes : List ℕ) → map put (filter is_put (bytes ++ b ∷ [])) ≡ map put (filter is_put bytes) ++ cond (is_put_at c) (put b ∷ []) []
  puts-push bytes = calls-push put is_put bytes b (is_put_at c) (is_put-class b ∙ ap is_put_at class)

  -- the phase of a longer header
  phase_from-push : (phase : Phase) (bytes : List ℕ) → phase_from phase (bytes ++ b ∷ []) ≡ phase_at (phase_from phase bytes) c
  phase_from-push phase [] =
      (ap (λ t. phase_by phase t (is_parameter b) (is_intermediate b)) (is_marker-class b ∙ ap is_marker_at class)
      ∙ ap (λ t. phase_by phase (is_marker_at c) t (is_intermediate b)) (is_parameter-class b ∙ ap is_parameter_at class))
      ∙ ap (λ t. phase_by phase (is_marker_at c) (is_parameter_at c) t) (is_intermediate-class b ∙ ap is_intermediate_at class)
  phase_from-push phase (x ∷ bytes) = phase_from-push (phase_by phase (is_marker x) (is_parameter x) (is_intermediate x)) bytes

  -- whether a longer header has the shape
  pub has_shape-push : (header : List ℕ) (phase : Phase) → phase_of header ≡ phase → has_shape (header ++ b ∷ []) ≡ fits (phase_at phase c)
  has_shape-push header phase e =
      sym (fits-phase_of (header ++ b ∷ [])) ∙ (ap fits (phase_from-push at_entry header) ∙ ap (λ p. fits (phase_at p c)) e)

  -- the registers of a longer header
  registers-push : (header : List ℕ) → registers (header ++ b ∷ []) ≡ cond (is_parameter_at c) (after_param b (registers header)) (after_collect b (registers header))
  registers-push header =
      header_after-append header (b ∷ []) (new_machine [])
      ∙ ap (λ t. cond t (after_param b (registers header)) (after_collect b (registers header))) (is_parameter-class b ∙ ap is_parameter_at class)

  -- the value of a body whose header is longer
  pub header_value-push : (value : Phase → Machine (List ℕ) → Machine (List ℕ)) (header : List ℕ) (phase : Phase) → phase_of (significant header) ≡ phase
      → value (phase_of (significant (header ++ b ∷ []))) (registers (significant (header ++ b ∷ [])))
      ≡ value (next_phase phase c) (next_registers b c (registers (significant header)))
  header_value-push value header phase e =
      ap (λ list. value (phase_of list) (registers list)) (filter-push is_significant header b (is_significant_at c) (is_significant-class b ∙ ap is_significant_at class))
      ∙ elim (is_significant_at c) as (λ t. value (phase_of (cond t (significant header ++ b ∷ []) (significant header))) (registers (cond t (significant header ++ b ∷ []) (significant header)))
      ≡ value (cond t (phase_at phase c) phase) (cond t (cond (is_parameter_at c) (after_param b (registers (significant header))) (after_collect b (registers (significant header)))) (registers (significant header)))) [
        | true ↦ ap (λ p. value p (registers (significant header ++ b ∷ []))) (phase_from-push at_entry (significant header) ∙ ap (λ p. phase_at p c) e)
            ∙ ap (value (phase_at phase c)) (registers-push (significant header))
        | false ↦ ap (λ p. value p (registers (significant header))) e
      ]

  -- the value of a longer command
  pub command_value-push : (between text : List ℕ) → body_value (osc between (text ++ b ∷ []))
      ≡ texted OscString [] (if is_kept_at c then after_osc_put b (text_after text (new_machine [])) else text_after text (new_machine []))
  command_value-push between text =
      ap (λ m. texted OscString [] m) (text_after-append text (b ∷ []) (new_machine [])
      ∙ ap (λ t. cond t (after_osc_put b (text_after text (new_machine []))) (text_after text (new_machine []))) (is_kept-class b ∙ ap is_kept_at class))

-- whether a longer escape sequence has an intermediate
some-push : (b : ℕ) (c : Class) → class_of b ≡ c → (bytes : List ℕ) (some : Bool) → list_any is_intermediate bytes ≡ some
    → list_any is_intermediate (bytes ++ b ∷ []) ≡ (some || (is_intermediate_at c || false))
some-push b c class bytes some e =
    list_any-append is_intermediate bytes (b ∷ [])
    ∙ (ap (λ s. s || (is_intermediate b || false)) e ∙ ap (λ t. some || (t || false)) (is_intermediate-class b ∙ ap is_intermediate_at class))

-- and its value
pub escape_value-push : (b : ℕ) (c : Class) → class_of b ≡ c → (bytes : List ℕ) (some : Bool) → list_any is_intermediate bytes ≡ some
    → body_value (escape (bytes ++ b ∷ []))
    ≡ headed (escape_state (some || is_intermediate_at c)) [] (if is_intermediate_at c then after_collect b (registers (filter is_intermediate bytes)) else registers (filter is_intermediate bytes))
escape_value-push b intermediate_byte class bytes some e =
    ap (λ s. headed (escape_state s) [] (registers (filter is_intermediate (bytes ++ b ∷ [])))) (some-push b intermediate_byte class bytes some e)
    ∙ ap (λ r. headed (escape_state (some || true)) [] r)
    (ap registers (filter-push is_intermediate bytes b true (is_intermediate-class b ∙ ap is_intermediate_at class)) ∙ registers-push b intermediate_byte class (filter is_intermediate bytes))
escape_value-push b c class bytes some e =
    ap (λ s. headed (escape_state s) [] (registers (filter is_intermediate (bytes ++ b ∷ [])))) (some-push b c class bytes some e)
    ∙ ap (λ list. headed (escape_state (some || false)) [] (registers list)) (filter-push is_intermediate bytes b false (is_intermediate-class b ∙ ap is_intermediate_at class))
