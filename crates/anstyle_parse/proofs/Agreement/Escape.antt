-- One byte at a machine for an open item that is no header: nothing, a character, an escape
-- sequence.
use Rattle.std.proofs.Common.{◌≡◌, ℕ, Bool, true, false, cond, List, [], ◌∷◌, ◌++◌, filter, refl, sym, ap, ap₂, ◌∙◌, subst, append-nil}
use Rattle.std.specs.Prelude.{if◌then◌else◌, IsTrue}
use Rattle.std.specs.List.{list_any}
use Rattle.std.proofs.lemmas.Bool.{false≢true}
use Rattle.anstyle_parse.specs.declared.utf8.Taken.{Taken}
use Rattle.anstyle_parse.specs.declared.utf8.Taken.TheVariants.{More, Char, Broken}
use Rattle.anstyle_parse.specs.declared.state.definitions.State.TheVariants.{Escape, EscapeIntermediate, Utf8}
use Rattle.anstyle_parse.specs.Stream.Bytes.{is_intermediate}
use Rattle.anstyle_parse.specs.Stream.Characters.{is_lead, is_well_formed, is_proper_front, character_of, replacement}
use Rattle.anstyle_parse.specs.Stream.Call.{Call, print, execute, esc_dispatch}
use Rattle.anstyle_parse.specs.Stream.Calls.{is_executed, single_calls, executes, escape_dispatch, items_calls}
use Rattle.anstyle_parse.specs.Stream.Items.{Body, escape, csi, dcs_header, osc, sos_pm_apc, EachIs, character}
use Rattle.anstyle_parse.specs.Machine.Decoder.{decoded, started}
use Rattle.anstyle_parse.specs.Machine.Step.{Machine, new_machine, print_answer, state_after_answer}
use Rattle.anstyle_parse.specs.Machine.Stands.{counted}
use Rattle.anstyle_parse.proofs.Bytes.Classes.{Class, cancel_byte, esc_byte, intermediate_byte, digit_byte, colon_byte, semicolon_byte, marker_byte, device_byte, string_byte, control_introducer, command_byte, final_byte, lead_byte, class_of, is_printed_at, is_executed_at, is_lead_at, is_ascii_at, is_printed-class, is_executed-class, is_lead-class, is_ascii-class}
use Rattle.anstyle_parse.proofs.Division.Grow.{front, Growth, more, done, start, break_off, grow_front, into, ended, introduce, grow_body}
use Rattle.anstyle_parse.proofs.Arguments.HeaderFold.{escape_collected, escape_ignoring}
use Rattle.anstyle_parse.proofs.Machine.Actions.{new_in, headed, collecting-with_header}
use Rattle.anstyle_parse.proofs.Machine.Counted.{after_answer_at, answer_calls_at, step_at, step_calls_at}
use Rattle.anstyle_parse.proofs.Agreement.Values.{registers, escape_state, value_at, open_calls, executes-push, escape_value-push}

-- What a byte does to a machine for an open item is what it does to the item: after the
-- calls so far, it makes those of the items that it makes whole and of what is open then.
abbrev pub Grows : Machine (List ℕ) → List Call → Class → ℕ → Growth → Type 0
Grows m before class b growth =
    (counted (step_at decoded m.state class b m) ≡ value_at growth.next)
    × (before ++ step_calls_at decoded m.state class b m ≡ items_calls growth.items ++ open_calls growth.next)

-- calls that end an item
pub calls-ended : (before more : List Call) → before ++ more ≡ ((before ++ more) ++ []) ++ []
calls-ended before more = sym (append-nil ((before ++ more) ++ []) ∙ append-nil (before ++ more))

-- a single byte
abbrev single_calls_at : ℕ → Class → List Call
single_calls_at b class = if is_printed_at class then print b ∷ [] else if is_executed_at class then execute b ∷ [] else []

-- they go by the class of the byte
single_calls-class : (b : ℕ) (c : Class) → class_of b ≡ c → single_calls b ≡ single_calls_at b c
unfolding single_calls
single_calls-class b c class =
    ap (λ t. cond t (print b ∷ []) (cond (is_executed b) (execute b ∷ []) [])) (is_printed-class b ∙ ap is_printed_at class)
    ∙ ap (λ t. cond (is_printed_at c) (print b ∷ []) (cond t (execute b ∷ []) [])) (is_executed-class b ∙ ap is_executed_at class)

-- as the calls of an item that is the only one
single_whole : (b : ℕ) (c : Class) → class_of b ≡ c → (single_calls_at b c ++ []) ++ [] ≡ (single_calls b ++ []) ++ []
single_whole b c class = ap (λ calls. (calls ++ []) ++ []) (sym (single_calls-class b c class))

-- a lead byte begins a front
started-lead : (b : ℕ) → class_of b ≡ lead_byte → started b ≡ (b ∷ [], More)
started-lead b class =
    ap (λ t. cond t ([], Char b) (cond (is_lead b) (b ∷ [], More) ([], Char replacement))) (is_ascii-class b ∙ ap is_ascii_at class)
    ∙ ap (λ t. cond t (b ∷ [], More) ([], Char replacement)) (is_lead-class b ∙ ap is_lead_at class)

-- a byte where nothing is open
pub nothing_grows : (c : Class) (b : ℕ) → class_of b ≡ c → Grows (new_machine []) [] c b (start b c)
nothing_grows esc_byte b class = (refl, refl)
nothing_grows lead_byte b class = (ap (λ (answer : List ℕ × Taken). new_in Utf8 answer.0) (started-lead b class), ap (λ (answer : List ℕ × Taken). print_answer answer.1 ++ []) (started-lead b class))
nothing_grows c b class = (refl, single_whole b c class)

-- a byte after a front: the item and the accumulator by the same tests
abbrev answer_by : Bool → Bool → List ℕ → List ℕ × Taken
answer_by whole proper bytes = if whole then ([], Char (character_of bytes)) else if proper then (bytes, More) else ([], Broken replacement)

-- the item, and what is open then
abbrev growth_by : Bool → Bool → List ℕ → ℕ → Class → Growth
growth_by whole proper bytes b c =
    if whole then done (character (bytes ++ b ∷ [])) else if proper then more (front (bytes ++ b ∷ [])) else break_off bytes (start b c)

-- the machine after an answer
abbrev answered : List ℕ × Taken → Machine (List ℕ)
answered answer = record (new_machine answer.0) { state = state_after_answer answer.1 }

-- for each answer of the tests
front_by : (whole proper : Bool) (bytes : List ℕ) (c : Class) (b : ℕ) → class_of b ≡ c → let answer = answer_by whole proper (bytes ++ b ∷ []) in
    (counted (after_answer_at decoded answer.1 c b (answered answer)) ≡ value_at (growth_by whole proper bytes b c).next)
    × (answer_calls_at decoded answer.1 c b (answered answer) ≡ items_calls (growth_by whole proper bytes b c).items ++ open_calls (growth_by whole proper bytes b c).next)
front_by true proper bytes c b class = (refl, refl)
front_by false true bytes c b class = (refl, refl)
front_by false false bytes c b class = let starts = nothing_grows c b class in (starts.0, ap (λ calls. print replacement ∷ calls) starts.1)

-- a front is not empty
pub front_grows : (bytes : List ℕ) (c : Class) (b : ℕ) → class_of b ≡ c → IsTrue (is_proper_front bytes) → Grows (new_in Utf8 bytes) [] c b (grow_front bytes b c)
unfolding is_proper_front
front_grows [] c b class proper = absurd (false≢true proper)
front_grows (a ∷ bytes) c b class proper = front_by (is_well_formed (a ∷ (bytes ++ b ∷ []))) (is_proper_front (a ∷ (bytes ++ b ∷ []))) (a ∷ bytes) c b class

-- the dispatch of an escape sequence from its registers
EachIs-filter : (bytes : List ℕ) → EachIs is_intermediate (filter is_intermediate bytes)
EachIs-filter [] = tt
EachIs-filter (b ∷ bytes) =
    elim (is_intermediate b) as (λ t. is_intermediate b ≡ t → EachIs is_intermediate (cond t (b ∷ filter is_intermediate bytes) (filter is_intermediate bytes)))
    [ true ↦ λ e. (e, EachIs-filter bytes) | false ↦ λ e. EachIs-filter bytes ] refl

-- the registers are what the dispatch shows
escape_dispatched : (bytes : List ℕ) (b : ℕ) → let m = registers (filter is_intermediate bytes) in
    esc_dispatch m.collected m.ignoring b ∷ [] ≡ escape_dispatch bytes b ∷ []
escape_dispatched bytes b =
    ap₂ (λ collected ignoring. esc_dispatch collected ignoring b ∷ [])
    (escape_collected (filter is_intermediate bytes) (new_machine []) (EachIs-filter bytes))
    (escape_ignoring (filter is_intermediate bytes) (new_machine []) (EachIs-filter bytes))

-- a byte that ends the sequence, or after no intermediate begins another body
dispatches : (before : List Call) (bytes : List ℕ) (b : ℕ) → let m = registers (filter is_intermediate bytes) in
    before ++ (esc_dispatch m.collected m.ignoring b ∷ []) ≡ ((before ++ escape_dispatch bytes b ∷ []) ++ []) ++ []
dispatches before bytes b = ap (λ calls. before ++ calls) (escape_dispatched bytes b) ∙ calls-ended before (escape_dispatch bytes b ∷ [])

-- by whether there is an intermediate
introduces : (some : Bool) (m : Machine (List ℕ)) (c : Class) (b : ℕ) (bytes : List ℕ) (body : Body) → list_any is_intermediate bytes ≡ some
    → Grows m (executes bytes) c b (if some then ended (escape bytes) b else into body) → Grows m (executes bytes) c b (introduce bytes b body)
introduces some m c b bytes body e grows =
    subst (λ t. Grows m (executes bytes) c b (if t then ended (escape bytes) b else into body)) (sym e) grows

-- the machine for an escape sequence
abbrev escape_at : Bool → List ℕ → Machine (List ℕ)
escape_at some bytes = headed (escape_state some) [] (registers (filter is_intermediate bytes))

-- a byte of each class after an escape sequence
pub escape_grows : (some : Bool) (c : Class) (b : ℕ) (bytes : List ℕ) → list_any is_intermediate bytes ≡ some → class_of b ≡ c
    → Grows (escape_at some bytes) (executes bytes) c b (grow_body (escape bytes) b c)
escape_grows false intermediate_byte b bytes e class = (
  ap (λ (r : Machine (List ℕ)). headed EscapeIntermediate r.accumulator r) (collecting-with_header b (registers (filter is_intermediate bytes)) (new_in Escape []))
      ∙ sym (escape_value-push b intermediate_byte class bytes false e),
  sym (executes-push b intermediate_byte class bytes),
)
escape_grows true intermediate_byte b bytes e class = (
  ap counted (collecting-with_header b (registers (filter is_intermediate bytes)) (new_in EscapeIntermediate [])) ∙ sym (escape_value-push b intermediate_byte class bytes true e),
  sym (executes-push b intermediate_byte class bytes),
)
escape_grows some esc_byte b bytes e class = (refl, calls-ended (executes bytes) [])
escape_grows some cancel_byte b bytes e class = (refl, calls-ended (executes bytes) (execute b ∷ []))
escape_grows some digit_byte b bytes e class = (refl, dispatches (executes bytes) bytes b)
escape_grows some colon_byte b bytes e class = (refl, dispatches (executes bytes) bytes b)
escape_grows some semicolon_byte b bytes e class = (refl, dispatches (executes bytes) bytes b)
escape_grows some marker_byte b bytes e class = (refl, dispatches (executes bytes) bytes b)
escape_grows some final_byte b bytes e class = (refl, dispatches (executes bytes) bytes b)
escape_grows true device_byte b bytes e class = introduces true (escape_at true bytes) device_byte b bytes (dcs_header bytes []) e (refl, dispatches (executes bytes) bytes b)
escape_grows false device_byte b bytes e class = introduces false (escape_at false bytes) device_byte b bytes (dcs_header bytes []) e (refl, append-nil (executes bytes))
escape_grows true string_byte b bytes e class = introduces true (escape_at true bytes) string_byte b bytes (sos_pm_apc bytes b []) e (refl, dispatches (executes bytes) bytes b)
escape_grows false string_byte b bytes e class = introduces false (escape_at false bytes) string_byte b bytes (sos_pm_apc bytes b []) e (refl, append-nil (executes bytes))
escape_grows true control_introducer b bytes e class = introduces true (escape_at true bytes) control_introducer b bytes (csi bytes []) e (refl, dispatches (executes bytes) bytes b)
escape_grows false control_introducer b bytes e class = introduces false (escape_at false bytes) control_introducer b bytes (csi bytes []) e (refl, refl)
escape_grows true command_byte b bytes e class = introduces true (escape_at true bytes) command_byte b bytes (osc bytes []) e (refl, dispatches (executes bytes) bytes b)
escape_grows false command_byte b bytes e class = introduces false (escape_at false bytes) command_byte b bytes (osc bytes []) e (refl, append-nil (executes bytes))
escape_grows some c b bytes e class = (sym (escape_value-push b c class bytes some e), sym (executes-push b c class bytes))
