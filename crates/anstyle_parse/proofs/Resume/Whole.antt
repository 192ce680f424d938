-- A new machine that takes the checkpoint of a machine stands as that one does.
use Rattle.std.proofs.Common.{◌≡◌, ℕ, ◌≤◌, Bool, true, false, ◌||◌, List, [], ◌∷◌, length, take, refl, sym, ap, ap₂, ◌∙◌, subst, cond, arith, IsTrue}
use Rattle.std.specs.Prelude.{nat_lt, filter}
use Rattle.std.specs.List.{list_any}
use Rattle.std.proofs.lemmas.Bool.{or_parts, or_left, or_right, cond-false, both_ways, lt-ltb}
use Rattle.anstyle_parse.specs.declared.state.definitions.State.{State}
use Rattle.anstyle_parse.specs.declared.state.definitions.State.TheVariants.{CsiIgnore, DcsIgnore, DcsPassthrough, Escape, EscapeIntermediate, Ground, OscString, SosPmApcString}
use Rattle.anstyle_parse.specs.Stream.Bytes.{is_within, is_intermediate, is_parameter, is_marker, is_significant, is_noise, escape_byte}
use Rattle.anstyle_parse.specs.Stream.Arguments.{significant, has_shape, max_collected}
use Rattle.anstyle_parse.specs.Stream.Items.{Body, escape, csi, dcs_header, dcs, dcs_ignored, osc, sos_pm_apc, EachIs, IsBody, body_text}
use Rattle.anstyle_parse.specs.Machine.Decoder.{decoded}
use Rattle.anstyle_parse.specs.Views.DecodingProof.{length-proper_front-lt}
use Rattle.anstyle_parse.specs.Machine.Step.{Machine, new_machine, machine_after, machine_calls}
use Rattle.anstyle_parse.specs.Machine.Stands.{counted, counted_in, StandsAfter}
use Rattle.anstyle_parse.specs.Stream.Canon.{escape_text}
use Rattle.anstyle_parse.specs.Laws.Checkpoint.{header_so_far, text_so_far, checkpoint_in, checkpoint_text}
use Rattle.anstyle_parse.proofs.Bytes.Classes.{class_below, class_of}
use Rattle.anstyle_parse.proofs.Division.Grow.{Open, nothing, front, inside, grow, open_after}
use Rattle.anstyle_parse.proofs.Division.Exists.{IsOpen, IsOpen-open_after}
use Rattle.anstyle_parse.proofs.Division.Steps.{Runs-body, Runs-front}
use Rattle.anstyle_parse.proofs.Bytes.Passing.{EachIs-weaker}
use Rattle.anstyle_parse.proofs.Arguments.HeaderFold.{header_after-intermediates, escape_collected, escape_ignoring}
use Rattle.anstyle_parse.proofs.Arguments.TextFold.{text_after}
use Rattle.anstyle_parse.proofs.Lists.Passing.{EachIs-filter, filter_all}
use Rattle.anstyle_parse.proofs.Lists.Parts.{AllByRecursion-take}
use Rattle.anstyle_parse.proofs.Canonical.Items.{IsHeader-each, escape_text-each}
use Rattle.anstyle_parse.proofs.Machine.Actions.{new_in, headed, texted}
use Rattle.anstyle_parse.proofs.Machine.Counted.{counted_in-state}
use Rattle.anstyle_parse.proofs.Agreement.Values.{Phase, at_entry, in_parameters, in_intermediates, misfit, phase_of, fits, fits-phase_of, control_value, device_value, registers, escape_state, body_value, value_at}
use Rattle.anstyle_parse.proofs.Agreement.Whole.{StandsAfter-value}
use Rattle.anstyle_parse.proofs.Agreement.Forgotten.{StandsAfter-from_value, same_calls}
use Rattle.anstyle_parse.proofs.Resume.Held.{Held, Held-registers}
use Rattle.anstyle_parse.proofs.Resume.Fields.{filled}
use Rattle.anstyle_parse.proofs.Resume.Header.{Replays, Replays-header}
use Rattle.anstyle_parse.proofs.Resume.Text.{HoldsText-registers, text_after-text_so_far, EachIs-text_so_far, length-text_so_far}

-- only what counts is written down
checkpoint_in-counted : (state : State) (m : Machine (List ℕ)) → checkpoint_in state m ≡ checkpoint_in state (counted_in state m)
checkpoint_in-counted Ground m = refl
checkpoint_in-counted state m = refl

-- so machines of which the same counts have the same checkpoint
checkpoint_text-counted : (m : Machine (List ℕ)) → checkpoint_text m ≡ checkpoint_text (counted m)
checkpoint_text-counted m = checkpoint_in-counted m.state m ∙ ap (λ state. checkpoint_in state (counted m)) (sym (counted_in-state m.state m))

-- The text leaves open what this machine stands for, and is not too long.
record Saves (text : List ℕ) (value : Machine (List ℕ)) : Type 0 where
  reaches : value_at (open_after nothing text) ≡ value
  short : length text ≤ 1042

-- the text of a body leaves the body open
Saves-body : (body : Body) (value : Machine (List ℕ)) → IsBody body → body_value body ≡ value → length (body_text body) ≤ 1042 → Saves (body_text body) value
Saves-body body value is e few = record { reaches = ap value_at (Runs-body body is).reaches ∙ e; short = few }

-- no byte passes: the filter leaves none
filter-list_any : (test : ℕ → Bool) (bytes : List ℕ) → list_any test bytes ≡ false → filter test bytes ≡ []
filter-list_any test [] e = refl
filter-list_any test (b ∷ bytes) e =
    let parts = or_parts (test b) (list_any test bytes) e in
    cond-false (test b) (b ∷ filter test bytes) (filter test bytes) parts.0 ∙ filter-list_any test bytes parts.1

-- intermediates fill these registers
registers-intermediates : (bytes : List ℕ) → EachIs is_intermediate bytes → registers bytes ≡ filled (take max_collected bytes) (nat_lt max_collected (length bytes)) [] [] 0
registers-intermediates bytes each =
    let r : Machine (List ℕ) = registers bytes in
    ap (λ (kept : Machine (List ℕ)). let full : Machine (List ℕ) = record kept { collected = r.collected; ignoring = r.ignoring } in full) (header_after-intermediates bytes (new_machine []) each)
    ∙ ap₂ (λ collected ignoring. filled collected ignoring [] [] 0) (escape_collected bytes (new_machine []) each) (escape_ignoring bytes (new_machine []) each)

-- the first two of them, and 20 for a third
abbrev first_intermediates : List ℕ → List ℕ
first_intermediates bytes = escape_text (take max_collected bytes) (nat_lt max_collected (length bytes))

-- of these the same are collected as of all, and the flag is the same
first-same : (bytes : List ℕ) → (take max_collected (first_intermediates bytes) ≡ take max_collected bytes) × (nat_lt max_collected (length (first_intermediates bytes)) ≡ nat_lt max_collected (length bytes))
unfolding escape_text
first-same [] = (refl, refl)
first-same (a ∷ []) = (refl, refl)
first-same (a ∷ b ∷ []) = (refl, refl)
first-same (a ∷ b ∷ c ∷ bytes) =
    let more : nat_lt max_collected (length (a ∷ b ∷ c ∷ bytes)) ≡ true = lt-ltb max_collected (length (a ∷ b ∷ c ∷ bytes)) (omega arith) in
    (refl, ap (λ t. nat_lt max_collected (length (a ∷ b ∷ cond t (0x20 ∷ []) []))) more ∙ sym more)

-- they fill the same registers
registers-first : (bytes : List ℕ) → EachIs is_intermediate bytes → EachIs is_intermediate (first_intermediates bytes) → registers (first_intermediates bytes) ≡ registers bytes
registers-first bytes each first =
    registers-intermediates (first_intermediates bytes) first
    ∙ (ap₂ (λ collected ignoring. filled collected ignoring [] [] 0) (first-same bytes).0 (first-same bytes).1 ∙ sym (registers-intermediates bytes each))

-- of some there are some
first-some : (bytes : List ℕ) → EachIs is_intermediate (first_intermediates bytes) → (bytes ≡ [] → ⊥) → list_any is_intermediate (first_intermediates bytes) ≡ true
unfolding escape_text
first-some [] first some = absurd (some refl)
first-some (a ∷ []) first some = or_left (is_intermediate a) false first.0
first-some (a ∷ b ∷ bytes) first some = or_left (is_intermediate a) _ first.0

-- and they are at most three
length-first : (bytes : List ℕ) → length (first_intermediates bytes) ≤ 3
unfolding escape_text
length-first [] = omega arith
length-first (a ∷ []) = omega arith
length-first (a ∷ b ∷ bytes) = length-by (nat_lt max_collected (length (a ∷ b ∷ bytes)))
  where
    length-by : (more : Bool) → length (a ∷ b ∷ cond more (0x20 ∷ []) []) ≤ 3
    length-by true = omega arith
    length-by false = omega arith

-- where a filter leaves none, no byte passes
list_any-by : (test : ℕ → Bool) (b : ℕ) (bytes : List ℕ) (answer : Bool) → (filter test bytes ≡ [] → list_any test bytes ≡ false)
    → cond answer (b ∷ filter test bytes) (filter test bytes) ≡ [] → (answer || list_any test bytes) ≡ false
list_any-by test b bytes true rest e = cc
list_any-by test b bytes false rest e = rest e

-- for the whole list
list_any-filter : (test : ℕ → Bool) (bytes : List ℕ) → filter test bytes ≡ [] → list_any test bytes ≡ false
list_any-filter test [] e = refl
list_any-filter test (b ∷ bytes) e = list_any-by test b bytes (test b) (list_any-filter test bytes) e

-- an escape sequence, by whether it has an intermediate
saves_escape : (bytes : List ℕ) (some : Bool) → list_any is_intermediate bytes ≡ some
    → Saves (checkpoint_text (headed (escape_state some) [] (registers (filter is_intermediate bytes)))) (headed (escape_state some) [] (registers (filter is_intermediate bytes)))
saves_escape bytes false e =
    Saves-body (escape []) (headed Escape [] (registers (filter is_intermediate bytes))) tt
    (ap (λ list. headed Escape [] (registers list)) (sym (filter-list_any is_intermediate bytes e))) (omega arith)
saves_escape bytes true e =
    let others : List ℕ = filter is_intermediate bytes in
    let text : List ℕ = first_intermediates others in
    let each : EachIs is_intermediate others = EachIs-filter is_intermediate bytes in
    let first : EachIs is_intermediate text =
    escape_text-each (take max_collected others) (nat_lt max_collected (length others)) (AllByRecursion-take (λ b. IsTrue (is_intermediate b)) max_collected others each) in
    let written : text ≡ escape_text (registers others).collected (registers others).ignoring =
    ap (λ (r : Machine (List ℕ)). escape_text r.collected r.ignoring) (sym (registers-intermediates others each)) in
    subst (λ list. Saves (escape_byte ∷ list) (headed EscapeIntermediate [] (registers others))) written
    (Saves-body (escape text) (headed EscapeIntermediate [] (registers others))
    (EachIs-weaker is_intermediate (λ b. is_noise b || is_intermediate b) (λ b is. or_right (is_noise b) (is_intermediate b) is) text first)
    (ap₂ (λ some list. headed (escape_state some) [] (registers list))
    (first-some others first (λ none. both_ways (list_any is_intermediate bytes) (list_any-filter is_intermediate bytes none) e)) (filter_all is_intermediate text first)
    ∙ ap (headed EscapeIntermediate []) (registers-first others each first))
    (omega (arith, length-first others)))

-- a header that leads to the registers, as the header of a sequence
value-replayed : (value : Phase → Machine (List ℕ) → Machine (List ℕ)) (phase : Phase) (header : List ℕ) (m : Machine (List ℕ)) → Replays phase header m
    → value (phase_of (significant header)) (registers (significant header)) ≡ value phase (filled m.collected m.ignoring m.closed_groups m.open_group m.number)
value-replayed value phase header m replays =
    ap (λ list. value (phase_of list) (registers list)) replays.all_significant ∙ ap₂ value replays.comes_to replays.fills

-- the header of a control sequence, by its phase
Saves-control : (phase : Phase) (header : List ℕ) (m : Machine (List ℕ)) → Replays phase header m
    → Saves (escape_byte ∷ 0x5B ∷ header) (control_value phase (filled m.collected m.ignoring m.closed_groups m.open_group m.number))
Saves-control phase header m replays =
    Saves-body (csi [] header) (control_value phase (filled m.collected m.ignoring m.closed_groups m.open_group m.number))
    (tt, IsHeader-each header replays.bytes_are) (value-replayed control_value phase header m replays) (omega (arith, replays.size))

-- one that has not the shape
saves_misfit : Saves (escape_byte ∷ 0x5B ∷ 0x30 ∷ 0x3C ∷ []) (new_in CsiIgnore [])
unfolding grow class_of class_below is_marker is_parameter is_intermediate is_significant is_within
saves_misfit = record { reaches = refl; short = omega arith }

-- a control sequence, by the phase of its header
saves_control : (phase : Phase) (m : Machine (List ℕ)) → Held phase m → Saves (checkpoint_text (control_value phase m)) (control_value phase m)
saves_control at_entry m h = Saves-body (csi [] []) (control_value at_entry m) (tt, tt) (ap (λ r. control_value at_entry r) (sym h)) (omega arith)
saves_control in_parameters m h = Saves-control in_parameters (header_so_far m) m (Replays-header in_parameters m h)
saves_control in_intermediates m h = Saves-control in_intermediates (header_so_far m) m (Replays-header in_intermediates m h)
saves_control misfit m h = saves_misfit

-- of a device control string
Saves-device : (phase : Phase) (header : List ℕ) (m : Machine (List ℕ)) → fits phase ≡ true → Replays phase header m
    → Saves (escape_byte ∷ 0x50 ∷ header) (device_value phase (filled m.collected m.ignoring m.closed_groups m.open_group m.number))
Saves-device phase header m fit replays =
    Saves-body (dcs_header [] header) (device_value phase (filled m.collected m.ignoring m.closed_groups m.open_group m.number))
    (record { noise = tt; header_bytes = IsHeader-each header replays.bytes_are; shaped = ap has_shape replays.all_significant ∙ (sym (fits-phase_of header) ∙ (ap fits replays.comes_to ∙ fit)) })
    (value-replayed device_value phase header m replays) (omega (arith, replays.size))

-- one that is ignored
saves_dropped : Saves (escape_byte ∷ 0x50 ∷ 0x30 ∷ 0x3C ∷ []) (new_in DcsIgnore [])
unfolding grow class_of class_below is_marker is_parameter is_intermediate is_significant is_within
saves_dropped = record { reaches = refl; short = omega arith }

-- a device control string, by the phase of its header
saves_device : (phase : Phase) (m : Machine (List ℕ)) → Held phase m → Saves (checkpoint_text (device_value phase m)) (device_value phase m)
saves_device at_entry m h = Saves-body (dcs_header [] []) (device_value at_entry m) (record { noise = tt; header_bytes = tt; shaped = refl }) (ap (λ r. device_value at_entry r) (sym h)) (omega arith)
saves_device in_parameters m h = Saves-device in_parameters (header_so_far m) m refl (Replays-header in_parameters m h)
saves_device in_intermediates m h = Saves-device in_intermediates (header_so_far m) m refl (Replays-header in_intermediates m h)
saves_device misfit m h = saves_dropped

-- a string that is hooked, and one that is ignored
saves_hooked : Saves (escape_byte ∷ 0x50 ∷ 0x40 ∷ []) (new_in DcsPassthrough [])
unfolding grow class_of class_below
saves_hooked = record { reaches = refl; short = omega arith }

-- a string of another kind
saves_ignored : Saves (escape_byte ∷ 0x58 ∷ []) (new_in SosPmApcString [])
unfolding grow class_of class_below
saves_ignored = record { reaches = refl; short = omega arith }

-- an operating system command
saves_command : (text : List ℕ) → Saves (checkpoint_text (texted OscString [] (text_after text (new_machine [])))) (texted OscString [] (text_after text (new_machine [])))
saves_command text =
    let m : Machine (List ℕ) = text_after text (new_machine []) in
    let holds = HoldsText-registers text in
    Saves-body (osc [] (text_so_far m)) (texted OscString [] m) (tt, EachIs-text_so_far m holds)
    (ap (texted OscString []) (text_after-text_so_far m holds)) (omega (arith, length-text_so_far m holds))

-- each open item
saves_inside : (body : Body) → Saves (checkpoint_text (body_value body)) (body_value body)
saves_inside (escape bytes) = saves_escape bytes (list_any is_intermediate bytes) refl
saves_inside (csi between header) = saves_control (phase_of (significant header)) (registers (significant header)) (Held-registers (significant header))
saves_inside (dcs_header between header) = saves_device (phase_of (significant header)) (registers (significant header)) (Held-registers (significant header))
saves_inside (dcs between header final text) = saves_hooked
saves_inside (dcs_ignored between header byte text) = saves_dropped
saves_inside (osc between text) = saves_command text
saves_inside (sos_pm_apc between kind text) = saves_ignored

-- nothing, a character that is begun, a sequence
saves_open : (o : Open) → IsOpen o → Saves (checkpoint_text (value_at o)) (value_at o)
saves_open nothing is = record { reaches = refl; short = omega arith }
saves_open (front bytes) is = record { reaches = ap value_at (Runs-front bytes is).reaches; short = omega (arith, length-proper_front-lt bytes is) }
saves_open (inside body) is = saves_inside body

-- what a machine that stands after some bytes writes down
saves_machine : (h : List ℕ) (m : Machine (List ℕ)) → StandsAfter m h → Saves (checkpoint_text m) (counted m)
saves_machine h m stands =
    let o : Open = open_after nothing h in
    let same : value_at o ≡ counted m = sym (StandsAfter-value m h stands) in
    subst (λ text. Saves text (counted m)) (ap checkpoint_text same ∙ sym (checkpoint_text-counted m))
    (subst (λ value. Saves (checkpoint_text (value_at o)) value) same (saves_open o (IsOpen-open_after nothing h tt)))

-- A machine that stands after some bytes stands after its checkpoint, too.
pub checkpoint_stands : (h : List ℕ) (m : Machine (List ℕ)) → StandsAfter m h → StandsAfter m (checkpoint_text m)
checkpoint_stands h m stands = StandsAfter-from_value m (checkpoint_text m) (sym (saves_machine h m stands).reaches)

-- The checkpoint has at most 1042 bytes.
pub length-checkpoint : (h : List ℕ) (m : Machine (List ℕ)) → StandsAfter m h → length (checkpoint_text m) ≤ 1042
length-checkpoint h m stands = (saves_machine h m stands).short

-- So a new machine that takes the checkpoint goes on exactly as the given one.
pub checkpoint_calls : (h : List ℕ) (m : Machine (List ℕ)) → StandsAfter m h → (bytes : List ℕ)
    → machine_calls decoded bytes (machine_after decoded (checkpoint_text m) (new_machine [])) ≡ machine_calls decoded bytes m
checkpoint_calls h m stands = same_calls (machine_after decoded (checkpoint_text m) (new_machine [])) m (sym (checkpoint_stands h m stands))
