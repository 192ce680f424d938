-- The table by the classes of bytes: for each state and class one answer.
use Rattle.std.proofs.Common.{◌≡◌, ℕ, ◌<◌, ◌≤◌, Bool, true, false, List, [], ◌∷◌, map, get_or, refl, sym, ap, ◌∙◌, ⊎_elim, arith, zero-add}
use Rattle.std.specs.Prelude.{nat_lt, nat_le}
use Rattle.std.specs.List.{list_any, list_all, range_with_len}
use Rattle.std.proofs.lemmas.Bool.{cases_lt, le-ltb, lt-leb, and_parts, and_right, or_from, ltb-true}
use Rattle.std.proofs.lemmas.List.FromFn.{get_or-map-range_with_len}
use Rattle.anstyle_parse.specs.declared.state.definitions.State.{State}
use Rattle.anstyle_parse.specs.declared.state.definitions.State.TheVariants.{Anywhere, CsiEntry, CsiIgnore, CsiIntermediate, CsiParam, DcsEntry, DcsIgnore, DcsIntermediate, DcsParam, DcsPassthrough, Escape, EscapeIntermediate, Ground, OscString, SosPmApcString, Utf8}
use Rattle.anstyle_parse.specs.declared.state.definitions.Action.{Action}
use Rattle.anstyle_parse.specs.declared.state.definitions.Action.TheVariants.{Nop, Collect, CsiDispatch, EscDispatch, Execute, Ignore, OscPut, Param, Print, Put, BeginUtf8}
use Rattle.anstyle_parse.specs.Stream.Bytes.{is_within, Span}
use Rattle.anstyle_parse.specs.Machine.Table.{Change, Entry, ◌by◌, row, looked_up, change_at}
use Rattle.anstyle_parse.proofs.Bytes.Classes.{Class, control_byte, bell_byte, cancel_byte, esc_byte, intermediate_byte, digit_byte, colon_byte, semicolon_byte, marker_byte, device_byte, string_byte, control_introducer, command_byte, final_byte, delete_byte, high_control, terminator_byte, silent_byte, lead_byte, above_byte, beyond_byte, class_below, class_of}

-- what a state keeps to at a byte that it has no line for
abbrev pub kept : Change
kept = Anywhere by Nop

-- the answers that the sequences have in common: their controls, 7F, and what ends them
abbrev pub row_within : Action → Class → Change
row_within control control_byte = Anywhere by control
row_within control bell_byte = Anywhere by control
row_within control cancel_byte = Ground by Execute
row_within control esc_byte = Escape by Nop
row_within control delete_byte = Anywhere by Ignore
row_within control class = kept

-- outside all sequences
abbrev pub row_ground : Class → Change
row_ground control_byte = Anywhere by Execute
row_ground bell_byte = Anywhere by Execute
row_ground cancel_byte = Ground by Execute
row_ground esc_byte = Escape by Nop
row_ground high_control = Anywhere by Execute
row_ground terminator_byte = Anywhere by Execute
row_ground silent_byte = kept
row_ground lead_byte = Utf8 by BeginUtf8
row_ground above_byte = kept
row_ground beyond_byte = kept
row_ground class = Anywhere by Print

-- directly after ESC
abbrev pub row_escape : Class → Change
row_escape intermediate_byte = EscapeIntermediate by Collect
row_escape digit_byte = Ground by EscDispatch
row_escape colon_byte = Ground by EscDispatch
row_escape semicolon_byte = Ground by EscDispatch
row_escape marker_byte = Ground by EscDispatch
row_escape final_byte = Ground by EscDispatch
row_escape device_byte = DcsEntry by Nop
row_escape string_byte = SosPmApcString by Nop
row_escape control_introducer = CsiEntry by Nop
row_escape command_byte = OscString by Nop
row_escape class = row_within Execute class

-- a state by its answers to intermediates, parameter bytes, markers and finals
abbrev pub row_header : Action → Change → Change → Change → Change → Class → Change
row_header control intermediate parameter marker final intermediate_byte = intermediate
row_header control intermediate parameter marker final digit_byte = parameter
row_header control intermediate parameter marker final colon_byte = parameter
row_header control intermediate parameter marker final semicolon_byte = parameter
row_header control intermediate parameter marker final marker_byte = marker
row_header control intermediate parameter marker final device_byte = final
row_header control intermediate parameter marker final string_byte = final
row_header control intermediate parameter marker final control_introducer = final
row_header control intermediate parameter marker final command_byte = final
row_header control intermediate parameter marker final final_byte = final
row_header control intermediate parameter marker final class = row_within control class

-- a string by its answers to 20..7E and to 9C
abbrev pub row_string : Action → Action → Class → Change
row_string control text terminator_byte = Ground by Nop
row_string control text class = row_header control (Anywhere by text) (Anywhere by text) (Anywhere by text) (Anywhere by text) class

-- an operating system command
abbrev pub row_command : Class → Change
row_command control_byte = Anywhere by Ignore
row_command bell_byte = Ground by Nop
row_command cancel_byte = Ground by Execute
row_command esc_byte = Escape by Nop
row_command beyond_byte = kept
row_command class = Anywhere by OscPut

-- where only 18, 1A and 1B have a line
abbrev pub row_none : Class → Change
row_none cancel_byte = Ground by Execute
row_none esc_byte = Escape by Nop
row_none class = kept

-- the answer of a state to a class
abbrev pub change_of : State → Class → Change
change_of Anywhere class = row_none class
change_of Ground class = row_ground class
change_of Escape class = row_escape class
change_of EscapeIntermediate class =
    row_header Execute (Anywhere by Collect) (Ground by EscDispatch) (Ground by EscDispatch) (Ground by EscDispatch) class
change_of CsiEntry class =
    row_header Execute (CsiIntermediate by Collect) (CsiParam by Param) (CsiParam by Collect) (Ground by CsiDispatch) class
change_of CsiParam class =
    row_header Execute (CsiIntermediate by Collect) (Anywhere by Param) (CsiIgnore by Nop) (Ground by CsiDispatch) class
change_of CsiIntermediate class =
    row_header Execute (Anywhere by Collect) (CsiIgnore by Nop) (CsiIgnore by Nop) (Ground by CsiDispatch) class
change_of CsiIgnore class =
    row_header Execute (Anywhere by Ignore) (Anywhere by Ignore) (Anywhere by Ignore) (Ground by Nop) class
change_of DcsEntry class =
    row_header Ignore (DcsIntermediate by Collect) (DcsParam by Param) (DcsParam by Collect) (DcsPassthrough by Nop) class
change_of DcsParam class =
    row_header Ignore (DcsIntermediate by Collect) (Anywhere by Param) (DcsIgnore by Nop) (DcsPassthrough by Nop) class
change_of DcsIntermediate class =
    row_header Ignore (Anywhere by Collect) (DcsIgnore by Nop) (DcsIgnore by Nop) (DcsPassthrough by Nop) class
change_of DcsIgnore class = row_string Ignore Ignore class
change_of DcsPassthrough class = row_string Put Put class
change_of SosPmApcString class = row_string Ignore Ignore class
change_of OscString class = row_command class
change_of Utf8 class = row_none class

-- two functions with the same values below n agree there; at a written-out n it computes
pub same_below : {A : Type 0} → (f g : ℕ → A) (n b : ℕ) → map f (range_with_len 0 n) ≡ map g (range_with_len 0 n) → b < n → f b ≡ g b
same_below f g n b same below =
    (sym (get_or-map-range_with_len f 0 n b b (f b) below (zero-add b)) ∙ ap (λ values. get_or values b (f b)) same)
    ∙ get_or-map-range_with_len g 0 n b b (f b) below (zero-add b)

-- all spans of the lines end below 100
abbrev ends_below : List Entry → Bool
ends_below entries = list_all (λ entry. list_all (λ span. nat_lt span.last 0x100) entry.bytes) entries

-- the spans of one line, which a byte from 100 on is not in
list_any-beyond : (spans : List Span) (b : ℕ) → list_all (λ span. nat_lt span.last 0x100) spans ≡ true → 0x100 ≤ b
    → list_any (λ span. is_within span.first span.last b) spans ≡ false
unfolding is_within
list_any-beyond [] b low high = refl
list_any-beyond (span ∷ spans) b low high =
    let parts = and_parts (nat_lt span.last 0x100) (list_all (λ (s : Span). nat_lt s.last 0x100) spans) low in
    let last_low : span.last < 0x100 = ltb-true span.last 0x100 parts.0 in
    or_from _ _ (and_right (nat_le span.first b) (nat_le b span.last) (lt-leb b span.last (omega arith))) (list_any-beyond spans b parts.1 high)

-- no line is for a byte from 100 on
looked_up-beyond : (entries : List Entry) (b : ℕ) (other : Change) → ends_below entries ≡ true → 0x100 ≤ b → looked_up entries b other ≡ other
looked_up-beyond [] b other low high = refl
looked_up-beyond (entry ∷ entries) b other low high =
    let parts = and_parts (list_all (λ (s : Span). nat_lt s.last 0x100) entry.bytes) (ends_below entries) low in
    rw (list_any-beyond entry.bytes b parts.0 high) (looked_up-beyond entries b other parts.1 high)

-- from 100 on each state is kept
change_at-beyond : (state : State) (b : ℕ) → ends_below (row state) ≡ true → 0x100 ≤ b → change_at state b ≡ kept
unfolding change_at
change_at-beyond state b low high =
    looked_up-beyond (row Anywhere) b (looked_up (row state) b kept) refl high ∙ looked_up-beyond (row state) b kept low high

-- the class of what is no byte
class_of-beyond : (b : ℕ) → 0x100 ≤ b → class_of b ≡ beyond_byte
unfolding class_of
class_of-beyond b high = rw (le-ltb b 0x100 high)

-- the answer at each byte below 100, in a list
answers-same : (state : State) → map (change_at state) (range_with_len 0 0x100) ≡ map (λ b. change_of state (class_of b)) (range_with_len 0 0x100)
unfolding change_at class_of class_below is_within
answers-same Anywhere = refl
answers-same state = refl

-- the lines of each state end below 100
all_end_below : (state : State) → ends_below (row state) ≡ true
all_end_below Anywhere = refl
all_end_below state = refl

-- at what is no byte each state is kept
change_of-beyond : (state : State) → change_of state beyond_byte ≡ kept
change_of-beyond Anywhere = refl
change_of-beyond state = refl

-- the table answers by the class of the byte
pub change_at-class : (state : State) (b : ℕ) → change_at state b ≡ change_of state (class_of b)
change_at-class state b =
    ⊎_elim (λ below. same_below (change_at state) (λ c. change_of state (class_of c)) 0x100 b (answers-same state) below)
    (λ high. change_at-beyond state b (all_end_below state) high ∙ sym (ap (change_of state) (class_of-beyond b high) ∙ change_of-beyond state))
    (cases_lt b 0x100)
