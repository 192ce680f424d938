-- A text after which a new parser stands as a given one: what counts of its values, in bytes.
use Rattle.std.specs.Prelude.{ℕ, ◌==◌, List, [], ◌∷◌, ◌++◌, decimal, if◌then◌else◌}
use Rattle.std.specs.List.{flat_map}
use Rattle.anstyle_parse.specs.declared.state.definitions.State.{State}
use Rattle.anstyle_parse.specs.declared.state.definitions.State.TheVariants.{Anywhere, CsiEntry, CsiIgnore, CsiIntermediate, CsiParam, DcsEntry, DcsIgnore, DcsIntermediate, DcsParam, DcsPassthrough, Escape, EscapeIntermediate, Ground, OscString, SosPmApcString, Utf8}
use Rattle.anstyle_parse.specs.Stream.Bytes.{colon, semicolon, escape_byte}
use Rattle.anstyle_parse.specs.Stream.Arguments.{max_fields, after_marker}
use Rattle.anstyle_parse.specs.Stream.Groups.{groups_text, shown_groups}
use Rattle.anstyle_parse.specs.Machine.Step.{Machine, field_count}
use Rattle.anstyle_parse.specs.Stream.Canon.{leading_marker, escape_text}

-- the byte, where the parser is ignoring: there it sets `ignoring` again, and does nothing else
abbrev pub ignored_byte : {A : Type 0} → ℕ → Machine A → List ℕ
ignored_byte b m = if m.ignoring then b ∷ [] else []

-- what stored the last field: 3A, where its group is open, or 3B, where it is closed
abbrev pub last_separator : List (List ℕ) → List ℕ → List ℕ
last_separator closed (field ∷ fields) = colon ∷ []
last_separator (group ∷ groups) [] = semicolon ∷ []
last_separator [] [] = []

-- the stored fields, each with the separator that stored it
abbrev pub fields_so_far : {A : Type 0} → Machine A → List ℕ
fields_so_far m = groups_text (shown_groups m.closed_groups m.open_group) ++ last_separator m.closed_groups m.open_group

-- The number and the intermediates. With 32 fields stored the number is 0, and a parameter
-- byte, like 3B, only sets `ignoring`. With fewer, the number has at least one digit, so that
-- the state is not that of an empty header, and a third byte to collect, like 20, only sets
-- `ignoring`.
abbrev pub number_so_far : {A : Type 0} → Machine A → List ℕ
number_so_far m =
    if field_count m == max_fields then ignored_byte semicolon m ++ after_marker m.collected
    else decimal m.number ++ (after_marker m.collected ++ ignored_byte 0x20 m)

-- a header: the marker, if there is one, the fields, the number and the intermediates
abbrev pub header_so_far : {A : Type 0} → Machine A → List ℕ
header_so_far m = leading_marker m.collected ++ (fields_so_far m ++ number_so_far m)

-- the text of an operating system command: 3B closed each part
abbrev pub command_text : List (List ℕ) → List ℕ → List ℕ
command_text closed rest = flat_map (λ part. part ++ semicolon ∷ []) closed ++ rest

abbrev pub text_so_far : {A : Type 0} → Machine A → List ℕ
text_so_far m = command_text m.closed_parts m.open_part

-- by the state
abbrev pub checkpoint_in : State → Machine (List ℕ) → List ℕ
-- nothing is open
checkpoint_in Ground m = []
-- the bytes of the character that is begun
checkpoint_in Utf8 m = m.accumulator
-- ESC, and 20 for a third intermediate
checkpoint_in Escape m = escape_byte ∷ []
checkpoint_in EscapeIntermediate m = escape_byte ∷ escape_text m.collected m.ignoring
-- ESC [, and a marker after a parameter byte has not the shape of a header
checkpoint_in CsiEntry m = escape_byte ∷ 0x5B ∷ []
checkpoint_in CsiParam m = escape_byte ∷ 0x5B ∷ header_so_far m
checkpoint_in CsiIntermediate m = escape_byte ∷ 0x5B ∷ header_so_far m
checkpoint_in CsiIgnore m = escape_byte ∷ 0x5B ∷ 0x30 ∷ 0x3C ∷ []
-- ESC P, likewise; a final hooks the string, of which nothing more counts
checkpoint_in DcsEntry m = escape_byte ∷ 0x50 ∷ []
checkpoint_in DcsParam m = escape_byte ∷ 0x50 ∷ header_so_far m
checkpoint_in DcsIntermediate m = escape_byte ∷ 0x50 ∷ header_so_far m
checkpoint_in DcsIgnore m = escape_byte ∷ 0x50 ∷ 0x30 ∷ 0x3C ∷ []
checkpoint_in DcsPassthrough m = escape_byte ∷ 0x50 ∷ 0x40 ∷ []
-- ESC ]
checkpoint_in OscString m = escape_byte ∷ 0x5D ∷ text_so_far m
-- ESC X begins a string that is ignored, as ESC ^ and ESC _ do
checkpoint_in SosPmApcString m = escape_byte ∷ 0x58 ∷ []
-- no parser is in this state
checkpoint_in Anywhere m = []

-- the bytes that it has at most
abbrev pub max_checkpoint : ℕ
max_checkpoint = 1042

-- What a new parser has to take to stand where the machine stands.
abbrev pub checkpoint_text : Machine (List ℕ) → List ℕ
checkpoint_text m = checkpoint_in m.state m
