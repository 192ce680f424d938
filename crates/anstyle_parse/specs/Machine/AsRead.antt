-- A log as a reader reads it: as UTF-8, in which no byte from 80 on is a control. (xterm, VTE and tmux read UTF-8 so.)
--
-- - a byte 80..FF that belongs to no character is U+FFFD, as The Unicode Standard (3.9, "U+FFFD substitution") advises;
-- - a byte 9C ends no string, but is text of it: a check mark is E2 9C 93;
-- - BEL ends a string APC, PM or SOS, as it ends an operating system command: so do loggers that write such strings, as
--   Buildkite's agent its stamps (ESC _ bk;t=.. BEL).
--
-- It is a text of bytes: U+FFFD stands there as its three bytes, such a BEL as ESC \, and such a 9C as another byte of
-- text. All other bytes are as they were.
use Rattle.std.specs.Prelude.{ℕ, Bool, true, false, ◌||◌, ◌&&◌, ◌==◌, List, [], ◌∷◌, ◌++◌, if◌then◌else◌}
use Rattle.anstyle_parse.specs.declared.utf8.Taken.{Taken}
use Rattle.anstyle_parse.specs.declared.utf8.Taken.TheVariants.{Broken}
use Rattle.anstyle_parse.specs.declared.state.definitions.State.{State}
use Rattle.anstyle_parse.specs.declared.state.definitions.State.TheVariants.{DcsIgnore, DcsPassthrough, Ground, SosPmApcString, Utf8}
use Rattle.anstyle_parse.specs.Stream.Bytes.{is_within, bell, string_terminator, escape_byte}
use Rattle.anstyle_parse.specs.Machine.Decoder.{decoded}
use Rattle.anstyle_parse.specs.Machine.Step.{Machine, AccumulatorStep, new_machine, machine_after}

-- a byte from 80 on with which no character begins
unfoldable pub is_stray : ℕ → Bool
is_stray b = is_within 0x80 0xC1 b || is_within 0xF5 0xFF b

-- U+FFFD in UTF-8
abbrev pub replacement_text : List ℕ
replacement_text = 0xEF ∷ 0xBF ∷ 0xBD ∷ []

-- the answer of an accumulator to a byte that breaks a character
abbrev pub is_break : Taken → Bool
is_break (Broken c) = true
is_break answer = false

-- Whether a byte is handled in the ground state: it comes there, or it breaks the character that was begun.
abbrev pub is_at_ground : {A : Type 0} → AccumulatorStep A → State → A → ℕ → Bool
is_at_ground taken Ground value b = true
is_at_ground taken Utf8 value b = is_break (taken value b).1
is_at_ground taken state value b = false

-- whether a byte is the text of a string APC, PM or SOS, or ends it
abbrev pub is_in_ignored_string : State → Bool
is_in_ignored_string SosPmApcString = true
is_in_ignored_string state = false

-- whether a byte is the text of a string that the byte 9C would end
abbrev pub is_in_terminated_string : State → Bool
is_in_terminated_string DcsIgnore = true
is_in_terminated_string DcsPassthrough = true
is_in_terminated_string SosPmApcString = true
is_in_terminated_string state = false

-- ST in 7 bits (ECMA-48, 8.3.143): ESC \
abbrev pub string_end : List ℕ
string_end = escape_byte ∷ 0x5C ∷ []

-- What is read for 9C in a string: 9D, since there all bytes from 80 on but 9C are alike, and since a character of
-- which 9C is a byte stays one.
unfoldable pub heard : ℕ → ℕ
heard b = if b == string_terminator then 0x9D else b

-- what is read for a byte, by where the parser stands before it
abbrev pub read_for : {A : Type 0} → AccumulatorStep A → State → A → ℕ → List ℕ
read_for taken state value b =
    if is_at_ground taken state value b && is_stray b then replacement_text
    else if is_in_ignored_string state && b == bell then string_end
    else if is_in_terminated_string state then heard b ∷ []
    else b ∷ []

-- what is read for bytes, from a machine on
abbrev pub read_from : {A : Type 0} → AccumulatorStep A → Machine A → List ℕ → List ℕ
read_from taken m [] = []
read_from taken m (b ∷ bytes) =
    let read = read_for taken m.state m.accumulator b in
    read ++ read_from taken (machine_after taken read m) bytes

-- A log as it is read.
unfoldable pub as_read : List ℕ → List ℕ
as_read bytes = read_from decoded (new_machine []) bytes

-- FF where a character is begun: it breaks any, and begins none
abbrev pub break_in : State → List ℕ
break_in Utf8 = 0xFF ∷ []
break_in state = []

-- The same where no more comes: a character that is begun is broken off, and so is U+FFFD.
unfoldable pub as_read_whole : List ℕ → List ℕ
as_read_whole bytes = as_read bytes ++ break_in (machine_after decoded (as_read bytes) (new_machine [])).state
