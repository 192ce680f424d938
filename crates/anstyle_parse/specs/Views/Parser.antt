-- The parser's fields, as the machine that they stand for.
use Rattle.std.specs.Prelude.{◌≡◌, ◌≢◌, ◌<◌, ◌⊎◌, ℕ, List, ⊤, IsTrue}
use Rattle.std.specs.List.{AllByRecursion}
use Rattle.anstyle_parse.specs.declared.state.definitions.State.{State}
use Rattle.anstyle_parse.specs.declared.state.definitions.State.TheVariants.{CsiEntry, CsiParam, DcsIgnore, DcsPassthrough, Ground, OscString, SosPmApcString, Utf8}
use Rattle.anstyle_parse.specs.declared.parser.Parser.{Parser}
use Rattle.anstyle_parse.specs.Stream.Characters.{is_lead}
use Rattle.anstyle_parse.specs.Stream.Call.{Call}
use Rattle.anstyle_parse.specs.Views.Header.{heading_of}
use Rattle.anstyle_parse.specs.Views.Command.{texting_of}
use Rattle.anstyle_parse.specs.Machine.Step.{Machine, AccumulatorStep, IsBroken, new_machine, machine_calls}
use Rattle.anstyle_parse.specs.Machine.Stands.{StandsAfter, seen, unseen}

abbrev pub machine_of : {C : Type 0} → Parser C → Machine C
machine_of parser = record {
  state = parser.state;
  collected = (heading_of parser.header).collected;
  ignoring = (heading_of parser.header).ignoring;
  closed_groups = (heading_of parser.header).closed_groups;
  open_group = (heading_of parser.header).open_group;
  number = (heading_of parser.header).number;
  closed_parts = (texting_of parser.command).closed_parts;
  open_part = (texting_of parser.command).open_part;
  accumulator = parser.accumulator;
}

-- the calls that a parser makes of bytes
abbrev pub calls_made : {C : Type 0} → AccumulatorStep C → Parser C → List ℕ → List Call
calls_made taken parser bytes = machine_calls taken bytes (machine_of parser)

-- the accumulator that the parser has
abbrev pub accumulator_of : {C : Type 0} → Parser C → C
accumulator_of parser = parser.accumulator

-- the parser with another accumulator, and all else as it is, what is left over too
abbrev pub given : {C : Type 0} → Parser C → C → Parser C
given parser accumulator = record parser { accumulator = accumulator }

-- the byte goes to the accumulator
abbrev pub ReachesAccumulator : State → ℕ → Type 0
ReachesAccumulator Utf8 b = ⊤
ReachesAccumulator Ground b = IsTrue (is_lead b)
ReachesAccumulator _ b = ⊥

-- the parser is as it begins, with an accumulator of which this holds
abbrev pub IsNew : {C : Type 0} → (C → Type 0) → Parser C → Type 0
IsNew {C} is_default parser = (machine_of parser ≡ new_machine parser.accumulator) × is_default parser.accumulator

-- the parser is inside a character of several bytes
abbrev pub IsInCharacter : {C : Type 0} → Parser C → Type 0
IsInCharacter parser = parser.state ≡ Utf8

-- an operating system command or a hooked device control string is open
abbrev pub HasOpenString : {C : Type 0} → Parser C → Type 0
HasOpenString parser = (parser.state ≡ OscString) ⊎ (parser.state ≡ DcsPassthrough)

-- a string is open, also one that is ignored: OSC, a device control string after its header, or SOS, PM or APC
abbrev pub IsInString : {C : Type 0} → Parser C → Type 0
IsInString parser = HasOpenString parser ⊎ ((parser.state ≡ DcsIgnore) ⊎ (parser.state ≡ SosPmApcString))

-- in the header of a control sequence, where fields may come
abbrev pub IsAtFields : {C : Type 0} → Parser C → Type 0
IsAtFields parser = (parser.state ≡ CsiEntry) ⊎ (parser.state ≡ CsiParam)

-- nothing is open, or a character alone
abbrev pub IsOutOfSequences : {C : Type 0} → Parser C → Type 0
IsOutOfSequences parser = (parser.state ≡ Ground) ⊎ (parser.state ≡ Utf8)

-- each byte is below the limit
abbrev pub AreBelow : ℕ → List ℕ → Type 0
AreBelow limit bytes = AllByRecursion (λ b. b < limit) bytes

-- the byte breaks the character that the parser is inside
abbrev pub BreaksCharacter : {C : Type 0} → AccumulatorStep C → Parser C → ℕ → Type 0
BreaksCharacter taken parser b = (parser.state ≡ Utf8) × IsBroken (taken parser.accumulator b).1

-- This holds of each value of the accumulator at which the byte reaches it: as it stands, and
-- once more after the byte has broken a character, where it may begin another.
abbrev pub HoldsWhereReached : {A : Type 0} → (A → Type 0) → AccumulatorStep A → State → A → ℕ → Type 0
HoldsWhereReached holds taken state value b =
    (ReachesAccumulator state b → holds value)
    × (state ≡ Utf8 → IsBroken (taken value b).1 → ReachesAccumulator Ground b → holds (taken value b).0)

-- The accumulator takes the byte, each time that the byte reaches it.
abbrev pub CanTake : {C : Type 0} → (C → ℕ → Type 0) → AccumulatorStep C → Parser C → ℕ → Type 0
CanTake takes taken parser b = HoldsWhereReached (λ value. takes value b) taken parser.state parser.accumulator b

-- The accumulator takes every byte whatever it holds, or none of the bytes reaches it:
-- the parser is outside a character, and all of them are ASCII.
abbrev pub CanTakeAll : {C : Type 0} → (C → ℕ → Type 0) → Parser C → List ℕ → Type 0
CanTakeAll {C} takes parser bytes =
    ((value : C) (b : ℕ) → b < 0x100 → takes value b) ⊎ ((parser.state ≢ Utf8) × AreBelow 0x80 bytes)

-- The parser, whose accumulator holds a front, stands after the bytes.
abbrev pub IsAfter : {C : Type 0} → (C → List ℕ) → Parser C → List ℕ → Type 0
IsAfter front parser bytes = StandsAfter (seen front (machine_of parser)) bytes

-- The parser stands after the bytes, all of which are ASCII, whatever its accumulator is.
abbrev pub IsAfterAscii : {C : Type 0} → Parser C → List ℕ → Type 0
IsAfterAscii parser bytes = AreBelow 0x80 bytes × StandsAfter (unseen (machine_of parser)) bytes
