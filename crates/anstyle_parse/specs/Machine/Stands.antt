-- A parser stands after bytes if all that can still affect its calls is as in a new parser
-- that took them.
use Rattle.std.specs.Prelude.{◌≡◌, ◌<◌, ℕ, List, [], ◌∷◌, ◌++◌, Option}
use Rattle.anstyle_parse.specs.declared.state.definitions.State.{State}
use Rattle.anstyle_parse.specs.declared.state.definitions.State.TheVariants.{CsiEntry, CsiIntermediate, CsiParam, DcsEntry, DcsIntermediate, DcsParam, Escape, EscapeIntermediate, OscString}
use Rattle.anstyle_parse.specs.Machine.Decoder.{decoded, character_in}
use Rattle.anstyle_parse.specs.Machine.Step.{Machine, AccumulatorStep, new_machine, with_accumulator, machine_after}
use Rattle.anstyle_parse.specs.Stream.Items.{Item, begun, IsDivision}

-- the state and the accumulator, all else as it begins
abbrev pub bare : {A : Type 0} → Machine A → Machine A
bare m = record (new_machine m.accumulator) { state = m.state }

-- these, and what a sequence's header has said so far
abbrev pub with_header : {A : Type 0} → Machine A → Machine A
with_header m = record (bare m) {
  collected = m.collected;
  ignoring = m.ignoring;
  closed_groups = m.closed_groups;
  open_group = m.open_group;
  number = m.number;
}

-- these, and the text of an operating system command so far
abbrev pub with_text : {A : Type 0} → Machine A → Machine A
with_text m = record (bare m) { closed_parts = m.closed_parts; open_part = m.open_part }

-- What counts of a machine's values in a state; all else is left over from before.
abbrev pub counted_in : {A : Type 0} → State → Machine A → Machine A
counted_in Escape m = with_header m
counted_in EscapeIntermediate m = with_header m
counted_in CsiEntry m = with_header m
counted_in CsiParam m = with_header m
counted_in CsiIntermediate m = with_header m
counted_in DcsEntry m = with_header m
counted_in DcsParam m = with_header m
counted_in DcsIntermediate m = with_header m
counted_in OscString m = with_text m
counted_in _ m = bare m

abbrev pub counted : {A : Type 0} → Machine A → Machine A
counted m = counted_in m.state m

-- The machine stands after the bytes, its accumulator seen as the front that it holds.
abbrev pub StandsAfter : Machine (List ℕ) → List ℕ → Type 0
StandsAfter m bytes = counted m ≡ counted (machine_after decoded bytes (new_machine []))

-- a machine with its accumulator so seen
abbrev pub seen : {A : Type 0} → (A → List ℕ) → Machine A → Machine (List ℕ)
seen front m = with_accumulator (front m.accumulator) m

-- a machine that leaves its accumulator aside, where no byte reaches it
abbrev pub unseen : {A : Type 0} → Machine A → Machine (List ℕ)
unseen m = with_accumulator [] m

-- The accumulator is the decoder of UTF-8: it takes every byte, and its steps go over the
-- fronts that it holds, and answer, as the decoder's do; those of `add` answer its characters.
pub record Decodes (A : Type 0) (front : A → List ℕ) (takes : A → ℕ → Type 0)
    (adds : A → ℕ → A × Option ℕ) (taken : AccumulatorStep A) : Type 0 where
  pub takes_bytes : (value : A) (b : ℕ) → b < 256 → takes value b
  pub steps : (value : A) (b : ℕ) → b < 256 → decoded (front value) b ≡ (front (taken value b).0, (taken value b).1)
  pub characters : (value : A) (b : ℕ) → b < 256
      → (front (adds value b).0 ≡ (decoded (front value) b).0)
      × ((adds value b).1 ≡ character_in (decoded (front value) b).1)

-- the list ends inside a character: its last item is one that is begun
abbrev pub EndsInCharacter : List ℕ → Type 0
EndsInCharacter bytes = (items : List Item) × (front : List ℕ) × IsDivision (items ++ begun front ∷ []) bytes
