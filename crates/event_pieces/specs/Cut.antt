-- Which commands may have been cut.
use Rattle.std.specs.Prelude.{◌≡◌, ◌≢◌, ◌==◌, ◌<◌, ◌≤◌, ◌⊎◌, ℕ, Bool, true, false, List, length, filter}
use Rattle.std.specs.List.{slice_split, concat}
use Rattle.anstyle_parse.specs.Laws.Lawful.{AreParts}
use Rattle.anstyle_parse.specs.Stream.Bytes.{semicolon}
use Rattle.anstyle_parse.specs.Stream.Arguments.{is_kept, parts_of, max_osc_parts, max_osc_bytes}
use Rattle.event_pieces.specs.declared.event.Event.{Event}
use Rattle.event_pieces.specs.Event.{osc_kind, parts_in, bytes_in}

-- all parts of a command's text, however many and long they are
abbrev pub all_parts : List ℕ → List (List ℕ)
all_parts text = slice_split (λ b. b == semicolon) (filter is_kept text)

-- the parts that a command's record shows
abbrev pub shown_parts : (room : List ℕ) → Event → List (List ℕ)
shown_parts room event = parts_in (bytes_in room event)

-- a text that has more shows these parts too
abbrev pub MayBeCut : List (List ℕ) → Type 0
MayBeCut parts = (text : List ℕ) × (parts_of text ≡ parts) × (all_parts text ≢ parts)

-- Whether a command may have been cut, by its record alone.
pub record TellsCut (room : List ℕ) (event : Event) (answer : Bool) : Type 0 where
  -- where not, each text that shows these parts has no others,
  pub whole : answer ≡ false → event.kind ≡ osc_kind → (text : List ℕ) → parts_of text ≡ shown_parts room event
      → all_parts text ≡ shown_parts room event
  -- and where so, one has, if a parser can make the parts at all
  pub may : answer ≡ true → AreParts (shown_parts room event) → MayBeCut (shown_parts room event)
  -- of no other kind
  pub command : answer ≡ true → event.kind ≡ osc_kind

-- whether the text of a command, with what parts it, has sixteen parts or more, or as many bytes as are held, or more
pub record HasMost (answer : Bool) (text : List ℕ) : Type 0 where
  pub many : answer ≡ true → (max_osc_parts ≤ length (parts_in text)) ⊎ (max_osc_bytes ≤ length (concat (parts_in text)))
  pub few : answer ≡ false → (length (parts_in text) < max_osc_parts) × (length (concat (parts_in text)) < max_osc_bytes)
