-- What one call does with a text whose lines are to end with a line feed alone.
use Rattle.std.specs.Prelude.{◌≡◌, ◌<◌, ◌≤◌, ◌+◌, ◌==◌, ℕ, List, [], ◌∷◌, ◌++◌, length, take, drop, if◌then◌else◌}
use Rattle.ansi_strip.specs.LineFeeds.{waiting, decided}
use Rattle.strip_pieces.specs.declared.lines.LineState.{LineState}

-- the carriage return that waits, if one does
abbrev pub held_in : LineState → List ℕ
held_in state = if state.waits == 1 then 0x0D ∷ [] else []

-- The state stands for the text before: what waits of it is held.
abbrev pub StandsForText : LineState → (before : List ℕ) → Type 0
StandsForText state before = held_in state ≡ waiting before

-- The lines are what is left of all text, beyond what was left of that before.
abbrev pub AreLinesOf : (before text lines : List ℕ) → Type 0
AreLinesOf before text lines = decided (before ++ text) ≡ decided before ++ lines

-- They are the rest of it, where the text ends: the carriage return that waits.
abbrev pub AreEndOf : (text lines : List ℕ) → Type 0
AreEndOf text lines = lines ≡ waiting text

-- the room in which a text is taken in one call: its own bytes, and a carriage return that waited
abbrev pub room_of_lines : ℕ → ℕ
room_of_lines count = count + 1

-- Bytes were taken from the front of the text, and what is left of them stands at the front of the room.
pub record Feeds (old new : LineState) (text room room_after : List ℕ) (taken written : ℕ) : Type 0 where
  -- the room suffices for one byte, if there is one
  pub enough_room : 0 < length text → room_of_lines 1 ≤ length room
  pub taken_fits : taken ≤ length text
  pub written_fits : written ≤ length room
  -- whatever text the state stood for, it stands for these bytes too,
  pub stands : (before : List ℕ) → StandsForText old before → StandsForText new (before ++ take taken text)
  -- and what is written is what is then left, all of it
  pub lines : (before : List ℕ) → StandsForText old before
      → AreLinesOf before (take taken text) (take written room_after)
  -- past it the room is as it was
  pub untouched : drop written room_after ≡ drop written room
  -- of some bytes at least one was taken, and all where there is room for them
  pub some_taken : 0 < length text → 0 < taken
  pub taken_at_once : room_of_lines (length text) ≤ length room → taken ≡ length text
  -- no bytes lead to more text than that
  pub bounded : written ≤ room_of_lines taken

-- Nothing was done: there are bytes, and less room than one of them may need.
pub record Refuses (old new : LineState) (text room room_after : List ℕ) : Type 0 where
  pub some_bytes : 0 < length text
  pub little_room : length room < room_of_lines 1
  pub same_state : new ≡ old
  pub same_room : room_after ≡ room

-- The text has ended: what waited stands at the front of the room, and the state begins a text.
pub record Ends (old new : LineState) (room room_after : List ℕ) (written : ℕ) : Type 0 where
  pub enough_room : room_of_lines 0 ≤ length room
  pub written_fits : written ≤ room_of_lines 0
  -- whatever text the state stood for, it is the rest of it
  pub lines : (before : List ℕ) → StandsForText old before → AreEndOf before (take written room_after)
  pub untouched : drop written room_after ≡ drop written room
  pub begins : StandsForText new []

-- Nothing was done: there is less room than an end may need.
pub record RefusesEnd (old new : LineState) (room room_after : List ℕ) : Type 0 where
  pub little_room : length room < room_of_lines 0
  pub same_state : new ≡ old
  pub same_room : room_after ≡ room
