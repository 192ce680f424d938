-- What is put into a room, and what a writer of records has written.
use Rattle.std.specs.Prelude.{◌≡◌, ◌<◌, ◌≤◌, ◌+◌, ◌-◌, ◌==◌, ℕ, true, false, not, List, [], ◌∷◌, ◌++◌, length, take, drop, ⊤}
use Rattle.std.specs.Char.{IsScalar}
use Rattle.std.specs.List.{AllByRecursion}
use Rattle.anstyle_parse.specs.Stream.Bytes.{semicolon}
use Rattle.anstyle_parse.specs.Stream.Call.{Call, print, hook, osc_dispatch, csi_dispatch, esc_dispatch}
use Rattle.anstyle_parse.specs.Stream.Groups.{HaveFields}
use Rattle.anstyle_parse.specs.Stream.Items.{EachIs}
use Rattle.event_pieces.specs.declared.event.Event.{Event}
use Rattle.event_pieces.specs.declared.writer.EventWriter.{EventWriter}
use Rattle.event_pieces.specs.Event.{text_kind, max_intermediates, record_with, with_length, is_text, records_of, calls_bytes}

-- the list with items put over it at a place
abbrev pub with_items : {A : Type 0} → ℕ → List A → List A → List A
with_items place items list = take place list ++ items ++ drop (place + length items) list

-- The bytes are put after what is used, where there is room for them.
pub record Puts (bytes : List ℕ) (old new : EventWriter) : Type 0 where
  pub same_events : new.events ≡ old.events
  pub same_written : new.written ≡ old.written
  pub same_reference : new.room.ghost_name ≡ old.room.ghost_name
  pub used : old.used + length bytes ≤ length old.room.now → new.used ≡ old.used + length bytes
  pub room : old.used + length bytes ≤ length old.room.now
      → new.room.now ≡ with_items old.used bytes old.room.now

-- The record is added after those that are written, where there is room for one.
pub record Pushes (event : Event) (old new : EventWriter) : Type 0 where
  pub same_reference : new.events.ghost_name ≡ old.events.ghost_name
  pub same_room : new.room ≡ old.room
  pub same_used : new.used ≡ old.used
  pub few : new.written ≤ old.written + 1
  pub written : old.written < length old.events.now → new.written ≡ old.written + 1
  pub events : old.written < length old.events.now
      → new.events.now ≡ with_items old.written (event ∷ []) old.events.now

-- the record of a text that stands in the room between two places
abbrev pub text_from : (start end : ℕ) → Event
text_from start end = record_with start (end - start) text_kind 0 false []

-- The room from a place on is a text. Where the last record is one too, it goes on until there; else a record is
-- added.
pub record NotesText (start : ℕ) (old new : EventWriter) : Type 0 where
  pub same_reference : new.events.ghost_name ≡ old.events.ghost_name
  pub same_room : new.room ≡ old.room
  pub same_used : new.used ≡ old.used
  pub few : new.written ≤ old.written + 1
  pub first : old.written ≡ 0 → Pushes (text_from start old.used) old new
  pub behind : (events : List Event) (last : Event) (rest : List Event) → old.events.now ≡ events ++ last ∷ rest
      → old.written ≡ length events + 1 → is_text last ≡ false → Pushes (text_from start old.used) old new
  pub longer : (events : List Event) (last : Event) (rest : List Event) → old.events.now ≡ events ++ last ∷ rest
      → old.written ≡ length events + 1 → is_text last ≡ true
      → (new.written ≡ old.written) × (new.events.now ≡ events ++ with_length last (old.used - last.start) ∷ rest)

-- A call whose arguments a record can say, as each is that a parser makes: a character is one, groups have
-- fields, parts are some and have no separator, intermediates are few.
abbrev pub IsPlain : Call → Type 0
IsPlain (print character) = IsScalar character
IsPlain (hook groups intermediates ignore final) = HaveFields groups × (length intermediates ≤ max_intermediates)
IsPlain (csi_dispatch groups intermediates ignore final) =
    HaveFields groups × (length intermediates ≤ max_intermediates)
IsPlain (esc_dispatch intermediates ignore final) = length intermediates ≤ max_intermediates
IsPlain (osc_dispatch parts bell_terminated) =
    (0 < length parts) × AllByRecursion (EachIs (λ b. not (b == semicolon))) parts
IsPlain _ = ⊤

abbrev pub ArePlain : List Call → Type 0
ArePlain calls = AllByRecursion IsPlain calls

-- There is room for the calls.
pub record Suits (calls : List Call) (writer : EventWriter) : Type 0 where
  pub events_fit : writer.written + length calls ≤ length writer.events.now
  pub room_fits : writer.used + length (calls_bytes calls) ≤ length writer.room.now

-- A writer over these records and this room has written those of the calls. After these, both are as they were.
pub record Has (calls : List Call) (events : List Event) (room : List ℕ) (writer : EventWriter) : Type 0 where
  pub written : writer.written ≡ length (records_of 0 calls)
  pub used : writer.used ≡ length (calls_bytes calls)
  pub events_fit : length (records_of 0 calls) ≤ length events
  pub room_fits : length (calls_bytes calls) ≤ length room
  pub records_are : writer.events.now ≡ with_items 0 (records_of 0 calls) events
  pub room_is : writer.room.now ≡ with_items 0 (calls_bytes calls) room

-- What calls do to a writer that has written others: where there is room for them, it has written these too.
pub record Adds (calls : List Call) (old new : EventWriter) : Type 0 where
  pub same_events : new.events.ghost_name ≡ old.events.ghost_name
  pub same_room : new.room.ghost_name ≡ old.room.ghost_name
  pub few : new.written ≤ old.written + length calls
  pub added : Suits calls old → (before : List Call) (events : List Event) (room : List ℕ)
      → Has before events room old → Has (before ++ calls) events room new
