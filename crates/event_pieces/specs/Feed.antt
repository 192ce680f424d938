-- What one call does with a piece of a stream.
use Rattle.std.specs.Prelude.{◌≡◌, ◌<◌, ◌≤◌, ◌+◌, ◌*◌, ℕ, List, [], ◌++◌, length, take, drop}
use Rattle.anstyle_parse.specs.declared.accumulator.Utf8Parser.{Utf8Parser}
use Rattle.anstyle_parse.specs.declared.parser.Parser.{Parser}
use Rattle.anstyle_parse.specs.Views.Accumulator.{front_of}
use Rattle.anstyle_parse.specs.Stream.Call.{Call}
use Rattle.anstyle_parse.specs.Stream.Calls.{Continues}
use Rattle.anstyle_parse.specs.Views.Parser.{IsAfter}
use Rattle.anstyle_parse.specs.Laws.Checkpoint.{max_checkpoint}
use Rattle.stream_state.specs.declared.state.StreamState.{StreamState}
use Rattle.stream_state.specs.State.{StandsFor}
use Rattle.event_pieces.specs.declared.event.Event.{Event}
use Rattle.event_pieces.specs.declared.feeding.Fed.{Fed}
use Rattle.event_pieces.specs.declared.writer.EventWriter.{EventWriter}
use Rattle.event_pieces.specs.Event.{AreRecords}
use Rattle.event_pieces.specs.Writer.{ArePlain, Has}

-- The records at most that so many bytes of a stream lead to: two for each, as where 18 ends a command.
abbrev pub most_events : ℕ → ℕ
most_events count = 2 * count

-- The bytes of room at most: six for each, and for each that is pending, of which there are 1,042 at most.
-- A field of two bytes, as `;0`, has three in the room, and U+FFFD has three for a byte.
abbrev pub most_room : ℕ → ℕ
most_room count = 6 * (max_checkpoint + count)

-- what one byte may lead to
abbrev pub least_events : ℕ
least_events = most_events 1

abbrev pub least_room : ℕ
least_room = most_room 1

-- The records and the room are those of the calls by which the bytes continue those before.
abbrev pub AreEventsOf : (before bytes room : List ℕ) (events : List Event) → Type 0
AreEventsOf before bytes room events = (calls : List Call) × Continues before bytes calls × AreRecords room events calls

-- Bytes were taken from the front of the piece, and their calls are written to the front of the records and
-- of the room.
pub record Feeds (old new : StreamState) (piece : List ℕ) (events events_after : List Event) (room room_after : List ℕ)
    (fed : Fed) : Type 0 where
  -- the records and the room suffice for one byte, if there is one
  pub enough_events : 0 < length piece → least_events ≤ length events
  pub enough_room : 0 < length piece → least_room ≤ length room
  pub taken_fits : fed.taken ≤ length piece
  pub written_fits : fed.written ≤ length events
  pub used_fits : fed.used ≤ length room
  -- whatever bytes the state stood for, it stands for these too,
  pub stands : (before : List ℕ) → StandsFor old before → StandsFor new (before ++ take fed.taken piece)
  -- and what is written are the records of their calls, all of them, and their bytes, which say these calls
  pub said : (before : List ℕ) → StandsFor old before
      → AreEventsOf before (take fed.taken piece) (take fed.used room_after) (take fed.written events_after)
  -- after that the records and the room are as they were
  pub untouched_events : drop fed.written events_after ≡ drop fed.written events
  pub untouched_room : drop fed.used room_after ≡ drop fed.used room
  -- of some bytes at least one was taken, and bytes are left only where fewer records or less room are left
  -- than one of them may need
  pub some_taken : 0 < length piece → 0 < fed.taken
  pub all_taken : fed.written + least_events ≤ length events → fed.used + least_room ≤ length room
      → fed.taken ≡ length piece
  -- all are taken where there is room for what they may lead to
  pub taken_at_once : most_events (length piece) ≤ length events → most_room (length piece) ≤ length room
      → fed.taken ≡ length piece
  -- no bytes lead to more than that, and none to none
  pub bounded_events : fed.written ≤ most_events fed.taken
  pub none_written : fed.taken ≡ 0 → fed.written ≡ 0
  pub none_used : fed.taken ≡ 0 → fed.used ≡ 0

-- there are fewer records, or less room, than one byte may need
pub record Refuses (old new : StreamState) (piece : List ℕ) (events events_after : List Event)
    (room room_after : List ℕ)
    : Type 0 where
  pub some_bytes : 0 < length piece
  pub little : least_events ≤ length events → length room < least_room
  pub same_state : new ≡ old
  pub same_events : events_after ≡ events
  pub same_room : room_after ≡ room

-- The parser took bytes from the front of the piece, and their calls were added.
pub record IsTaken (old new : Parser Utf8Parser) (piece : List ℕ) (writer writer_after : EventWriter) (taken : ℕ)
    : Type 0 where
  pub calls : List Call
  pub taken_fits : taken ≤ length piece
  pub stands : (before : List ℕ) → IsAfter front_of old before → IsAfter front_of new (before ++ take taken piece)
  pub continues : (before : List ℕ) → IsAfter front_of old before → Continues before (take taken piece) calls
  pub same_events : writer_after.events.ghost_name ≡ writer.events.ghost_name
  pub same_room : writer_after.room.ghost_name ≡ writer.room.ghost_name
  pub added : (before : List Call) (events : List Event) (room : List ℕ)
      → Has before events room writer → Has (before ++ calls) events room writer_after
  pub plain : ArePlain calls
  pub few : writer_after.written ≤ writer.written + length calls
  pub bounded : length calls ≤ most_events taken
  pub nothing : taken ≡ 0 → calls ≡ []
