-- What one call does with a piece of a stream.
use Rattle.std.specs.Prelude.{◌≡◌, ◌<◌, ◌≤◌, ◌+◌, ◌*◌, ℕ, List, [], ◌++◌, length, take, drop, IsUtf8}
use Rattle.anstyle_parse.specs.declared.accumulator.Utf8Parser.{Utf8Parser}
use Rattle.anstyle_parse.specs.declared.parser.Parser.{Parser}
use Rattle.anstyle_parse.specs.Views.Accumulator.{front_of}
use Rattle.anstyle_parse.specs.Stream.Call.{Call}
use Rattle.anstyle_parse.specs.Machine.AsRead.{as_read}
use Rattle.anstyle_parse.specs.Views.Parser.{IsAfter}
use Rattle.ansi_strip.specs.Inert.{inert_text, IsInertText}
use Rattle.strip_pieces.specs.declared.slice_writer.SliceWriter.{SliceWriter}
use Rattle.stream_state.specs.declared.state.StreamState.{StreamState}
use Rattle.strip_pieces.specs.SliceWriter.{Puts}
use Rattle.stream_state.specs.Log.{StandsForLog, ContinuesLog, EndsLog}

-- The bytes of text at most that so many bytes of a stream lead to: three for each, as U+FFFD
-- has, and three more where the first of them breaks a character that was begun before.
abbrev pub most_text : ℕ → ℕ
most_text count = 3 * count + 3

-- what one byte may lead to
abbrev pub least_room : ℕ
least_room = most_text 1

-- what the end of a stream may lead to: U+FFFD
abbrev pub end_room : ℕ
end_room = 3

-- The text is the inert text of the calls by which the bytes continue those before.
abbrev pub IsTextOf : (before bytes text : List ℕ) → Type 0
IsTextOf before bytes text = (calls : List Call) × ContinuesLog before bytes calls × (text ≡ inert_text calls)

-- It is the inert text of the calls that the end of the bytes adds: U+FFFD where a character is begun, or none.
abbrev pub IsEndOf : (bytes text : List ℕ) → Type 0
IsEndOf bytes text = (calls : List Call) × EndsLog bytes calls × (text ≡ inert_text calls)

-- Bytes were taken from the front of the piece, and their text stands at the front of the room.
pub record Feeds (old new : StreamState) (piece room room_after : List ℕ) (taken written : ℕ) : Type 0 where
  -- the room suffices for one byte, if there is one
  pub enough_room : 0 < length piece → least_room ≤ length room
  pub taken_fits : taken ≤ length piece
  pub written_fits : written ≤ length room
  -- whatever bytes the state stood for, it stands for these too,
  pub stands : (before : List ℕ) → StandsForLog old before → StandsForLog new (before ++ take taken piece)
  -- and what is written is their text, all of it
  pub text : (before : List ℕ) → StandsForLog old before → IsTextOf before (take taken piece) (take written room_after)
  -- which is UTF-8 by itself,
  pub utf8 : IsUtf8 (take written room_after)
  -- and of inert characters alone
  pub inert : IsInertText (take written room_after)
  -- after the text the room is as it was
  pub untouched : drop written room_after ≡ drop written room
  -- of some bytes at least one was taken, and bytes are left only where less room is left than
  -- one of them may need
  pub some_taken : 0 < length piece → 0 < taken
  pub all_taken : written + least_room ≤ length room → taken ≡ length piece
  -- all are taken where there is room for what they may lead to
  pub taken_at_once : most_text (length piece) ≤ length room → taken ≡ length piece
  -- no bytes lead to more text than that, and none to none
  pub bounded : written ≤ most_text taken
  pub nothing : taken ≡ 0 → written ≡ 0

-- Nothing was done: there are bytes, and less room than one of them may need.
pub record Refuses (old new : StreamState) (piece room room_after : List ℕ) : Type 0 where
  pub some_bytes : 0 < length piece
  pub little_room : length room < least_room
  pub same_state : new ≡ old
  pub same_room : room_after ≡ room

-- The stream has ended: what that leads to stands at the front of the room, and the state begins a stream.
pub record Ends (old new : StreamState) (room room_after : List ℕ) (written : ℕ) : Type 0 where
  pub enough_room : end_room ≤ length room
  pub written_fits : written ≤ end_room
  -- whatever bytes the state stood for, it is what their end leads to
  pub text : (before : List ℕ) → StandsForLog old before → IsEndOf before (take written room_after)
  -- it is of inert characters alone
  pub inert : IsInertText (take written room_after)
  -- after it the room is as it was
  pub untouched : drop written room_after ≡ drop written room
  pub begins : StandsForLog new []

-- Nothing was done: there is less room than an end may need.
pub record RefusesEnd (old new : StreamState) (room room_after : List ℕ) : Type 0 where
  pub little_room : length room < end_room
  pub same_state : new ≡ old
  pub same_room : room_after ≡ room

-- The parser took bytes from the front of the piece, and the inert text of their calls was put
-- into the room, which has room for it.
pub record IsTaken (old new : Parser Utf8Parser) (piece : List ℕ)
    (room room_after : SliceWriter) (taken : ℕ) : Type 0 where
  pub calls : List Call
  pub taken_fits : taken ≤ length piece
  pub stands : (before : List ℕ) → IsAfter front_of old (as_read before)
      → IsAfter front_of new (as_read (before ++ take taken piece))
  pub continues : (before : List ℕ) → IsAfter front_of old (as_read before)
      → ContinuesLog before (take taken piece) calls
  pub puts : Puts (inert_text calls) room room_after
  pub fits : room.written + length (inert_text calls) ≤ length room.into.now
  pub bounded : length (inert_text calls) ≤ most_text taken
  pub nothing : taken ≡ 0 → calls ≡ []
