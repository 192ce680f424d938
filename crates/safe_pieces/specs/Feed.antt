-- What one call does with a piece of a stream, and what its end is.
use Rattle.std.specs.List.{AllByRecursion}
use Rattle.std.specs.Str.{chars, encode_utf8_all}
use Rattle.std.specs.Prelude.{◌≡◌, ◌<◌, ◌≤◌, ◌*◌, ℕ, List, [], ◌++◌, length, take, drop, IsTrue, IsUtf8}
use Rattle.anstyle_parse.specs.Stream.Call.{Call}
use Rattle.anstyle_parse.specs.Stream.Calls.{AreCalls}
use Rattle.anstyle_parse.specs.Machine.AsRead.{as_read, as_read_whole}
use Rattle.stream_state.specs.Log.{StandsForLog, ContinuesLog, EndsLog}
use Rattle.safe_text.specs.Classes.{is_of_safe_text}
use Rattle.safe_text.specs.Safe.{safe_from}
use Rattle.safe_text.specs.Decided.{decided_from, last_from, waiting}
use Rattle.safe_text.specs.Marks.{marked_from, hiding_from, closing, safe_marked, decided_marked}
use Rattle.safe_pieces.specs.declared.state.SafeState.{SafeState}
use Rattle.safe_pieces.specs.Sizes.{most_safe, at_once, least_room, end_room}
use Rattle.safe_pieces.specs.State.{before_in, held_in, hiding_in, StandsFor}

-- The text, with its marks, is what is decided of all bytes, beyond what was decided of those before.
abbrev pub IsSafeOf : (before bytes text : List ℕ) → Type 0
IsSafeOf before bytes text = (own all : List Call) → AreCalls (as_read before) own
    → AreCalls (as_read (before ++ bytes)) all
    → decided_marked all ≡ decided_marked own ++ text

-- It is the rest of the safe text, where the bytes end: what still waits, U+FFFD where a character is begun, and the
-- mark that closes hidden text.
abbrev pub IsEndOf : (bytes text : List ℕ) → Type 0
IsEndOf bytes text = (own all : List Call) → AreCalls (as_read bytes) own → AreCalls (as_read_whole bytes) all
    → safe_marked all ≡ decided_marked own ++ text

-- All bytes of a piece were taken, and their safe text stands at the front of the room. This is so for any bytes in the
-- state: the text goes on from where the state says that it stands.
pub record Takes (old new : SafeState) (piece room room_after : List ℕ) (written : ℕ) : Type 0 where
  pub calls : List Call
  pub continues : (before : List ℕ) → StandsForLog old.stream before → ContinuesLog before piece calls
  pub stream : (before : List ℕ) → StandsForLog old.stream before → StandsForLog new.stream (before ++ piece)
  pub last : before_in new ≡ last_from (before_in old) (held_in old ++ marked_from (hiding_in old) calls)
  pub held : held_in new ≡ waiting (held_in old ++ marked_from (hiding_in old) calls)
  pub hiding : hiding_in new ≡ hiding_from (hiding_in old) calls
  pub few_calls : length calls ≤ 2 * length piece
  pub same_length : length room_after ≡ length room
  pub written_fits : written ≤ length room
  pub text : take written room_after
      ≡ encode_utf8_all (decided_from (before_in old) (held_in old ++ marked_from (hiding_in old) calls))
  -- past it the room is as it was
  pub untouched : drop written room_after ≡ drop written room

-- Bytes were taken from the front of the piece, and their safe text stands at the front of the room.
pub record Feeds (old new : SafeState) (piece room room_after : List ℕ) (taken written : ℕ) : Type 0 where
  -- the room suffices for one byte, if there is one
  pub enough_room : 0 < length piece → least_room ≤ length room
  pub taken_fits : taken ≤ length piece
  pub written_fits : written ≤ length room
  -- whatever the state holds, these bytes go on from there
  pub takes : Takes old new (take taken piece) room room_after written
  -- whatever bytes the state stood for, it stands for these too,
  pub stands : (before : List ℕ) → StandsFor old before → StandsFor new (before ++ take taken piece)
  -- and what is written is what is then decided, all of it
  pub text : (before : List ℕ) → StandsFor old before → IsSafeOf before (take taken piece) (take written room_after)
  -- which is UTF-8 by itself, of characters that show, are blank or are joiners
  pub utf8 : IsUtf8 (take written room_after)
  pub of_the_class : AllByRecursion (λ c. IsTrue (is_of_safe_text c)) (chars (take written room_after))
  -- of some bytes at least one was taken
  pub some_taken : 0 < length piece → 0 < taken
  -- all are taken where there is room for what they may lead to
  pub taken_at_once : at_once (length piece) ≤ length room → taken ≡ length piece
  -- no bytes lead to more text than that
  pub bounded : written ≤ most_safe taken

-- Nothing was done: there are bytes, and less room than one of them may need.
pub record Refuses (old new : SafeState) (piece room room_after : List ℕ) : Type 0 where
  pub some_bytes : 0 < length piece
  pub little_room : length room < least_room
  pub same_state : new ≡ old
  pub same_room : room_after ≡ room

-- What still waits, and what the end leads to, stands at the front of the room, and the state begins a stream.
pub record Ends (old new : SafeState) (room room_after : List ℕ) (written : ℕ) : Type 0 where
  pub enough_room : end_room ≤ length room
  pub written_fits : written ≤ end_room
  -- whatever the state held
  pub calls : List Call
  pub adds : (before : List ℕ) → StandsForLog old.stream before → EndsLog before calls
  pub ending : take written room_after
      ≡ encode_utf8_all (safe_from (before_in old)
      (held_in old ++ (marked_from (hiding_in old) calls ++ closing (hiding_from (hiding_in old) calls))))
  pub untouched : drop written room_after ≡ drop written room
  -- whatever bytes the state stood for, it is the rest of their safe text
  pub text : (before : List ℕ) → StandsFor old before → IsEndOf before (take written room_after)
  pub begins : StandsFor new []

-- Nothing was done: there is less room than an end may need.
pub record RefusesEnd (old new : SafeState) (room room_after : List ℕ) : Type 0 where
  pub little_room : length room < end_room
  pub same_state : new ≡ old
  pub same_room : room_after ≡ room
