-- What one call does with a piece of a stream, and what its end is.
use Rattle.std.specs.Prelude.{◌≡◌, ◌<◌, ◌≤◌, ℕ, List, [], ◌++◌, length, take, drop, IsUtf8}
use Rattle.anstyle_parse.specs.Stream.Call.{Call}
use Rattle.anstyle_parse.specs.Stream.Calls.{AreCalls}
use Rattle.anstyle_parse.specs.Machine.AsRead.{as_read}
use Rattle.stream_state.specs.Log.{StandsForLog, ContinuesLog, EndsLog}
use Rattle.ansi_html.specs.declared.scheme.Styling.{Styling}
use Rattle.ansi_html.specs.Html.{at_start, html_from, standing_at_end, element_end, html_ending}
use Rattle.html_pieces.specs.declared.state.HtmlState.{HtmlState}
use Rattle.html_pieces.specs.Sizes.{most_html, most_together, least_room, end_room, most_taken, capacity}
use Rattle.html_pieces.specs.State.{styling_in, standing_of, StandsFor}

-- The HTML is what the calls write by which the bytes continue those before, from where it stands after
-- the calls of these.
abbrev pub IsHtmlOf : Styling → (before bytes html : List ℕ) → Type 0
IsHtmlOf styling before bytes html = (calls : List Call) × ContinuesLog before bytes calls
    × ((own : List Call) → AreCalls (as_read before) own
    → html ≡ html_from styling (standing_at_end at_start own) calls)

-- It is what ends the HTML of the bytes: U+FFFD where a character is begun, and what closes the element that is open.
abbrev pub IsEndOf : Styling → (bytes html : List ℕ) → Type 0
IsEndOf styling bytes html = (calls : List Call) × EndsLog bytes calls
    × ((own : List Call) → AreCalls (as_read bytes) own
    → html ≡ html_from styling (standing_at_end at_start own) calls ++ html_ending (own ++ calls))

-- All bytes of a piece were taken, and their HTML stands at the front of the room. This is so for any bytes in
-- the state: the HTML goes on from where the state says that it stands.
pub record Takes (old new : HtmlState) (piece room room_after : List ℕ) (written : ℕ) : Type 0 where
  pub calls : List Call
  pub continues : (before : List ℕ) → StandsForLog old.stream before → ContinuesLog before piece calls
  pub stream : (before : List ℕ) → StandsForLog old.stream before → StandsForLog new.stream (before ++ piece)
  pub styling : styling_in new ≡ styling_in old
  pub standing : standing_of new ≡ standing_at_end (standing_of old) calls
  pub same_length : length room_after ≡ length room
  pub written_fits : written ≤ length room
  pub html : take written room_after ≡ html_from (styling_in old) (standing_of old) calls
  -- past it the room is as it was
  pub untouched : drop written room_after ≡ drop written room

-- Bytes were taken from the front of the piece, and their HTML stands at the front of the room.
pub record Feeds (old new : HtmlState) (piece room room_after : List ℕ) (taken written : ℕ) : Type 0 where
  -- the room suffices for one byte, if there is one
  pub enough_room : 0 < length piece → least_room ≤ length room
  pub taken_fits : taken ≤ length piece
  pub written_fits : written ≤ length room
  -- whatever the state holds, these bytes go on from there
  pub takes : Takes old new (take taken piece) room room_after written
  -- whatever bytes the state stood for, it stands for these too,
  pub stands : (before : List ℕ) → StandsFor old before → StandsFor new (before ++ take taken piece)
  -- and what is written is their HTML, all of it
  pub html : (before : List ℕ) → StandsFor old before
      → IsHtmlOf (styling_in old) before (take taken piece) (take written room_after)
  -- which is UTF-8 by itself
  pub utf8 : IsUtf8 (take written room_after)
  -- of some bytes at least one was taken
  pub some_taken : 0 < length piece → 0 < taken
  -- all are taken where there is room for what they may lead to, also in one call
  pub taken_at_once : most_html (length piece) ≤ length room → most_html (length piece) ≤ capacity
      → taken ≡ length piece
  -- one call takes no more than that, and writes no more
  pub few_taken : taken ≤ most_taken
  pub few_written : written ≤ capacity
  -- no bytes lead to more HTML than that, and none to none
  pub bounded : written ≤ most_html taken
  pub bounded_together : written ≤ most_together (styling_in old) taken

-- Nothing was done: there are bytes, and less room than one of them may need.
pub record Refuses (old new : HtmlState) (piece room room_after : List ℕ) : Type 0 where
  pub some_bytes : 0 < length piece
  pub little_room : length room < least_room
  pub same_state : new ≡ old
  pub same_room : room_after ≡ room

-- What ends the HTML stands at the front of the room, and the state begins a stream in the same styling.
pub record Ends (old new : HtmlState) (room room_after : List ℕ) (written : ℕ) : Type 0 where
  pub enough_room : end_room ≤ length room
  pub written_fits : written ≤ end_room
  -- whatever the state held
  pub calls : List Call
  pub adds : (before : List ℕ) → StandsForLog old.stream before → EndsLog before calls
  pub closes : take written room_after
      ≡ html_from (styling_in old) (standing_of old) calls
      ++ element_end (standing_at_end (standing_of old) calls).shown
  pub untouched : drop written room_after ≡ drop written room
  -- whatever bytes the state stood for, it is what ends their HTML
  pub html : (before : List ℕ) → StandsFor old before → IsEndOf (styling_in old) before (take written room_after)
  pub begins : StandsFor new []
  pub styling : styling_in new ≡ styling_in old

-- Nothing was done: there is less room than an end may need.
pub record RefusesEnd (old new : HtmlState) (room room_after : List ℕ) : Type 0 where
  pub little_room : length room < end_room
  pub same_state : new ≡ old
  pub same_room : room_after ≡ room
