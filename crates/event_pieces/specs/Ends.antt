-- Where in a piece each record ends.
use Rattle.std.specs.Prelude.{◌≡◌, ◌<◌, ◌≤◌, ◌↔◌, ℕ, suc, List, ◌++◌, length, take, drop, get_or, min}
use Rattle.anstyle_parse.specs.Stream.Call.{Call}
use Rattle.anstyle_parse.specs.Stream.Calls.{Continues}
use Rattle.stream_state.specs.declared.state.StreamState.{StreamState}
use Rattle.stream_state.specs.State.{StandsFor}
use Rattle.event_pieces.specs.declared.event.Event.{Event}
use Rattle.event_pieces.specs.Event.{read_events}
use Rattle.event_pieces.specs.Feed.{AreEventsOf}

-- the calls begin with these
abbrev pub BeginWith : (front calls : List Call) → Type 0
BeginWith front calls = (rest : List Call) × (calls ≡ front ++ rest)

-- Where the record at a place ends: the calls that it and those before it say are made by the first so many of the
-- bytes exactly if these reach its end.
abbrev pub IsEnd : (before bytes room : List ℕ) (events : List Event) (place end : ℕ) → Type 0
IsEnd before bytes room events place end = (count : ℕ) (calls : List Call) → count ≤ length bytes
    → Continues before (take count bytes) calls
    → (end ≤ count ↔ BeginWith (read_events room (take (suc place) events)) calls)

-- these are the ends of the first records, in order
abbrev pub AreEnds : (before bytes room : List ℕ) (events : List Event) (ends : List ℕ) → Type 0
AreEnds before bytes room events ends = (place : ℕ) → place < length ends
    → IsEnd before bytes room events place (get_or ends place 0)

-- The ends of the records of these bytes are written to the front, of as many as there are places for.
pub record FindsEnds (state : StreamState) (bytes ends ends_after : List ℕ) (found : ℕ) : Type 0 where
  pub counted : (before room : List ℕ) (events : List Event) → StandsFor state before
      → AreEventsOf before bytes room events → found ≡ min (length events) (length ends)
  pub are_ends : (before room : List ℕ) (events : List Event) → StandsFor state before
      → AreEventsOf before bytes room events → AreEnds before bytes room events (take found ends_after)
  -- after that the places are as they were
  pub untouched : drop found ends_after ≡ drop found ends
