-- A stream in pieces, as a reader of logs reads it.
use Rattle.std.specs.Prelude.{ℕ, Bool, true, false, List, [], ◌∷◌, ◌++◌}
use Rattle.anstyle_parse.specs.Stream.Call.{Call, print}
use Rattle.anstyle_parse.specs.Stream.Calls.{AreCalls}
use Rattle.anstyle_parse.specs.Stream.Characters.{replacement}
use Rattle.anstyle_parse.specs.Machine.AsRead.{as_read, as_read_whole}
use Rattle.stream_state.specs.declared.state.StreamState.{StreamState}
use Rattle.stream_state.specs.State.{StandsFor}

-- The state stands for the bytes before: for what is read of them.
abbrev pub StandsForLog : StreamState → List ℕ → Type 0
StandsForLog state before = StandsFor state (as_read before)

-- The calls are those that the bytes add to the calls of those before.
abbrev pub ContinuesLog : (before bytes : List ℕ) → List Call → Type 0
ContinuesLog before bytes calls = (own : List Call) → AreCalls (as_read before) own
    → AreCalls (as_read (before ++ bytes)) (own ++ calls)

-- The calls are those that the end of the stream adds, where no more comes.
abbrev pub EndsLog : (before : List ℕ) → List Call → Type 0
EndsLog before calls = (own : List Call) → AreCalls (as_read before) own
    → AreCalls (as_read_whole before) (own ++ calls)

-- what they are, by whether a character is begun
abbrev pub end_calls : (is_begun : Bool) → List Call
end_calls true = print replacement ∷ []
end_calls false = []
