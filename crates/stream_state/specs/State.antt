-- What a state of a stream stands for.
use Rattle.std.specs.Prelude.{ℕ, List, [], take}
use Rattle.anstyle_parse.specs.Machine.Decoder.{decoded}
use Rattle.anstyle_parse.specs.Machine.Step.{new_machine, machine_after}
use Rattle.anstyle_parse.specs.Machine.Stands.{StandsAfter}
use Rattle.stream_state.specs.declared.state.StreamState.{StreamState}

-- the bytes that a state holds: any number in `length` counts for as many as there are
abbrev pub pending_of : StreamState → List ℕ
pending_of state = take state.length state.pending

-- The state stands for the bytes before: a new parser that takes what it holds stands where
-- one stands that took all of them.
abbrev pub StandsFor : StreamState → List ℕ → Type 0
StandsFor state before = StandsAfter (machine_after decoded (pending_of state) (new_machine [])) before
