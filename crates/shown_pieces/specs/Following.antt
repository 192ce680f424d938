-- A performer that follows a log, and what it writes of all of it.
use Rattle.std.specs.Prelude.{◌≡◌, ℕ, List, ◌++◌}
use Rattle.anstyle_parse.specs.Machine.AsRead.{as_read, as_read_whole}
use Rattle.anstyle_parse.specs.Stream.Call.{Call}
use Rattle.anstyle_parse.specs.Stream.Calls.{AreCalls}
use Rattle.anstyle_parse.specs.Stream.Texts.{HasReceivedTexts}
use Rattle.anstyle_parse.specs.Views.Accumulator.{front_of}
use Rattle.anstyle_parse.specs.Views.Parser.{IsAfter}
use Rattle.shown_pieces.specs.declared.following.Following.{Following}

-- The parser stands after the bytes, as a reader of logs reads them, and the performer, which was that first one, has
-- received exactly their calls.
pub record Follows {P : Type 0} (receives : P → List Call → P → Type 0) (first : P) (bytes : List ℕ)
    (following : Following P) : Type 0 where
  pub stands : IsAfter front_of following.parser (as_read bytes)
  pub received : HasReceivedTexts receives first (as_read bytes) following.performer

-- The written bytes are the text of the calls of a whole log, and its ending.
abbrev pub Writes : (text ending : List Call → List ℕ) → (bytes written : List ℕ) → Type 0
Writes text ending bytes written =
    (calls : List Call) × AreCalls (as_read_whole bytes) calls × (written ≡ text calls ++ ending calls)
