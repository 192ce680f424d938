-- A log that comes in pieces, and what calls do to it.
use Rattle.std.specs.Prelude.{◌≡◌, ◌<◌, ◌≤◌, ◌⊎◌, ℕ, Bool, true, false, List, [], ◌++◌, length, drop, Option}
use Rattle.anstyle_parse.specs.declared.io.devices.Sink.{Ghosts as SinkOf}
use Rattle.screen_text.specs.declared.recording.ShownSize.{ShownSize}
use Rattle.shown_pieces.specs.declared.how.How.{How}
use Rattle.shown_pieces.specs.declared.log.ShownLog.{ShownLog}
use Rattle.shown_pieces.specs.Running.{Memory}
use Rattle.shown_pieces.specs.Shown.{IsShown}
use Rattle.shown_pieces.specs.Stages.{text_at, is_over, HasComeAt}

-- the size of its screen, if it has one; how it is written; and what is written
abbrev pub size_of : ShownLog → Option ShownSize
size_of log = log.size

abbrev pub how_of : ShownLog → How
how_of log = log.how

abbrev pub text_of : ShownLog → List ℕ
text_of log = text_at log.stage

-- No more of it is taken: it has ended, or memory was wanting.
abbrev pub IsOver : ShownLog → Type 0
IsOver log = is_over log.stage ≡ true

-- Its screen is the same, and so is how it is written.
abbrev pub IsAlike : (old new : ShownLog) → Type 0
IsAlike old new = (new.size ≡ old.size) × (new.how ≡ old.how)

module _ (sink : SinkOf Memory) where
  -- These bytes of it have come.
  abbrev pub HasCome : List ℕ → ShownLog → Type 0
  HasCome bytes log = HasComeAt sink log.size log.how bytes log.stage

  -- It takes the next bytes: where some had come, these come after them.
  pub record Feeds (piece : List ℕ) (old new : ShownLog) : Type 0 where
    pub come : (before : List ℕ) → HasCome before old → HasCome (before ++ piece) new
    pub alike : IsAlike old new

  -- It ends: what is written is that of all that came, by its screen, and as it is asked for.
  pub record Ends (old new : ShownLog) : Type 0 where
    pub shown : (bytes : List ℕ) → HasCome bytes old → IsShown old.size old.how bytes (text_of new)
    pub over : IsOver new
    pub alike : IsAlike old new

-- Nothing is taken: it was over, and stays as it is; or memory is wanting, so that it is over, and nothing is written.
abbrev pub Refuses : (old new : ShownLog) → Type 0
Refuses old new = (IsOver old × (new ≡ old)) ⊎ (IsOver new × (text_of new ≡ []))

-- A text stands at the front of the room, and past it the room is as it was.
pub record HasText (text room room_after : List ℕ) (written : ℕ) : Type 0 where
  pub length : written ≡ length text
  pub whole : room_after ≡ text ++ drop written room

-- The room has fewer bytes than the text, of which the number is told; it is as it was.
pub record LacksRoom (text room room_after : List ℕ) (needed : ℕ) : Type 0 where
  pub told : needed ≡ length text
  pub little : length room < needed
  pub untouched : room_after ≡ room
