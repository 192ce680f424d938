-- The stages that a log goes through.
use Rattle.std.specs.Prelude.{◌≡◌, ℕ, Bool, true, false, List, [], ◌++◌, Option, None, Some, if◌then◌else◌}
use Rattle.std.specs.declared.alloc.Global.{Global}
use Rattle.std.specs.declared.vec.Vec.{Vec}
use Rattle.anstyle_parse.specs.declared.io.devices.Sink.{Ghosts as SinkOf}
use Rattle.screen_text.specs.declared.recording.ShownSize.{ShownSize}
use Rattle.shown_pieces.specs.declared.how.How.{How}
use Rattle.shown_pieces.specs.declared.running.Running.{Running}
use Rattle.shown_pieces.specs.declared.stage.Stage.{Stage}
use Rattle.shown_pieces.specs.declared.stage.Stage.TheVariants.{Held, Showing, Ended, Failed}
use Rattle.shown_pieces.specs.Running.{Memory, IsShowing}
use Rattle.shown_pieces.specs.Shown.{goes_further}

-- the size of the screen whose rows are written as they leave it, if they are
abbrev pub size_of_rows : Option ShownSize → How → Option ShownSize
size_of_rows None how = None
size_of_rows (Some shown) how = if goes_further how then None else Some shown

-- where there was memory a log goes on, or has ended
abbrev pub showing_or_failed : Option Running → Stage
showing_or_failed (Some running) = Showing running
showing_or_failed None = Failed

abbrev pub ended_or_failed : Option (Vec ℕ Global) → Stage
ended_or_failed (Some text) = Ended text
ended_or_failed None = Failed

-- what is written: nothing before the end; and whether that stands here
abbrev pub text_at : Stage → List ℕ
text_at (Ended text) = text.items
text_at stage = []

abbrev pub has_text : Stage → Bool
has_text (Ended text) = true
has_text stage = false

-- no more of the log is taken: it has ended, or memory was wanting
abbrev pub is_over : Stage → Bool
is_over (Ended text) = true
is_over Failed = true
is_over stage = false

-- These bytes of a log have come, of which the rest is still to come.
abbrev pub HasComeOf : SinkOf Memory → Option ShownSize → How → (bytes rest : List ℕ) → Stage → Type 0
HasComeOf sink size how bytes rest (Held held) = held.items ≡ bytes
HasComeOf sink size how bytes rest (Showing running) =
    (shown : ShownSize) × (size_of_rows size how ≡ Some shown) × IsShowing sink shown how.form (bytes ++ rest) bytes running
HasComeOf sink size how bytes rest stage = ⊥

-- They have come, whatever comes after them.
abbrev pub HasComeAt : SinkOf Memory → Option ShownSize → How → List ℕ → Stage → Type 0
HasComeAt sink size how bytes stage = (rest : List ℕ) → HasComeOf sink size how bytes rest stage
