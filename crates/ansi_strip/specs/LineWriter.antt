-- What a writer of lines that end with a line feed shows.
use Rattle.std.specs.Prelude.{◌≡◌, ℕ, List, [], ◌∷◌, ◌++◌, if◌then◌else◌}
use Rattle.anstyle_parse.specs.declared.io.devices.Sink.{Ghosts as SinkOf}
use Rattle.anstyle_parse.specs.declared.io.output.Output.{Output}
use Rattle.anstyle_parse.specs.Io.Output.{Adds}
use Rattle.anstyle_parse.specs.Stream.Call.{Call}
use Rattle.ansi_strip.specs.declared.line_feeds.LineFeeds.{LineFeeds}
use Rattle.ansi_strip.specs.LineFeeds.{waiting, decided}
use Rattle.ansi_strip.specs.Strip.{stripped}

-- the output that it writes to, and the carriage return that waits, if one does
abbrev pub output_of : {W : Type 0} → LineFeeds W → Output W
output_of performer = performer.output

abbrev pub held_in : {W : Type 0} → LineFeeds W → List ℕ
held_in performer = if performer.waits then 0x0D ∷ [] else []

-- what it writes by calls, as it stands, and what is then to be written at the end
abbrev pub text_from : {W : Type 0} → LineFeeds W → List Call → List ℕ
text_from performer calls = decided (held_in performer ++ stripped calls)

abbrev pub ending_from : {W : Type 0} → LineFeeds W → List Call → List ℕ
ending_from performer calls = waiting (held_in performer ++ stripped calls)

-- A text comes: it is written, but for what goes and what waits.
pub record Takes {W : Type 0} (sink : SinkOf W) (old : LineFeeds W) (text : List ℕ) (new : LineFeeds W) : Type 0 where
  pub added : Adds sink (decided (held_in old ++ text)) (output_of old) (output_of new)
  pub held : held_in new ≡ waiting (held_in old ++ text)
