-- What a run of the program writes.
use Rattle.std.specs.Prelude.{◌≤◌, ◌*◌, ◌↔◌, ℕ, List, length, Result}
use Rattle.std.specs.Io.KnownBytes.{Consumes}
use Rattle.anstyle_parse.specs.declared.io.Fault.{Fault}
use Rattle.anstyle_parse.specs.declared.io.devices.Sink.{Ghosts as SinkOf}
use Rattle.anstyle_parse.specs.declared.io.devices.Source.{Ghosts as SourceOf}
use Rattle.anstyle_parse.specs.Stream.Call.{Call}
use Rattle.anstyle_parse.specs.Stream.Calls.{AreCalls}
use Rattle.anstyle_parse.specs.Stream.Canon.{canon}
use Rattle.anstyle_parse.specs.Io.Run.{WritesText}
use Rattle.parselog.specs.Lines.{lines}
use Rattle.parselog.specs.declared.run.Mode.{Mode}
use Rattle.parselog.specs.declared.run.Mode.TheVariants.{Log, Canon}

-- the text of calls in a mode
abbrev pub text_of : Mode → List Call → List ℕ
text_of Log = lines
text_of Canon = canon

-- What was written makes the calls of what was read, and has at most three times as many
-- bytes; where a write failed, a proper prefix of that is written.
pub record Normalises {R W T : Type 0} (source : SourceOf R) (sink : SinkOf W)
    (reader reader_after : R) (writer : W) (result : W × Result T Fault) : Type 0 where
  pub read : List ℕ
  pub text : List ℕ
  pub consumed : Consumes (source.remaining reader) (source.remaining reader_after) read
  pub written : WritesText result.1 (sink.contents writer) (sink.contents result.0) text
  pub same_calls : (calls : List Call) → (AreCalls read calls ↔ AreCalls text calls)
  pub bound : length text ≤ 3 * length read
