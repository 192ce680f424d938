-- What a writer of safe text shows, and what characters do to it.
use Rattle.std.specs.Str.{encode_utf8_all}
use Rattle.std.specs.Prelude.{◌≡◌, ℕ, List, [], ◌++◌}
use Rattle.anstyle_parse.specs.declared.io.devices.Sink.{Ghosts as SinkOf}
use Rattle.anstyle_parse.specs.declared.io.output.Output.{Output}
use Rattle.anstyle_parse.specs.Stream.Call.{Call}
use Rattle.anstyle_parse.specs.Io.Output.{Adds}
use Rattle.safe_text.specs.declared.performer.SafeWriter.{SafeWriter}
use Rattle.safe_text.specs.Held.{held_characters}
use Rattle.safe_text.specs.Safe.{characters}
use Rattle.safe_text.specs.Decided.{decided_from, undecided_from, waiting, last_from, written_before, last_before}

-- the output that it writes to; the character that is written last; those that wait
abbrev pub output_of : {W : Type 0} → SafeWriter W → Output W
output_of performer = performer.output

abbrev pub before_in : {W : Type 0} → SafeWriter W → ℕ
before_in performer = performer.before

abbrev pub held_in : {W : Type 0} → SafeWriter W → List ℕ
held_in performer = held_characters performer.held

-- nothing is written, and none waits
pub record IsNew {W : Type 0} (performer : SafeWriter W) : Type 0 where
  pub before : before_in performer ≡ 0
  pub held : held_in performer ≡ []

-- what it writes by characters, as it stands, and what is then to be written at the end
abbrev pub text_by : {W : Type 0} → SafeWriter W → List ℕ → List ℕ
text_by performer cs = encode_utf8_all (decided_from (before_in performer) (held_in performer ++ cs))

abbrev pub text_from : {W : Type 0} → SafeWriter W → List Call → List ℕ
text_from performer calls = text_by performer (characters calls)

abbrev pub ending_from : {W : Type 0} → SafeWriter W → List Call → List ℕ
ending_from performer calls =
    encode_utf8_all (undecided_from (before_in performer) (held_in performer ++ characters calls))

-- The characters come: those that are decided are written, the others wait.
pub record Takes {W : Type 0} (sink : SinkOf W) (old : SafeWriter W) (cs : List ℕ) (new : SafeWriter W) : Type 0 where
  pub added : Adds sink (text_by old cs) (output_of old) (output_of new)
  pub before : before_in new ≡ last_from (before_in old) (held_in old ++ cs)
  pub held : held_in new ≡ waiting (held_in old ++ cs)

-- What waits is written, as these characters come after it.
pub record Releases {W : Type 0} (sink : SinkOf W) (old : SafeWriter W) (after : List ℕ)
    (new : SafeWriter W) : Type 0 where
  pub added : Adds sink (encode_utf8_all (written_before (before_in old) (held_in old) after))
      (output_of old) (output_of new)
  pub before : before_in new ≡ last_before (before_in old) (held_in old) after
  pub held : held_in new ≡ []
