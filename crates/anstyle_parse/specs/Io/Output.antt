-- What a performer that writes adds to its writer.
use Rattle.std.specs.Prelude.{◌≡◌, ◌≢◌, ℕ, Bool, List, [], ◌++◌, Option, None, Some, Result, Ok, Err, MatchOption, MatchResult, ◌⊎◌, IsTrue}
use Rattle.std.specs.List.{flat_map}
use Rattle.std.specs.Io.KnownBytes.{Keeps, Appends}
use Rattle.anstyle_parse.specs.declared.io.Fault.{Fault}
use Rattle.anstyle_parse.specs.declared.io.Fault.TheVariants.{Read, Write, Flush}
use Rattle.anstyle_parse.specs.declared.io.devices.Sink.{Ghosts as SinkOf}
use Rattle.anstyle_parse.specs.declared.io.output.Output.{Output}
use Rattle.anstyle_parse.specs.Stream.Call.{Call}

-- the writer, and the fault that stopped it
abbrev pub writer_in : {W : Type 0} → Output W → W
writer_in output = output.writer

abbrev pub fault_in : {W : Type 0} → Output W → Option Fault
fault_in output = output.fault

-- the writer holds bytes back
abbrev pub HoldsBack : {W : Type 0} → SinkOf W → W → Type 0
HoldsBack sink writer = sink.holds_nothing writer → ⊥

-- The whole text is written: no fault, and the writer has failed only if it had before.
pub record AddsAll {W : Type 0} (sink : SinkOf W) (text : List ℕ) (old new : Output W) : Type 0 where
  pub written : Appends (sink.contents (writer_in old)) (sink.contents (writer_in new)) text
  pub no_fault : fault_in new ≡ None
  pub not_failed : sink.has_failed (writer_in new) ≡ sink.has_failed (writer_in old)

-- A proper prefix of the text is written, and the writer failed, which is kept.
pub record AddsPrefix {W : Type 0} (sink : SinkOf W) (text : List ℕ) (old new : Output W) : Type 0 where
  pub prefix : List ℕ
  pub rest : List ℕ
  pub joined : text ≡ prefix ++ rest
  pub proper : rest ≢ []
  pub written : Appends (sink.contents (writer_in old)) (sink.contents (writer_in new)) prefix
  pub fault : fault_in new ≡ Some Write
  pub failed : IsTrue (sink.has_failed (writer_in new))
  pub was_a_write : sink.failed_as (writer_in new) Write

-- What becomes of a text. Where a fault is kept, nothing changes; else all of the text is
-- written, or a proper prefix of it.
abbrev pub Adds : {W : Type 0} → SinkOf W → List ℕ → Output W → Output W → Type 0
Adds sink text old new =
    MatchOption (fault_in old) (AddsAll sink text old new ⊎ AddsPrefix sink text old new) (λ fault. new ≡ old)

-- A performer, seen as its output, has added the texts of the calls, joined.
abbrev pub AddsTexts : {P W : Type 0} → SinkOf W → (P → Output W) → (text : Call → List ℕ) → P → List Call → P → Type 0
AddsTexts sink output_of text old calls new = Adds sink (flat_map text calls) (output_of old) (output_of new)

-- What comes of a flush: Ok, or the fault Flush where the writer failed, and that by a flush.
abbrev pub Flushes : {W T : Type 0} → SinkOf W → Result T Fault → W → W → Type 0
Flushes sink answer old new =
    MatchResult answer (λ _. sink.has_failed new ≡ sink.has_failed old)
    (λ fault. (fault ≡ Flush) × IsTrue (sink.has_failed new) × sink.failed_as new Flush)

-- The end of an output. Where a fault is kept, that is the answer; else the writer is
-- flushed. Nothing is written.
abbrev pub Finishes : {W T : Type 0} → SinkOf W → Output W → W → Result T Fault → Type 0
Finishes sink old new answer =
    MatchOption (fault_in old)
    (Keeps (sink.contents (writer_in old)) (sink.contents new) × Flushes sink answer (writer_in old) new)
    (λ fault. (new ≡ writer_in old) × (answer ≡ Err fault))

-- A proper prefix of the text was appended.
pub record AppendsPrefix (before after : Option (List ℕ)) (text : List ℕ) : Type 0 where
  pub prefix : List ℕ
  pub rest : List ℕ
  pub joined : text ≡ prefix ++ rest
  pub proper : rest ≢ []
  pub written : Appends before after prefix

-- What was written of a text, by the answer: all of it, also where a flush failed; where a
-- write failed, a proper prefix. No read can have failed.
abbrev pub Writes : {T : Type 0} → List ℕ → (before after : Option (List ℕ)) → Result T Fault → Type 0
Writes text before after (Ok value) = Appends before after text
Writes text before after (Err Flush) = Appends before after text
Writes text before after (Err Write) = AppendsPrefix before after text
Writes text before after (Err Read) = ⊥

-- Why: with Ok the writer has failed only if it had before, with a fault it has failed.
abbrev pub Causes : {T : Type 0} → (failed failed_after : Bool) → Result T Fault → Type 0
Causes failed failed_after (Ok value) = failed_after ≡ failed
Causes failed failed_after (Err fault) = IsTrue failed_after
