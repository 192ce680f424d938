-- What a run does: it reads bytes, and writes the text of their calls.
use Rattle.std.specs.Prelude.{◌≡◌, ◌≢◌, ◌≤◌, ◌-◌, ◌^◌, ℕ, Bool, false, List, [], ◌++◌, length, Option, None, Result, Ok, Err, ⊤, ◌⊎◌, IsTrue, IsSome}
use Rattle.std.specs.Io.KnownBytes.{Appends, Consumes, IsAtEnd}
use Rattle.anstyle_parse.specs.declared.io.Fault.{Fault}
use Rattle.anstyle_parse.specs.declared.io.Fault.TheVariants.{Read, Write, Flush}
use Rattle.anstyle_parse.specs.declared.io.devices.Sink.{Ghosts as SinkOf}
use Rattle.anstyle_parse.specs.declared.io.devices.Source.{Ghosts as SourceOf}
use Rattle.anstyle_parse.specs.declared.io.engine.Stop.{Stop}
use Rattle.anstyle_parse.specs.declared.io.output.Output.{Output}
use Rattle.anstyle_parse.specs.declared.io.engine.Stop.TheVariants.{AtEnd, AtFault, AtRead}
use Rattle.anstyle_parse.specs.Stream.Call.{Call, Goes}
use Rattle.anstyle_parse.specs.Stream.Calls.{AreCalls}
use Rattle.anstyle_parse.specs.Stream.Texts.{HasReceivedTexts}
use Rattle.anstyle_parse.specs.Io.Output.{AppendsPrefix, fault_in}

-- the reads of one run at most
abbrev pub most_reads : ℕ
most_reads = 2 ^ 64 - 1

-- Why no more was read: the reader is at its end; or a fault is kept; or a read
-- failed, or as many bytes were read as reads are made at most, each of which gave some.
abbrev pub StopsAs : Stop → (at_end : Type 0) → (fault : Option Fault) → (failed failed_after : Bool) → ℕ → Type 0
StopsAs AtEnd at_end fault failed failed_after count = at_end × (fault ≡ None) × (failed_after ≡ failed)
StopsAs AtFault at_end fault failed failed_after count = IsSome fault × (failed_after ≡ failed)
StopsAs AtRead at_end fault failed failed_after count = (fault ≡ None) × (IsTrue failed_after ⊎ (most_reads ≤ count))

-- Why no more was read: the reader is at its end; or a read failed, or as many bytes were read as
-- reads are made at most, each of which gave some.
abbrev pub EndsAs : {T : Type 0} → Result T Fault → (at_end : Type 0) → (failed failed_after : Bool) → ℕ → Type 0
EndsAs (Ok done) at_end failed failed_after count = at_end × (failed_after ≡ failed)
EndsAs (Err Read) at_end failed failed_after count = IsTrue failed_after ⊎ (most_reads ≤ count)
EndsAs (Err _) at_end failed failed_after count = ⊥

-- A new parser was given what the reader gave, and its performer has received exactly the calls, by what lists of calls
-- do to it.
pub record PerformsTextsToEnd {R P T : Type 0} (source : SourceOf R) (receives : P → List Call → P → Type 0)
    (reader reader_after : R) (performer performer_after : P) (answer : Result T Fault) : Type 0 where
  pub read : List ℕ
  pub consumed : Consumes (source.remaining reader) (source.remaining reader_after) read
  pub received : HasReceivedTexts receives performer read performer_after
  pub ends : EndsAs answer (IsTrue source.zero_is_end → IsAtEnd (source.remaining reader_after))
      (source.has_failed reader) (source.has_failed reader_after) (length read)

-- The same by what each call does to the performer.
abbrev pub PerformsToEnd : {R P T : Type 0} → SourceOf R → (means : P → Call → P → Type 0)
    → (reader reader_after : R) → (performer performer_after : P) → Result T Fault → Type 0
PerformsToEnd source means reader reader_after performer performer_after answer =
    PerformsTextsToEnd source (Goes means) reader reader_after performer performer_after answer

-- A new parser was given what the reader gave, and its performer received the calls.
pub record Drives {R W P : Type 0} (source : SourceOf R) (receives : P → List Call → P → Type 0)
    (output_of : P → Output W) (reader reader_after : R) (performer performer_after : P) (stop : Stop) : Type 0 where
  pub read : List ℕ
  pub calls : List Call
  pub consumed : Consumes (source.remaining reader) (source.remaining reader_after) read
  pub are_calls : AreCalls read calls
  pub received : receives performer calls performer_after
  pub stops : StopsAs stop (IsTrue source.zero_is_end → IsAtEnd (source.remaining reader_after))
      (fault_in (output_of performer_after)) (source.has_failed reader) (source.has_failed reader_after) (length read)

-- Where a write failed, a proper prefix of the text is written, and else all of it.
abbrev pub WritesText : {T : Type 0} → Result T Fault → (before after : Option (List ℕ)) → List ℕ → Type 0
WritesText (Err Write) before after text = AppendsPrefix before after text
WritesText _ before after text = Appends before after text

-- All of the text is written, and of its ending a proper prefix.
pub record BreaksOff (before after : Option (List ℕ)) (text ending : List ℕ) : Type 0 where
  pub prefix : List ℕ
  pub rest : List ℕ
  pub joined : ending ≡ prefix ++ rest
  pub proper : rest ≢ []
  pub written : Appends before after (text ++ prefix)

-- What is written of a text and its ending. Where a write failed, a proper prefix of both.
-- Where a read failed, the text, and all of the ending, or where a write of it then failed too
-- a proper prefix of it. Else both.
abbrev pub WritesEnded : {T : Type 0} → Result T Fault → (writer_failed : Bool) → (before after : Option (List ℕ))
    → (text ending : List ℕ) → Type 0
WritesEnded (Err Read) writer_failed before after text ending =
    Appends before after (text ++ ending) ⊎ (BreaksOff before after text ending × IsTrue writer_failed)
WritesEnded answer writer_failed before after text ending = WritesText answer before after (text ++ ending)

-- Where reads and writes went well, nothing is left to be read.
abbrev pub LeavesNothing : {T : Type 0} → Result T Fault → Option (List ℕ) → Type 0
LeavesNothing (Ok done) remaining = IsAtEnd remaining
LeavesNothing (Err Flush) remaining = IsAtEnd remaining
LeavesNothing (Err _) remaining = ⊤

-- Why this is the answer, where nothing had failed before: whether the reader and the
-- writer have failed, in which call the writer did, and how many bytes were read.
abbrev pub IsCausedBy : {W T : Type 0} → SinkOf W → Result T Fault → (reader_failed : Bool) → W → ℕ → Type 0
IsCausedBy sink (Ok done) reader_failed writer count = (reader_failed ≡ false) × (sink.has_failed writer ≡ false)
IsCausedBy sink (Err Read) reader_failed writer count = IsTrue reader_failed ⊎ (most_reads ≤ count)
IsCausedBy sink (Err Write) reader_failed writer count =
    (reader_failed ≡ false) × IsTrue (sink.has_failed writer) × sink.failed_as writer Write
IsCausedBy sink (Err Flush) reader_failed writer count =
    (reader_failed ≡ false) × IsTrue (sink.has_failed writer) × sink.failed_as writer Flush

-- A run: the bytes that were read and their calls, what was written, what is left unread,
-- and the cause of the answer.
pub record Runs {R W T : Type 0} (source : SourceOf R) (sink : SinkOf W)
    (text : List Call → List ℕ) (reader reader_after : R) (writer : W)
    (result : W × Result T Fault) : Type 0 where
  pub read : List ℕ
  pub calls : List Call
  pub consumed : Consumes (source.remaining reader) (source.remaining reader_after) read
  pub are_calls : AreCalls read calls
  pub written : WritesText result.1 (sink.contents writer) (sink.contents result.0) (text calls)
  pub unread : IsTrue source.zero_is_end → LeavesNothing result.1 (source.remaining reader_after)
  pub causes : source.has_failed reader ≡ false → sink.has_failed writer ≡ false
      → IsCausedBy sink result.1 (source.has_failed reader_after) result.0 (length read)

-- The same where the text of the calls has an ending.
pub record RunsToEnding {R W T : Type 0} (source : SourceOf R) (sink : SinkOf W)
    (text ending : List Call → List ℕ) (reader reader_after : R) (writer : W)
    (result : W × Result T Fault) : Type 0 where
  pub read : List ℕ
  pub calls : List Call
  pub consumed : Consumes (source.remaining reader) (source.remaining reader_after) read
  pub are_calls : AreCalls read calls
  pub written : WritesEnded result.1 (sink.has_failed result.0) (sink.contents writer) (sink.contents result.0)
      (text calls) (ending calls)
  pub unread : IsTrue source.zero_is_end → LeavesNothing result.1 (source.remaining reader_after)
  pub causes : source.has_failed reader ≡ false → sink.has_failed writer ≡ false
      → IsCausedBy sink result.1 (source.has_failed reader_after) result.0 (length read)
