-- What is written of many sources, one after another: the join of what is written of each.
use Rattle.std.specs.Prelude.{◌≡◌, ◌<◌, ◌≤◌, ℕ, Bool, true, false, List, [], ◌∷◌, ◌++◌, length, Option, None, Result, Ok, Err, ⊤, ◌⊎◌, IsTrue}
use Rattle.std.specs.List.{flat_map}
use Rattle.std.specs.Io.KnownBytes.{Appends, Consumes, IsAtEnd}
use Rattle.anstyle_parse.specs.declared.io.Fault.{Fault}
use Rattle.anstyle_parse.specs.declared.io.Fault.TheVariants.{Read, Write, Flush}
use Rattle.anstyle_parse.specs.declared.io.devices.Sink.{Ghosts as SinkOf}
use Rattle.anstyle_parse.specs.declared.io.devices.Source.{Ghosts as SourceOf}
use Rattle.anstyle_parse.specs.declared.io.output.Output.{Output}
use Rattle.anstyle_parse.specs.Stream.Call.{Call}
use Rattle.anstyle_parse.specs.Stream.Calls.{AreCalls}
use Rattle.anstyle_parse.specs.Machine.AsRead.{as_read, as_read_whole}
use Rattle.anstyle_parse.specs.Io.Output.{writer_in, fault_in, HoldsBack, Adds, AppendsPrefix}
use Rattle.anstyle_parse.specs.Io.Run.{most_reads}
use Rattle.each_source.specs.declared.Stopped.{Stopped}
use Rattle.each_source.specs.declared.Stopped.TheVariants.{NoMemory, Stuck, AtFault}

-- No more is read of a source that gave so many bytes: it is at its end, or a read failed, or as many bytes were
-- read as reads are made at most.
abbrev pub HasEnded : {R : Type 0} → SourceOf R → R → ℕ → Type 0
HasEnded source reader count =
    (IsTrue source.zero_is_end → IsAtEnd (source.remaining reader))
    ⊎ (IsTrue (source.has_failed reader) ⊎ (most_reads ≤ count))

-- What is read of what a source gave, as of a log; where no more comes, a character that is begun is broken off.
abbrev pub text_read : (at_end : Bool) → List ℕ → List ℕ
text_read true bytes = as_read_whole bytes
text_read false bytes = as_read bytes

-- what a source gave, and the calls of what is read of that
pub record Given : Type 0 where
  pub read : List ℕ
  pub calls : List Call

-- A source gave these bytes first, and if they did not say which performer its stream has, no more.
abbrev pub BeginsWith : (enough : List ℕ → Bool) → (front : List ℕ) → Given → Type 0
BeginsWith enough front given =
    (rest : List ℕ) × (given.read ≡ front ++ rest) × ((enough front ≡ true) ⊎ (rest ≡ []))

-- What a source gave, and the calls of what is read of it; where it was read whole, why no more was read.
pub record IsRead {R : Type 0} (source : SourceOf R) (whole : Type 0) (reader reader_after : R) (given : Given)
    : Type 0 where
  pub at_end : Bool
  pub consumed : Consumes (source.remaining reader) (source.remaining reader_after) given.read
  pub are_calls : AreCalls (text_read at_end given.read) given.calls
  pub ended : whole → IsTrue at_end × HasEnded source reader_after (length given.read)

-- so many bytes at the front of a stream always say which performer it has
abbrev pub most_front : ℕ
most_front = 4096

-- The front of a source was read, and no more.
abbrev pub IsFrontRead : {R : Type 0} → SourceOf R → (reader reader_after : R) → Type 0
IsFrontRead source reader after = (front : List ℕ) × (length front ≤ most_front)
    × Consumes (source.remaining reader) (source.remaining after) front

-- Of the first source the front was read, and the others were not touched.
abbrev pub IsBegun : {R : Type 0} → SourceOf R → (readers readers_after : List R) → Type 0
IsBegun source (reader ∷ readers) (after ∷ readers_after) =
    IsFrontRead source reader after × (readers_after ≡ readers)
IsBegun source _ _ = ⊥

-- The first sources were read, each with its calls; where the next one was begun its front was read, and the others
-- were not touched.
abbrev pub AreRead : {R : Type 0} → SourceOf R → (whole begun : Type 0) → (readers readers_after : List R)
    → List Given → Type 0
AreRead source whole begun readers readers_after [] =
    (readers_after ≡ readers) ⊎ (begun × IsBegun source readers readers_after)
AreRead source whole begun (reader ∷ readers) (after ∷ readers_after) (given ∷ others) =
    IsRead source whole reader after given × AreRead source whole begun readers readers_after others
AreRead source whole begun _ _ (given ∷ others) = ⊥

-- When so much of a text was written, the writer held bytes back.
pub record WasHeld {W : Type 0} (sink : SinkOf W) (text : List ℕ) (writer : W) : Type 0 where
  pub given : List ℕ
  pub left : List ℕ
  pub joined : text ≡ given ++ left
  pub holder : W
  pub written : Appends (sink.contents writer) (sink.contents holder) given
  pub holds_back : HoldsBack sink holder

-- One source was read, and the text of its calls went to the output. It was read whole, unless the output failed or
-- its writer is stuck, which held bytes back then.
pub record WritesOne {R W : Type 0} (source : SourceOf R) (sink : SinkOf W) (text : Given → List ℕ)
    (reader reader_after : R) (output output_after : Output W) (is_stuck : Bool) : Type 0 where
  pub given : Given
  pub is_read : IsRead source ((is_stuck ≡ false) × (fault_in output_after ≡ None)) reader reader_after given
  pub added : Adds sink (text given) output output_after
  pub clear : is_stuck ≡ true → fault_in output_after ≡ None
  pub held : is_stuck ≡ true → WasHeld sink (text given) (writer_in output)

-- How many sources of those that are given were read: all, unless the output failed; where there was no memory for the
-- next performer fewer; and where the writer is stuck some.
abbrev pub Reaches : {T : Type 0} → Result T Stopped → Option Fault → (read given : ℕ) → Type 0
Reaches (Ok done) fault read given = fault ≡ None → read ≡ given
Reaches (Err NoMemory) fault read given = (fault ≡ None) × (read < given)
Reaches (Err Stuck) fault read given = (fault ≡ None) × (read ≤ given)
Reaches (Err (AtFault _)) fault read given = ⊥

-- Each source that was read was read whole, unless a write failed or the writer is stuck.
abbrev pub AreWhole : {T : Type 0} → Result T Stopped → Type 0
AreWhole (Err (AtFault Write)) = ⊥
AreWhole (Err Stuck) = ⊥
AreWhole _ = ⊤

-- The next source was begun, and there was no memory for its performer.
abbrev pub LacksMemory : {T : Type 0} → Result T Stopped → Type 0
LacksMemory (Err NoMemory) = ⊤
LacksMemory _ = ⊥

-- what holds where the writer is stuck
abbrev pub IfStuck : {T : Type 0} → Result T Stopped → Type 0 → Type 0
IfStuck (Err Stuck) Holds = Holds
IfStuck _ Holds = ⊤

-- Sources were read one after another, and their texts, joined, went to the output.
pub record AddsEach {R W T : Type 0} (source : SourceOf R) (sink : SinkOf W) (text : Given → List ℕ)
    (readers readers_after : List R) (output output_after : Output W) (answer : Result T Stopped) : Type 0 where
  pub given : List Given
  pub are_read : AreRead source (AreWhole answer × (fault_in output_after ≡ None)) (LacksMemory answer)
      readers readers_after given
  pub added : Adds sink (flat_map text given) output output_after
  pub reaches : Reaches answer (fault_in output_after) (length given) (length readers)
  pub held : IfStuck answer (WasHeld sink (flat_map text given) (writer_in output))

-- what stopped it, where the output failed
abbrev pub stopped_by : {T : Type 0} → Result T Fault → Result T Stopped
stopped_by (Ok done) = Ok done
stopped_by (Err fault) = Err (AtFault fault)

-- What is written by the answer: the head, the text of every source and the tail, also where a flush failed;
-- where a write failed, a proper prefix of that; where there was no memory for the next performer, the head and the
-- texts of the sources before it; and where the writer is stuck, the head and the texts of what was read.
abbrev pub WritesJoin : {T : Type 0} → Result T Stopped → (before after : Option (List ℕ)) → (head texts tail : List ℕ)
    → (read given : ℕ) → Type 0
WritesJoin (Ok done) before after head texts tail read given =
    Appends before after (head ++ (texts ++ tail)) × (read ≡ given)
WritesJoin (Err (AtFault Flush)) before after head texts tail read given =
    Appends before after (head ++ (texts ++ tail)) × (read ≡ given)
WritesJoin (Err (AtFault Write)) before after head texts tail read given =
    AppendsPrefix before after (head ++ (texts ++ tail))
WritesJoin (Err (AtFault Read)) before after head texts tail read given = ⊥
WritesJoin (Err NoMemory) before after head texts tail read given =
    Appends before after (head ++ texts) × (read < given)
WritesJoin (Err Stuck) before after head texts tail read given =
    Appends before after (head ++ texts) × (read ≤ given)

-- Why: with Ok the writer has failed only if it had before, with a fault it has failed.
abbrev pub StopsBy : {T : Type 0} → (failed failed_after : Bool) → Result T Stopped → Type 0
StopsBy failed failed_after (Ok done) = failed_after ≡ failed
StopsBy failed failed_after (Err (AtFault fault)) = IsTrue failed_after
StopsBy failed failed_after (Err NoMemory) = ⊤
StopsBy failed failed_after (Err Stuck) = ⊤

-- A run over sources: what each gave and the calls of what is read of it, what was written with a head and a tail
-- around it, and why no more was; where the writer is stuck, it held bytes back.
pub record WritesEach {R W T : Type 0} (source : SourceOf R) (sink : SinkOf W) (text : Given → List ℕ)
    (around : List ℕ × List ℕ) (readers readers_after : List R) (writer : W) (result : W × Result T Stopped)
    : Type 0 where
  pub given : List Given
  pub are_read : AreRead source (AreWhole result.1) (LacksMemory result.1) readers readers_after given
  pub written :
      WritesJoin result.1 (sink.contents writer) (sink.contents result.0) around.0 (flat_map text given) around.1
      (length given) (length readers)
  pub causes : StopsBy (sink.has_failed writer) (sink.has_failed result.0) result.1
  pub held : IfStuck result.1 (WasHeld sink (around.0 ++ flat_map text given) writer)
