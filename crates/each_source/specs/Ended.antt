-- How the reading of a source came to an end, and where its last sequence begins.
use Rattle.std.specs.Prelude.{◌≡◌, ◌≢◌, ℕ, Bool, true, false, List, [], ◌∷◌, ◌++◌, length, Option, None, IsTrue, IfSome, IfNone}
use Rattle.std.specs.List.{AllByRecursion}
use Rattle.std.specs.Io.KnownBytes.{Consumes, IsAtEnd}
use Rattle.anstyle_parse.specs.declared.accumulator.Utf8Parser.{Utf8Parser}
use Rattle.anstyle_parse.specs.declared.io.devices.Sink.{Ghosts as SinkOf}
use Rattle.anstyle_parse.specs.declared.io.devices.Source.{Ghosts as SourceOf}
use Rattle.anstyle_parse.specs.declared.io.output.Output.{Output}
use Rattle.anstyle_parse.specs.declared.parser.Parser.{Parser}
use Rattle.anstyle_parse.specs.Io.Output.{writer_in, fault_in, HoldsBack}
use Rattle.anstyle_parse.specs.Machine.AsRead.{as_read}
use Rattle.anstyle_parse.specs.Stream.Call.{Call}
use Rattle.anstyle_parse.specs.Stream.Calls.{AreCalls}
use Rattle.anstyle_parse.specs.Stream.Texts.{HasReceivedTexts}
use Rattle.anstyle_parse.specs.Views.Accumulator.{front_of}
use Rattle.anstyle_parse.specs.Views.Parser.{IsAfter}
use Rattle.each_source.specs.declared.one_source.Ended.{Ended}
use Rattle.each_source.specs.declared.one_source.Reached.{Reached}
use Rattle.each_source.specs.declared.one_source.Reached.TheVariants.{Middle, End, Failure}
use Rattle.each_source.specs.Each.{HasEnded, text_read}
use Rattle.each_source.specs.declared.one_source.Ended.TheVariants.{Stuck}

-- whether what the writer holds back can't be passed on
abbrev pub is_stuck : Ended → Bool
is_stuck Stuck = true
is_stuck _ = false

-- How far a source is read whose front had to be seen: as far as that says which performer its stream has; to its end;
-- or up to a read that failed.
abbrev pub IsUpTo : {R : Type 0} → SourceOf R → (enough : List ℕ → Bool) → R → (front : List ℕ) → Reached → Type 0
IsUpTo source enough reader front Middle = enough front ≡ true
IsUpTo source enough reader front End = IsTrue source.zero_is_end → IsAtEnd (source.remaining reader)
IsUpTo source enough reader front Failure = IsTrue (source.has_failed reader)

-- whether no more comes
abbrev pub is_over : Reached → Bool
is_over Middle = false
is_over _ = true

-- A piece went to a parser, and its calls to a performer. Where the answer is why no more is to be read, a fault is
-- kept, or the writer is stuck and holds bytes back, and else no fault is.
pub record GivesOn {W P : Type 0} (sink : SinkOf W) (receives : P → List Call → P → Type 0) (output_of : P → Output W)
    (parser : Parser Utf8Parser) (performer : P) (piece : List ℕ)
    (parser_after : Parser Utf8Parser) (performer_after : P)
    (stopped : Option Ended) : Type 0 where
  pub received : (first : P) (before : List ℕ) → IsAfter front_of parser (as_read before)
      → HasReceivedTexts receives first (as_read before) performer
      → HasReceivedTexts receives first (as_read (before ++ piece)) performer_after
  pub stands : (before : List ℕ) → IsAfter front_of parser (as_read before)
      → IsAfter front_of parser_after (as_read (before ++ piece))
  pub clear : IfNone stopped (fault_in (output_of performer_after) ≡ None)
  pub over : IfSome stopped (λ ended. is_stuck ended ≡ false → fault_in (output_of performer_after) ≢ None)
  pub held : IfSome stopped
      (λ ended. is_stuck ended ≡ true → HoldsBack sink (writer_in (output_of performer_after)))

-- A new parser was given the front of a stream and what the source gave then, and its performer received the calls of
-- what is read of that. Unless the writer is stuck or a fault is kept, the source has ended; where it is stuck it holds
-- bytes back.
pub record Reads {R W P : Type 0} (source : SourceOf R) (sink : SinkOf W) (receives : P → List Call → P → Type 0)
    (output_of : P → Output W) (front : List ℕ) (reached : Reached) (reader reader_after : R)
    (performer performer_after : P) (is_stuck : Bool) : Type 0 where
  pub rest : List ℕ
  pub at_end : Bool
  pub calls : List Call
  pub consumed : Consumes (source.remaining reader) (source.remaining reader_after) rest
  pub are_calls : AreCalls (text_read at_end (front ++ rest)) calls
  pub received : receives performer calls performer_after
  pub untouched : is_over reached ≡ true → (rest ≡ []) × (reader_after ≡ reader)
  pub ended : is_stuck ≡ false → fault_in (output_of performer_after) ≡ None
      → IsTrue at_end × (is_over reached ≡ false → HasEnded source reader_after (length (front ++ rest)))
  pub held : is_stuck ≡ true → HoldsBack sink (writer_in (output_of performer_after))

-- none of the bytes is ESC, with which each sequence begins
abbrev pub HasNoEscape : List ℕ → Type 0
HasNoEscape bytes = AllByRecursion (λ b. b ≢ 0x1B) bytes

-- ESC stands at a place of the list, and nowhere after it
abbrev pub IsLastEscape : ℕ → List ℕ → Type 0
IsLastEscape place bytes =
    (before : List ℕ) × (after : List ℕ) × (bytes ≡ before ++ 0x1B ∷ after) × (length before ≡ place) × HasNoEscape after
