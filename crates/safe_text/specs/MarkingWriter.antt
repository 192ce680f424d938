-- What a writer of safe text that marks hidden text shows, and what calls do to it.
use Rattle.std.specs.Str.{encode_utf8_all}
use Rattle.std.specs.Prelude.{◌≡◌, ℕ, Bool, List, ◌++◌}
use Rattle.anstyle_parse.specs.declared.io.devices.Sink.{Ghosts as SinkOf}
use Rattle.anstyle_parse.specs.declared.io.output.Output.{Output}
use Rattle.anstyle_parse.specs.Stream.Call.{Call}
use Rattle.ansi_style.specs.declared.style.Style.{Style}
use Rattle.safe_text.specs.declared.performer.SafeWriter.{SafeWriter}
use Rattle.safe_text.specs.declared.marking.MarkingWriter.{MarkingWriter}
use Rattle.safe_text.specs.Safe.{safe_from}
use Rattle.safe_text.specs.Decided.{waiting, last_from}
use Rattle.safe_text.specs.Marks.{Hiding, nothing_hidden, marked_from, hiding_from, closing}
use Rattle.safe_text.specs.Writer.{output_of, before_in, held_in, text_by, IsNew, Takes}

-- the writer of safe text that it writes by; the style of the text that comes next; whether hidden text is open
abbrev pub writer_in : {W : Type 0} → MarkingWriter W → SafeWriter W
writer_in performer = performer.writer

abbrev pub style_in : {W : Type 0} → MarkingWriter W → Style
style_in performer = performer.style

abbrev pub open_in : {W : Type 0} → MarkingWriter W → Bool
open_in performer = performer.is_open

abbrev pub hiding_in : {W : Type 0} → MarkingWriter W → Hiding
hiding_in performer = record { style = style_in performer; is_open = open_in performer }

abbrev pub output_in : {W : Type 0} → MarkingWriter W → Output W
output_in performer = output_of (writer_in performer)

-- nothing is written, and nothing is hidden
pub record IsNewMarking {W : Type 0} (performer : MarkingWriter W) : Type 0 where
  pub writer : IsNew (writer_in performer)
  pub hiding : hiding_in performer ≡ nothing_hidden

-- what it writes by calls, as it stands, and what is then to be written at the end
abbrev pub text_from : {W : Type 0} → MarkingWriter W → List Call → List ℕ
text_from performer calls = text_by (writer_in performer) (marked_from (hiding_in performer) calls)

-- the characters that wait and those of calls
abbrev pub all_from : {W : Type 0} → MarkingWriter W → List Call → List ℕ
all_from performer calls = held_in (writer_in performer) ++ marked_from (hiding_in performer) calls

abbrev pub ending_from : {W : Type 0} → MarkingWriter W → List Call → List ℕ
ending_from performer calls =
    encode_utf8_all (safe_from (last_from (before_in (writer_in performer)) (all_from performer calls))
    (waiting (all_from performer calls) ++ closing (hiding_from (hiding_in performer) calls)))

-- The calls come: their characters are taken, with the marks between them.
pub record TakesMarked {W : Type 0} (sink : SinkOf W) (old : MarkingWriter W) (calls : List Call)
    (new : MarkingWriter W) : Type 0 where
  pub taken : Takes sink (writer_in old) (marked_from (hiding_in old) calls) (writer_in new)
  pub hiding : hiding_in new ≡ hiding_from (hiding_in old) calls
