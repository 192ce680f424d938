-- What a writer of HTML in lines shows, and what a call does to it.
use Rattle.std.specs.Prelude.{◌≡◌, ℕ, List}
use Rattle.anstyle_parse.specs.declared.io.devices.Sink.{Ghosts as SinkOf}
use Rattle.anstyle_parse.specs.declared.io.output.Output.{Output}
use Rattle.anstyle_parse.specs.Stream.Call.{Call}
use Rattle.anstyle_parse.specs.Io.Output.{Adds}
use Rattle.ansi_html.specs.declared.scheme.Styling.{Styling}
use Rattle.ansi_html.specs.declared.lines.LinesWriter.{LinesWriter}
use Rattle.ansi_html.specs.Affordable.{earned}
use Rattle.ansi_html.specs.Lines.{Lined, lined, lined_at_start, lined_call, lined_after, lined_from, lined_at_end, lined_end}
use Rattle.ansi_html.specs.Writer as writer

-- the output that it writes to; how it says a style; where it stands
abbrev pub output_of : {W : Type 0} → LinesWriter W → Output W
output_of performer = writer.output_of performer.html

abbrev pub styling_of : {W : Type 0} → LinesWriter W → Styling
styling_of performer = writer.styling_of performer.html

abbrev pub lined_of : {W : Type 0} → LinesWriter W → Lined
lined_of performer =
    lined (writer.standing_of performer.html) performer.number performer.is_open
    (earned performer.pending performer.spare)

-- at the start, in this styling
pub record IsNew {W : Type 0} (wanted : Styling) (performer : LinesWriter W) : Type 0 where
  pub styling : styling_of performer ≡ wanted
  pub standing : lined_of performer ≡ lined_at_start

-- what it writes by a list of calls, as it stands; and what ends the elements that are then open
abbrev pub text_from : {W : Type 0} → LinesWriter W → List Call → List ℕ
text_from performer calls = lined_from (styling_of performer) (lined_of performer) calls

abbrev pub ending_from : {W : Type 0} → LinesWriter W → List Call → List ℕ
ending_from performer calls = lined_end (lined_at_end (lined_of performer) calls)

-- A call selects a style or a link, or its text is written.
pub record TakesCall {W : Type 0} (sink : SinkOf W)
    (old : LinesWriter W) (call : Call) (new : LinesWriter W) : Type 0 where
  pub styling : styling_of new ≡ styling_of old
  pub standing : lined_of new ≡ lined_after call (lined_of old)
  pub added : Adds sink (lined_call (styling_of old) (lined_of old) call) (output_of old) (output_of new)

-- The calls, one after another.
pub record TakesCalls {W : Type 0} (sink : SinkOf W)
    (old : LinesWriter W) (calls : List Call) (new : LinesWriter W) : Type 0 where
  pub styling : styling_of new ≡ styling_of old
  pub standing : lined_of new ≡ lined_at_end (lined_of old) calls
  pub added : Adds sink (text_from old calls) (output_of old) (output_of new)
