-- A screen that follows a log.
use Rattle.std.specs.Prelude.{◌≡◌, ℕ, List, [], None}
use Rattle.std.specs.declared.alloc.Global.{Global}
use Rattle.std.specs.declared.vec.Vec.{Vec}
use Rattle.anstyle_parse.specs.declared.io.devices.FromWrite.{FromWrite}
use Rattle.anstyle_parse.specs.declared.io.devices.Sink.{Ghosts as SinkOf}
use Rattle.anstyle_parse.specs.declared.io.output.Output.{Output}
use Rattle.anstyle_parse.specs.Io.Devices.{writer_of}
use Rattle.anstyle_parse.specs.Io.Output.{writer_in, fault_in}
use Rattle.anstyle_parse.specs.Stream.Call.{Call}
use Rattle.ansi_html.specs.declared.scheme.Styling.{Styling}
use Rattle.ansi_screen.specs.declared.cell.Cell.{Cell}
use Rattle.screen_text.specs.declared.performer.ShownWriter.{ShownWriter}
use Rattle.screen_text.specs.declared.recording.ShownSize.{ShownSize}
use Rattle.screen_text.specs.declared.rows.TextRows.{TextRows}
use Rattle.screen_text.specs.Lines as text
use Rattle.screen_text.specs.Recording.{screen_for}
use Rattle.screen_text.specs.Shown.{given_all, left_text, ending_text}
use Rattle.screen_text.specs.Writer.{rows_of, text_from, ending_from, Shows}
use Rattle.screen_safe.specs.declared.rows.SafeRows.{SafeRows}
use Rattle.screen_safe.specs.Shown.{safe_left, safe_ending}
use Rattle.screen_safe.specs.Writer as safe
use Rattle.screen_html.specs.declared.rows.HtmlRows.{HtmlRows}
use Rattle.screen_html.specs.Shown.{left_html, ending_html}
use Rattle.screen_html.specs.Writer as html
use Rattle.shown_pieces.specs.declared.how.Form.{Form}
use Rattle.shown_pieces.specs.declared.how.Form.TheVariants.{Text, Safe, Html}
use Rattle.shown_pieces.specs.declared.running.Running.{Running}
use Rattle.shown_pieces.specs.declared.running.Running.TheVariants.{AsText, AsSafe, AsHtml}
use Rattle.shown_pieces.specs.Following.{Follows}

-- bytes that are written to memory
abbrev pub Memory : Type 0
Memory = FromWrite (Vec ℕ Global)

-- Nothing was written to it, and no write has failed.
pub record IsEmpty (output : Output Memory) : Type 0 where
  pub no_fault : fault_in output ≡ None
  pub empty : (writer_of (writer_in output)).items ≡ []

-- It writes this text by calls, and this ending after them, to memory that is empty.
pub record IsAtStart {R S : Type 0} (output_in : R → Output Memory) (standing_in : R → S)
    (row_text : S → List Cell → List ℕ) (after_row : S → List Cell → S)
    (after_command : S → ℕ → List (List ℕ) → S) (closing : S → List ℕ)
    (left last : List Call → List ℕ) (first : ShownWriter R) : Type 0 where
  pub output : IsEmpty (output_in (rows_of first))
  pub text : (calls : List Call) → text_from standing_in row_text after_row after_command first calls ≡ left calls
  pub ending : (calls : List Call)
      → ending_from standing_in row_text after_row after_command closing first calls ≡ last calls

module _ (sink : SinkOf Memory) where
  -- what lists of calls do to the writers of the three forms
  abbrev pub text_receives : ShownWriter (TextRows Memory) → List Call → ShownWriter (TextRows Memory) → Type 0
  text_receives old calls new =
      Shows (text.TakesRow sink) (text.TakesCommand sink) (text.PassesOn sink) old (given_all calls) new

  abbrev pub safe_receives : ShownWriter (SafeRows Memory) → List Call → ShownWriter (SafeRows Memory) → Type 0
  safe_receives old calls new =
      Shows (safe.TakesRow sink) (safe.TakesCommand sink) (safe.PassesOn sink) old (given_all calls) new

  abbrev pub html_receives : ShownWriter (HtmlRows Memory) → List Call → ShownWriter (HtmlRows Memory) → Type 0
  html_receives old calls new =
      Shows (html.TakesRow sink) (html.TakesCommand sink) (html.PassesOn sink) old (given_all calls) new

  -- The screen for this whole log has received these bytes of it, and was blank before, with nothing written; and it
  -- writes in this form.
  abbrev pub IsShowing : ShownSize → Form → (whole bytes : List ℕ) → Running → Type 0
  IsShowing size form whole bytes (AsText following) =
      (form ≡ Text) × (first : ShownWriter (TextRows Memory))
      × IsAtStart text.output_of text.is_open text.row_text_at text.after_row text.after_command text.closing
      (left_text (screen_for size whole)) (ending_text (screen_for size whole)) first
      × Follows text_receives first bytes following
  IsShowing size form whole bytes (AsSafe following) =
      (form ≡ Safe) × (first : ShownWriter (SafeRows Memory))
      × IsAtStart safe.output_of safe.standing_of safe.row_safe safe.after_row safe.after_command safe.closing_safe
      (safe_left (screen_for size whole)) (safe_ending (screen_for size whole)) first
      × Follows safe_receives first bytes following
  IsShowing size form whole bytes (AsHtml following) =
      (styling : Styling) × (form ≡ Html styling) × (first : ShownWriter (HtmlRows Memory))
      × IsAtStart html.output_of html.standing_of html.row_html html.after_row html.after_command html.closing_html
      (left_html styling (screen_for size whole)) (ending_html styling (screen_for size whole)) first
      × Follows html_receives first bytes following
