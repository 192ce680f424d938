-- What is written of a whole log is what the screen showed of it, in its form.
use Rattle.std.proofs.Common.{◌≡◌, ◌++◌, ℕ, List, [], true, Option, None, Some, sym, ap, ap₂, ◌∙◌, subst}
use Rattle.std.specs.Prelude.{◌⊎◌, IfSome}
use Rattle.std.specs.declared.alloc.Global.{Global}
use Rattle.std.specs.declared.vec.Vec.{Vec}
use Rattle.anstyle_parse.specs.declared.io.output.Output.{Output}
use Rattle.anstyle_parse.specs.Io.Devices.{writer_of}
use Rattle.anstyle_parse.specs.Io.Output.{writer_in, fault_in}
use Rattle.anstyle_parse.specs.Stream.Call.{Call}
use Rattle.anstyle_parse.specs.declared.io.devices.Sink.{Ghosts as SinkOf}
use Rattle.screen_text.specs.declared.performer.ShownWriter.{ShownWriter}
use Rattle.screen_text.specs.declared.recording.ShownSize.{ShownSize}
use Rattle.screen_text.specs.declared.rows.TextRows.{TextRows}
use Rattle.screen_text.specs.Lines as text
use Rattle.screen_text.specs.Recording.{is_decided, screen_for}
use Rattle.screen_text.specs.Writer.{rows_of, text_from, ending_from}
use Rattle.screen_safe.specs.declared.rows.SafeRows.{SafeRows}
use Rattle.screen_safe.specs.Writer as safe
use Rattle.screen_html.specs.declared.rows.HtmlRows.{HtmlRows}
use Rattle.screen_html.specs.Writer as html
use Rattle.shown_pieces.specs.declared.how.Form.{Form}
use Rattle.shown_pieces.specs.declared.following.Following.{Following}
use Rattle.shown_pieces.specs.declared.how.Form.TheVariants.{Text, Safe, Html}
use Rattle.shown_pieces.specs.declared.running.Running.{Running}
use Rattle.shown_pieces.specs.declared.running.Running.TheVariants.{AsText, AsSafe, AsHtml}
use Rattle.shown_pieces.specs.Following.{Follows, Writes}
use Rattle.shown_pieces.specs.Running.{Memory, IsEmpty, IsShowing, text_receives, safe_receives, html_receives}
use Rattle.shown_pieces.specs.Shown.{left_as, ending_as, IsShownByRows}

pub is-shown : (size : ShownSize) (form its_form : Form) (bytes written : List ℕ) (text ending : List Call → List ℕ) → form ≡ its_form
    → ((calls : List Call) → text calls ≡ left_as its_form (screen_for size bytes) calls)
    → ((calls : List Call) → ending calls ≡ ending_as its_form (screen_for size bytes) calls)
    → Writes text ending bytes written → IsShownByRows size form bytes written
is-shown size form its_form bytes written text ending is texts endings writes =
    let (calls, are, whole) = writes in (
      calls,
      are,
      whole ∙ (ap₂ (λ l e. l ++ e) (texts calls) (endings calls)
          ∙ ap (λ f. left_as f (screen_for size bytes) calls ++ ending_as f (screen_for size bytes) calls) (sym is)),
    )

-- what is said of a text that there may be
pub shown-by : {P : Type 0} (receives : P → List Call → P → Type 0) (output_in : P → Output Memory) (text_from ending_from : P → List Call → List ℕ)
    (following : Following P) (found : Option (Vec ℕ Global)) (Showing : ShownSize → Form → List ℕ → Type 0)
    → ((size : ShownSize) (form : Form) (bytes : List ℕ) → Showing size form bytes
    → (its_form : Form) × (form ≡ its_form) × (first : P) × IsEmpty (output_in first)
    × ((calls : List Call) → text_from first calls ≡ left_as its_form (screen_for size bytes) calls)
    × ((calls : List Call) → ending_from first calls ≡ ending_as its_form (screen_for size bytes) calls)
    × Follows receives first bytes following)
    → IfSome found (λ text. (first : P) (bytes : List ℕ) → fault_in (output_in first) ≡ None → (writer_of (writer_in (output_in first))).items ≡ []
    → Follows receives first bytes following → Writes (text_from first) (ending_from first) bytes text.items)
    → IfSome found (λ text. (size : ShownSize) (form : Form) (bytes : List ℕ) → Showing size form bytes → IsShownByRows size form bytes text.items)
shown-by receives output_in text_from ending_from following None Showing opens writes = tt
shown-by receives output_in text_from ending_from following (Some text) Showing opens writes = λ size form bytes showing.
    let (its_form, is, first, start, texts, endings, follows) = opens size form bytes showing in
    is-shown size form its_form bytes text.items (text_from first) (ending_from first) is texts endings
    (writes first bytes start.no_fault start.empty follows)

-- What a performer that follows a log has written of it, once it has ended.
abbrev WritesAll : {P : Type 0} → (P → List Call → P → Type 0) → (P → Output Memory) → (P → List Call → List ℕ) → (P → List Call → List ℕ)
    → Following P → Option (Vec ℕ Global) → Type 0
WritesAll {P} receives output_in text_of ending_of following found =
    IfSome found (λ text. (first : P) (bytes : List ℕ) → fault_in (output_in first) ≡ None → (writer_of (writer_in (output_in first))).items ≡ []
    → Follows receives first bytes following → Writes (text_of first) (ending_of first) bytes text.items)

-- What a screen has shown of it.
abbrev ShowsAll : SinkOf Memory → Running → Option (Vec ℕ Global) → Type 0
ShowsAll sink running found =
    IfSome found (λ text. (size : ShownSize) (form : Form) (bytes : List ℕ) → IsShowing sink size form bytes bytes running → IsShownByRows size form bytes text.items)

-- It takes the next bytes.
abbrev TakesOn : SinkOf Memory → List ℕ → (running next : Running) → Type 0
TakesOn sink piece running next =
    (size : ShownSize) (form : Form) (whole before : List ℕ) → IsShowing sink size form whole before running → IsShowing sink size form whole (before ++ piece) next

module _ (sink : SinkOf Memory) where
  pub text-shown : (running : Running) (following : Following (ShownWriter (TextRows Memory))) (found : Option (Vec ℕ Global)) → running ≡ AsText following
      → WritesAll (text_receives sink) (λ p. text.output_of (rows_of p)) (text_from text.is_open text.row_text_at text.after_row text.after_command)
      (ending_from text.is_open text.row_text_at text.after_row text.after_command text.closing) following found
      → ShowsAll sink running found
  text-shown running following found is writes =
      shown-by (text_receives sink) (λ p. text.output_of (rows_of p)) (text_from text.is_open text.row_text_at text.after_row text.after_command)
      (ending_from text.is_open text.row_text_at text.after_row text.after_command text.closing) following found
      (λ size form bytes. IsShowing sink size form bytes bytes running)
      (λ size form bytes showing.
      let (form_is, first, start, follows) = subst (λ (r : Running). IsShowing sink size form bytes bytes r) is showing in
      (Text, form_is, first, start.output, start.text, start.ending, follows)) writes

  pub safe-shown : (running : Running) (following : Following (ShownWriter (SafeRows Memory))) (found : Option (Vec ℕ Global)) → running ≡ AsSafe following
      → WritesAll (safe_receives sink) (λ p. safe.output_of (rows_of p)) (text_from safe.standing_of safe.row_safe safe.after_row safe.after_command)
      (ending_from safe.standing_of safe.row_safe safe.after_row safe.after_command safe.closing_safe) following found
      → ShowsAll sink running found
  safe-shown running following found is writes =
      shown-by (safe_receives sink) (λ p. safe.output_of (rows_of p)) (text_from safe.standing_of safe.row_safe safe.after_row safe.after_command)
      (ending_from safe.standing_of safe.row_safe safe.after_row safe.after_command safe.closing_safe) following found
      (λ size form bytes. IsShowing sink size form bytes bytes running)
      (λ size form bytes showing.
      let (form_is, first, start, follows) = subst (λ (r : Running). IsShowing sink size form bytes bytes r) is showing in
      (Safe, form_is, first, start.output, start.text, start.ending, follows)) writes

  pub html-shown : (running : Running) (following : Following (ShownWriter (HtmlRows Memory))) (found : Option (Vec ℕ Global)) → running ≡ AsHtml following
      → WritesAll (html_receives sink) (λ p. html.output_of (rows_of p)) (text_from html.standing_of html.row_html html.after_row html.after_command)
      (ending_from html.standing_of html.row_html html.after_row html.after_command html.closing_html) following found
      → ShowsAll sink running found
  html-shown running following found is writes =
      shown-by (html_receives sink) (λ p. html.output_of (rows_of p)) (text_from html.standing_of html.row_html html.after_row html.after_command)
      (ending_from html.standing_of html.row_html html.after_row html.after_command html.closing_html) following found
      (λ size form bytes. IsShowing sink size form bytes bytes running)
      (λ size form bytes showing.
      let (styling, form_is, first, start, follows) = subst (λ (r : Running). IsShowing sink size form bytes bytes r) is showing in
      (Html styling, form_is, first, start.output, start.text, start.ending, follows)) writes

  pub text-taken : (piece : List ℕ) (running : Running) (old new : Following (ShownWriter (TextRows Memory))) → running ≡ AsText old
      → ((first : ShownWriter (TextRows Memory)) (before : List ℕ) → Follows (text_receives sink) first before old → Follows (text_receives sink) first (before ++ piece) new)
      → TakesOn sink piece running (AsText new)
  text-taken piece running old new is takes = λ size form whole before showing.
      let (form_is, first, start, follows) = subst (λ (r : Running). IsShowing sink size form whole before r) is showing in
      (form_is, first, start, takes first before follows)

  pub safe-taken : (piece : List ℕ) (running : Running) (old new : Following (ShownWriter (SafeRows Memory))) → running ≡ AsSafe old
      → ((first : ShownWriter (SafeRows Memory)) (before : List ℕ) → Follows (safe_receives sink) first before old → Follows (safe_receives sink) first (before ++ piece) new)
      → TakesOn sink piece running (AsSafe new)
  safe-taken piece running old new is takes = λ size form whole before showing.
      let (form_is, first, start, follows) = subst (λ (r : Running). IsShowing sink size form whole before r) is showing in
      (form_is, first, start, takes first before follows)

  pub html-taken : (piece : List ℕ) (running : Running) (old new : Following (ShownWriter (HtmlRows Memory))) → running ≡ AsHtml old
      → ((first : ShownWriter (HtmlRows Memory)) (before : List ℕ) → Follows (html_receives sink) first before old → Follows (html_receives sink) first (before ++ piece) new)
      → TakesOn sink piece running (AsHtml new)
  html-taken piece running old new is takes = λ size form whole before showing.
      let (styling, form_is, first, start, follows) = subst (λ (r : Running). IsShowing sink size form whole before r) is showing in
      (styling, form_is, first, start, takes first before follows)

  -- the bytes by which the size was decided are the first that it takes
  pub begun-taken : (size : ShownSize) (form : Form) (front : List ℕ) (running : Running) (found : Option Running)
      → ((rest : List ℕ) → (is_decided size front ≡ true) ⊎ (rest ≡ []) → IsShowing sink size form (front ++ rest) [] running)
      → IfSome found (λ next. TakesOn sink front running next)
      → IfSome found (λ next. (rest : List ℕ) → (is_decided size front ≡ true) ⊎ (rest ≡ []) → IsShowing sink size form (front ++ rest) front next)
  begun-taken size form front running None begins takes = tt
  begun-taken size form front running (Some next) begins takes = λ rest ways. takes size form (front ++ rest) [] (begins rest ways)
