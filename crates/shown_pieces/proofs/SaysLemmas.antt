-- What new performers write.
use Rattle.std.proofs.Common.{◌≡◌, ◌++◌, ℕ, List, [], Option, None, Some, filter, ap₂, ◌∙◌, append-nil}
use Rattle.std.specs.Prelude.{IfSome}
use Rattle.anstyle_parse.specs.Stream.Call.{Call}
use Rattle.ansi_html.specs.declared.scheme.Styling.{Styling}
use Rattle.ansi_html.specs.declared.performer.HtmlWriter.{HtmlWriter}
use Rattle.ansi_html.specs.declared.lines.LinesWriter.{LinesWriter}
use Rattle.ansi_html.specs.Html.{html}
use Rattle.ansi_html.specs.Lines.{lined_html}
use Rattle.ansi_html.specs.Writer as writer
use Rattle.ansi_html.specs.Liner as liner
use Rattle.ansi_html.proofs.WriterLemmas.{text_from-new, ending_from-new, lined_text_from-new, lined_ending_from-new}
use Rattle.ansi_screen.specs.After.{State}
use Rattle.ansi_style.specs.declared.style.Style.{Style}
use Rattle.ansi_style.specs.Style.{plain}
use Rattle.ansi_strip.specs.declared.inert.Inert.{Inert}
use Rattle.ansi_strip.specs.declared.performer.Stripper.{Stripper}
use Rattle.ansi_strip.specs.Inert.{is_inert, inert_text}
use Rattle.ansi_strip.specs.Strip.{stripped}
use Rattle.html_urls.specs.declared.linking.Linking.{Linking}
use Rattle.html_urls.specs.Linked.{at_start, linked}
use Rattle.html_urls.specs.Linker as linker
use Rattle.html_urls.specs.Resumed.{Resumes, html_after, lined_after}
use Rattle.html_urls.proofs.HtmlLemmas.{text-new, ending-new, lined_text-new, lined_ending-new, whole-html, whole-lined}
use Rattle.safe_text.specs.declared.marking.MarkingWriter.{MarkingWriter}
use Rattle.safe_text.specs.MarkingWriter as marking
use Rattle.safe_text.specs.MarkingProof.{marked-of_new, ending-of_new}
use Rattle.safe_text.specs.Marks as marks
use Rattle.safe_text.proofs.WholeLemmas.{encoded-then-safe}
use Rattle.screen_calls.specs.declared.rows.CallRows.{CallRows}
use Rattle.screen_calls.specs.Calls as calls
use Rattle.screen_calls.specs.Rows.{performer_in, hand_of}
use Rattle.screen_calls.specs.Writer.{standing_in, row_text, after_row, after_command, closing}
use Rattle.screen_calls.proofs.WrittenLemmas as shown
use Rattle.screen_text.specs.declared.performer.ShownWriter.{ShownWriter}
use Rattle.screen_text.specs.Writer.{rows_of, screen_of, text_from, ending_from}
use Rattle.without_hidden.specs.declared.performer.WithoutHidden.{WithoutHidden}
use Rattle.without_hidden.specs.Hidden.{without_hidden}
use Rattle.without_hidden.specs.Passing as hiding
use Rattle.shown_pieces.specs.Following.{Writes}
use Rattle.shown_pieces.specs.Shown.{IsTextOf}
use Rattle.shown_pieces.specs.Whole.{Says}

-- what is said of each that there may be
pub if-some : {A : Type 0} (P Q : A → Type 0) (one : Option A) → ((it : A) → P it → Q it) → IfSome one P → IfSome one Q
if-some P Q None leads is = tt
if-some P Q (Some it) leads is = leads it is

-- what is written is the text that a performer writes
pub said-text : {P : Type 0} (text_of ending_of : P → List Call → List ℕ) (performer : P) (said : List Call → List ℕ) → Says text_of ending_of performer said
    → (bytes written : List ℕ) → Writes (text_of performer) (ending_of performer) bytes written → IsTextOf said bytes written
said-text text_of ending_of performer said says bytes written (calls, are, whole) = (calls, are, whole ∙ says calls)

-- one that is given what a screen showed
pub says-shown : {P W : Type 0} {receives : P → List Call → P → Type 0} {text : P → List Call → List ℕ} {after : P → (calls more : List Call) → List ℕ}
    {ending : P → List Call → List ℕ} (goes_on : Resumes receives text after ending) (none : (performer : P) → receives performer [] performer)
    (it : ShownWriter (CallRows P W)) (rows : CallRows P W) (performer : P) (s : State) → rows_of it ≡ rows → performer_in rows ≡ performer
    → hand_of rows ≡ calls.at_start → screen_of it ≡ s → (said : List Call → List ℕ) → Says text ending performer said
    → Says (text_from (standing_in text ending) row_text after_row after_command) (ending_from (standing_in text ending) row_text after_row after_command closing)
    it (λ stream. said (calls.shown_calls s stream))
says-shown goes_on none it rows performer s rows_are performer_is hand_is screen_is said says = λ stream.
    ap₂ (λ l r. l ++ r) (shown.left-new goes_on none it rows performer s rows_are performer_is hand_is screen_is stream)
    (shown.ending-new goes_on none it rows performer s rows_are performer_is hand_is screen_is stream)
    ∙ shown.whole-new goes_on none it rows performer s rows_are performer_is hand_is screen_is stream
    ∙ says (calls.shown_calls s stream)

-- what it writes is the text of what was shown
pub shown-text : {P W : Type 0} {receives : P → List Call → P → Type 0} {text : P → List Call → List ℕ} {after : P → (calls more : List Call) → List ℕ}
    {ending : P → List Call → List ℕ} (goes_on : Resumes receives text after ending) (none : (performer : P) → receives performer [] performer)
    (it : ShownWriter (CallRows P W)) (rows : CallRows P W) (performer : P) (s : State) → rows_of it ≡ rows → performer_in rows ≡ performer
    → hand_of rows ≡ calls.at_start → screen_of it ≡ s → (said : List Call → List ℕ) → Says text ending performer said → (bytes written : List ℕ)
    → Writes (text_from (standing_in text ending) row_text after_row after_command it) (ending_from (standing_in text ending) row_text after_row after_command closing it) bytes written
    → IsTextOf (λ stream. said (calls.shown_calls s stream)) bytes written
shown-text goes_on none it rows performer s rows_are performer_is hand_is screen_is said says bytes written (stream, are, whole) = (
  stream,
  are,
  whole ∙ says-shown goes_on none it rows performer s rows_are performer_is hand_is screen_is said says stream,
)

-- one before which hidden text is left out
pub says-kept : {P : Type 0} (text ending : P → List Call → List ℕ) (it : WithoutHidden P) (performer : P) → hiding.performer_in it ≡ performer
    → hiding.style_in it ≡ plain → (said : List Call → List ℕ) → Says text ending performer said
    → Says (λ (h : WithoutHidden P) stream. text (hiding.performer_in h) (without_hidden (hiding.style_in h) stream))
    (λ h stream. ending (hiding.performer_in h) (without_hidden (hiding.style_in h) stream)) it (λ stream. said (without_hidden plain stream))
says-kept text ending it performer performer_is style_is said says = λ stream.
    ap₂ (λ p (s : Style). text p (without_hidden s stream) ++ ending p (without_hidden s stream)) performer_is style_is
    ∙ says (without_hidden plain stream)

-- new writers of text and of safe text
pub says-inert : {W : Type 0} (it : Inert (Stripper W)) → Says (λ (i : Inert (Stripper W)) stream. stripped (filter is_inert stream)) (λ i stream. []) it inert_text
says-inert it = λ stream. append-nil (inert_text stream)

pub says-marked : {W : Type 0} (it : MarkingWriter W) → marking.IsNewMarking it → Says marking.text_from marking.ending_from it marks.safe_marked
says-marked it new = λ stream.
    ap₂ (λ l r. l ++ r) (marked-of_new it new stream) (ending-of_new it new stream)
    ∙ encoded-then-safe 0 (marks.marked_from marks.nothing_hidden stream) (marks.closing (marks.hiding_from marks.nothing_hidden stream))

-- new writers of HTML
module _ {W : Type 0} (styling : Styling) where
  pub says-html : (performer : HtmlWriter W) → writer.IsNew styling performer → Says writer.text_from writer.ending_from performer (html styling)
  says-html performer new = λ stream. ap₂ (λ l r. l ++ r) (text_from-new styling performer new stream) (ending_from-new styling performer new stream)

  pub says-lined : (performer : LinesWriter W) → liner.IsNew styling performer → Says liner.text_from liner.ending_from performer (lined_html styling)
  says-lined performer new = λ stream. ap₂ (λ l r. l ++ r) (lined_text_from-new styling performer new stream) (lined_ending_from-new styling performer new stream)

  -- whose addresses are links
  pub says-linked : (it : Linking (HtmlWriter W)) → linker.standing_of it ≡ at_start → writer.IsNew styling (linker.performer_in it)
      → Says (linker.text_from writer.text_from) (linker.ending_from html_after writer.ending_from) it (λ stream. html styling (linked stream))
  says-linked it first new = λ stream. ap₂ (λ l r. l ++ r) (text-new styling it first new stream) (ending-new styling it first new stream) ∙ whole-html styling stream

  pub says-linked-lines : (it : Linking (LinesWriter W)) → linker.standing_of it ≡ at_start → liner.IsNew styling (linker.performer_in it)
      → Says (linker.text_from liner.text_from) (linker.ending_from lined_after liner.ending_from) it (λ stream. lined_html styling (linked stream))
  says-linked-lines it first new = λ stream. ap₂ (λ l r. l ++ r) (lined_text-new styling it first new stream) (lined_ending-new styling it first new stream) ∙ whole-lined styling stream
