-- What writers of HTML and of text write by more calls, after some.
use Rattle.std.specs.Prelude.{◌≡◌, ℕ, List, ◌++◌, filter}
use Rattle.std.specs.Str.{encode_utf8_all}
use Rattle.anstyle_parse.specs.Stream.Call.{Call}
use Rattle.ansi_strip.specs.declared.inert.Inert.{Inert}
use Rattle.ansi_strip.specs.declared.performer.Stripper.{Stripper}
use Rattle.ansi_strip.specs.Inert.{is_inert}
use Rattle.ansi_strip.specs.Passing.{performer_in as inert_performer}
use Rattle.ansi_strip.specs.Strip.{stripped}
use Rattle.ansi_html.specs.declared.performer.HtmlWriter.{HtmlWriter}
use Rattle.ansi_html.specs.declared.lines.LinesWriter.{LinesWriter}
use Rattle.ansi_html.specs.Html.{html_from, standing_at_end}
use Rattle.ansi_html.specs.Lines.{lined_from, lined_at_end}
use Rattle.ansi_html.specs.Writer as writer
use Rattle.ansi_html.specs.Liner as liner
use Rattle.ansi_html.specs.declared.blocks.BlocksWriter.{BlocksWriter}
use Rattle.ansi_html.specs.Blocks.{blocked_from, blocked_at_end}
use Rattle.ansi_html.specs.Blocker as blocker
use Rattle.safe_text.specs.declared.marking.MarkingWriter.{MarkingWriter}
use Rattle.safe_text.specs.Decided.{decided_from, waiting, last_from}
use Rattle.safe_text.specs.Marks.{marked_from, hiding_from}
use Rattle.safe_text.specs.MarkingWriter.{writer_in, hiding_in, all_from}
use Rattle.safe_text.specs.Writer.{before_in}
use Rattle.without_hidden.specs.declared.performer.WithoutHidden.{WithoutHidden}
use Rattle.without_hidden.specs.Hidden.{without_hidden, style_from}
use Rattle.without_hidden.specs.Passing.{performer_in, style_in}

-- A performer goes on: what it writes of more calls, after some, is what it writes of them as it then stands, with the
-- ending of all calls; and the one after the other is what it writes of all calls.
pub record Resumes {P : Type 0} (receives : P → List Call → P → Type 0) (written : P → List Call → List ℕ)
    (after : P → (calls more : List Call) → List ℕ) (ending : P → List Call → List ℕ) : Type 0 where
  pub same_text : (old : P) (calls : List Call) (new : P) → receives old calls new
      → (more : List Call) → written new more ≡ after old calls more
  pub same_ending : (old : P) (calls : List Call) (new : P) → receives old calls new
      → (more : List Call) → ending new more ≡ ending old (calls ++ more)
  pub joined : (performer : P) (calls more : List Call)
      → written performer calls ++ after performer calls more ≡ written performer (calls ++ more)

abbrev pub html_after : {W : Type 0} → HtmlWriter W → (calls more : List Call) → List ℕ
html_after performer calls more =
    html_from (writer.styling_of performer) (standing_at_end (writer.standing_of performer) calls) more

abbrev pub lined_after : {W : Type 0} → LinesWriter W → (calls more : List Call) → List ℕ
lined_after performer calls more =
    lined_from (liner.styling_of performer) (lined_at_end (liner.lined_of performer) calls) more

abbrev pub blocked_after : {W : Type 0} → BlocksWriter W → (calls more : List Call) → List ℕ
blocked_after performer calls more =
    blocked_from (blocker.numbered_of performer) (blocker.styling_of performer)
    (blocked_at_end (blocker.numbered_of performer) (blocker.blocked_of performer) calls) more

abbrev pub shown_after : {P : Type 0} → (P → (calls more : List Call) → List ℕ) → WithoutHidden P
    → (calls more : List Call) → List ℕ
shown_after written_after it calls more =
    written_after (performer_in it) (without_hidden (style_in it) calls)
    (without_hidden (style_from (style_in it) calls) more)

abbrev pub stripped_after : {W : Type 0} → Stripper W → (calls more : List Call) → List ℕ
stripped_after performer calls more = stripped more

abbrev pub inert_after : {P : Type 0} → (P → (calls more : List Call) → List ℕ) → Inert P
    → (calls more : List Call) → List ℕ
inert_after written_after it calls more =
    written_after (inert_performer it) (filter is_inert calls) (filter is_inert more)

-- of safe text what was not decided by the calls before, and is by these
abbrev pub marked_after : {W : Type 0} → MarkingWriter W → (calls more : List Call) → List ℕ
marked_after performer calls more =
    encode_utf8_all (decided_from (last_from (before_in (writer_in performer)) (all_from performer calls))
    (waiting (all_from performer calls) ++ marked_from (hiding_from (hiding_in performer) calls) more))
