-- No definition, but proofs: the language wants those of a trait's laws among the specs.
-- Writers of HTML go on as their HTML of all calls does.
use Rattle.std.proofs.Common.{◌≡◌, ℕ, Bool, List, ◌++◌, sym, ap, ap₂, ◌∙◌}
use Rattle.anstyle_parse.specs.declared.io.devices.Sink.{Ghosts as SinkOf}
use Rattle.anstyle_parse.specs.Stream.Call.{Call}
use Rattle.ansi_html.specs.declared.performer.HtmlWriter.{HtmlWriter}
use Rattle.ansi_html.specs.declared.lines.LinesWriter.{LinesWriter}
use Rattle.ansi_html.specs.Html.{html_from, standing_at_end, element_end}
use Rattle.ansi_html.specs.Lines.{lined_from, lined_at_end, lined_end}
use Rattle.ansi_html.specs.Writer as writer
use Rattle.ansi_html.specs.Liner as liner
use Rattle.ansi_html.specs.declared.blocks.BlocksWriter.{BlocksWriter}
use Rattle.ansi_html.specs.Blocks.{Blocked, blocked_from, blocked_at_end, blocked_end}
use Rattle.ansi_html.specs.Blocker as blocker
use Rattle.ansi_html.specs.AddingProof.{html_from-append, standing_at_end-append}
use Rattle.ansi_html.specs.LiningProof.{lined_from-append, lined_at_end-append}
use Rattle.ansi_html.specs.BlockingProof.{blocked_from-append, blocked_at_end-append}
use Rattle.without_hidden.specs.declared.performer.WithoutHidden.{WithoutHidden}
use Rattle.without_hidden.specs.Hidden.{without_hidden, style_from}
use Rattle.without_hidden.specs.Passing.{performer_in, style_in, ReceivesShown}
use Rattle.without_hidden.specs.PassingProof.{without-append}
use Rattle.html_urls.specs.Resumed.{Resumes, html_after, lined_after, blocked_after, shown_after}

module _ {W : Type 0} (sink : SinkOf W) where
  html-resumes : (old : HtmlWriter W) (calls : List Call) (new : HtmlWriter W) → writer.TakesAll sink old calls new
      → (more : List Call) → writer.text_from new more ≡ html_after old calls more
  html-resumes old calls new taken more = ap₂ (λ styling at. html_from styling at more) taken.styling taken.standing

  html-ends : (old : HtmlWriter W) (calls : List Call) (new : HtmlWriter W) → writer.TakesAll sink old calls new
      → (more : List Call) → writer.ending_from new more ≡ writer.ending_from old (calls ++ more)
  html-ends old calls new taken more =
      ap (λ at. element_end (standing_at_end at more).shown) taken.standing
      ∙ ap (λ at. element_end at.shown) (sym (standing_at_end-append calls more (writer.standing_of old)))

  lined-resumes : (old : LinesWriter W) (calls : List Call) (new : LinesWriter W) → liner.TakesCalls sink old calls new
      → (more : List Call) → liner.text_from new more ≡ lined_after old calls more
  lined-resumes old calls new taken more = ap₂ (λ styling at. lined_from styling at more) taken.styling taken.standing

  lined-ends : (old : LinesWriter W) (calls : List Call) (new : LinesWriter W) → liner.TakesCalls sink old calls new
      → (more : List Call) → liner.ending_from new more ≡ liner.ending_from old (calls ++ more)
  lined-ends old calls new taken more =
      ap (λ it. lined_end (lined_at_end it more)) taken.standing
      ∙ ap lined_end (sym (lined_at_end-append calls more (liner.lined_of old)))

module _ {W : Type 0} (sink : SinkOf W) (old : BlocksWriter W) (calls : List Call) (new : BlocksWriter W) (taken : blocker.TakesCalls sink old calls new)
    (more : List Call) where
  blocked-resumes : blocker.text_from new more ≡ blocked_after old calls more
  blocked-resumes =
      ap (λ (n : Bool). blocked_from n (blocker.styling_of new) (blocker.blocked_of new) more) taken.numbered
      ∙ ap₂ (λ styling (it : Blocked). blocked_from (blocker.numbered_of old) styling it more) taken.styling taken.standing

  blocked-ends : blocker.ending_from new more ≡ blocker.ending_from old (calls ++ more)
  blocked-ends =
      ap₂ (λ (n : Bool) (it : Blocked). blocked_end n (blocked_at_end n it more)) taken.numbered taken.standing
      ∙ ap (blocked_end (blocker.numbered_of old)) (sym (blocked_at_end-append (blocker.numbered_of old) calls more (blocker.blocked_of old)))

html-joined : {W : Type 0} (performer : HtmlWriter W) (calls more : List Call)
    → writer.text_from performer calls ++ html_after performer calls more ≡ writer.text_from performer (calls ++ more)
html-joined performer calls more = sym (html_from-append (writer.styling_of performer) calls more (writer.standing_of performer))

lined-joined : {W : Type 0} (performer : LinesWriter W) (calls more : List Call)
    → liner.text_from performer calls ++ lined_after performer calls more ≡ liner.text_from performer (calls ++ more)
lined-joined performer calls more = sym (lined_from-append (liner.styling_of performer) calls more (liner.lined_of performer))

blocked-joined : {W : Type 0} (performer : BlocksWriter W) (calls more : List Call)
    → blocker.text_from performer calls ++ blocked_after performer calls more ≡ blocker.text_from performer (calls ++ more)
blocked-joined performer calls more =
    sym (blocked_from-append (blocker.numbered_of performer) (blocker.styling_of performer) calls more (blocker.blocked_of performer))

module _ {W : Type 0} (sink : SinkOf W) where
  pub html-goes_on : Resumes (writer.TakesAll sink) writer.text_from html_after writer.ending_from
  html-goes_on = record {
    same_text = html-resumes sink;
    same_ending = html-ends sink;
    joined = html-joined;
  }

  pub lined-goes_on : Resumes (liner.TakesCalls sink) liner.text_from lined_after liner.ending_from
  lined-goes_on = record {
    same_text = lined-resumes sink;
    same_ending = lined-ends sink;
    joined = lined-joined;
  }

  pub blocked-goes_on : Resumes (blocker.TakesCalls sink) blocker.text_from blocked_after blocker.ending_from
  blocked-goes_on = record {
    same_text = blocked-resumes sink;
    same_ending = blocked-ends sink;
    joined = blocked-joined;
  }

-- One before which hidden text is left out goes on as it does.
module _ {P : Type 0} {receives : P → List Call → P → Type 0} {written : P → List Call → List ℕ} {after : P → (calls more : List Call) → List ℕ}
    {ending : P → List Call → List ℕ} (goes_on : Resumes receives written after ending) where
  shown-text : (old : WithoutHidden P) (calls : List Call) (new : WithoutHidden P) → ReceivesShown receives old calls new → (more : List Call)
      → written (performer_in new) (without_hidden (style_in new) more) ≡ shown_after after old calls more
  shown-text old calls new received more =
      let stay = without_hidden (style_in old) calls in
      goes_on.same_text (performer_in old) stay (performer_in new) received.performer (without_hidden (style_in new) more)
      ∙ ap (λ style. after (performer_in old) stay (without_hidden style more)) received.style

  shown-ending : (old : WithoutHidden P) (calls : List Call) (new : WithoutHidden P) → ReceivesShown receives old calls new → (more : List Call)
      → ending (performer_in new) (without_hidden (style_in new) more) ≡ ending (performer_in old) (without_hidden (style_in old) (calls ++ more))
  shown-ending old calls new received more =
      let stay = without_hidden (style_in old) calls in
      goes_on.same_ending (performer_in old) stay (performer_in new) received.performer (without_hidden (style_in new) more)
      ∙ ap (λ style. ending (performer_in old) (stay ++ without_hidden style more)) received.style
      ∙ ap (ending (performer_in old)) (sym (without-append (style_in old) calls more))

  shown-joined : (it : WithoutHidden P) (calls more : List Call)
      → written (performer_in it) (without_hidden (style_in it) calls) ++ shown_after after it calls more
      ≡ written (performer_in it) (without_hidden (style_in it) (calls ++ more))
  shown-joined it calls more =
      goes_on.joined (performer_in it) (without_hidden (style_in it) calls) (without_hidden (style_from (style_in it) calls) more)
      ∙ ap (written (performer_in it)) (sym (without-append (style_in it) calls more))

  pub shown-goes_on : Resumes (ReceivesShown receives) (λ it calls. written (performer_in it) (without_hidden (style_in it) calls)) (shown_after after)
      (λ it calls. ending (performer_in it) (without_hidden (style_in it) calls))
  shown-goes_on = record { same_text = shown-text; same_ending = shown-ending; joined = shown-joined }
