-- What a new writer of HTML writes whose calls have links, and that both parts are the HTML of these calls.
use Rattle.std.proofs.Common.{◌≡◌, Bool, List, ◌++◌, sym, ap, ap₂, ◌∙◌, append_assoc}
use Rattle.anstyle_parse.specs.Stream.Call.{Call}
use Rattle.ansi_html.specs.declared.scheme.Styling.{Styling}
use Rattle.ansi_html.specs.declared.performer.HtmlWriter.{HtmlWriter}
use Rattle.ansi_html.specs.declared.lines.LinesWriter.{LinesWriter}
use Rattle.ansi_html.specs.Html as html
use Rattle.ansi_html.specs.Lines as lines
use Rattle.ansi_html.specs.Writer as writer
use Rattle.ansi_html.specs.Liner as liner
use Rattle.ansi_html.specs.declared.blocks.BlocksWriter.{BlocksWriter}
use Rattle.ansi_html.specs.Blocks as blocks
use Rattle.ansi_html.specs.Blocker as blocker
use Rattle.ansi_html.specs.BlockingProof.{blocked_from-append}
use Rattle.ansi_html.specs.AddingProof.{html_from-append}
use Rattle.ansi_html.specs.LiningProof.{lined_from-append}
use Rattle.html_urls.specs.declared.linking.Linking.{Linking}
use Rattle.html_urls.specs.Linked.{Standing, at_start, handed_from, left_from, linked}
use Rattle.html_urls.specs.Linker.{performer_in, standing_of, text_from, ending_from}
use Rattle.html_urls.specs.Resumed.{html_after, lined_after, blocked_after}
use Rattle.html_urls.specs.Html.{handed_on, left, urls_text, urls_ending, lined_urls_text, lined_urls_ending, blocked_urls_text, blocked_urls_ending}

pub whole-html : (styling : Styling) (calls : List Call) → urls_text styling calls ++ urls_ending styling calls ≡ html.html styling (linked calls)
whole-html styling calls =
    let text = urls_text styling calls in
    let more = html.html_from styling (html.standing_at_end html.at_start (handed_on calls)) (left calls) in
    let end = html.html_ending (linked calls) in
    sym (append_assoc text more end) ∙ ap (λ l. l ++ end) (sym (html_from-append styling (handed_on calls) (left calls) html.at_start))

pub whole-lined : (styling : Styling) (calls : List Call) → lined_urls_text styling calls ++ lined_urls_ending styling calls ≡ lines.lined_html styling (linked calls)
whole-lined styling calls =
    let text = lined_urls_text styling calls in
    let more = lines.lined_from styling (lines.lined_at_end lines.lined_at_start (handed_on calls)) (left calls) in
    let end = lines.lined_ending (linked calls) in
    sym (append_assoc text more end) ∙ ap (λ l. l ++ end) (sym (lined_from-append styling (handed_on calls) (left calls) lines.lined_at_start))

pub whole-blocked : (numbered : Bool) (styling : Styling) (calls : List Call)
    → blocked_urls_text numbered styling calls ++ blocked_urls_ending numbered styling calls ≡ blocks.blocked_html numbered styling (linked calls)
whole-blocked numbered styling calls =
    let text = blocked_urls_text numbered styling calls in
    let more = blocks.blocked_from numbered styling (blocks.blocked_at_end numbered blocks.blocked_at_start (handed_on calls)) (left calls) in
    let end = blocks.blocked_ending numbered (linked calls) in
    sym (append_assoc text more end)
    ∙ ap (λ l. l ++ end) (sym (blocked_from-append numbered styling (handed_on calls) (left calls) blocks.blocked_at_start))

-- from the start
module _ {W : Type 0} (styling : Styling) (linking : Linking (HtmlWriter W)) (first : standing_of linking ≡ at_start)
    (new : writer.IsNew styling (performer_in linking)) (calls : List Call) where
  pub text-new : text_from writer.text_from linking calls ≡ urls_text styling calls
  text-new =
      ap (λ (at : Standing). writer.text_from (performer_in linking) (handed_from at calls)) first
      ∙ ap₂ (λ said at. html.html_from said at (handed_on calls)) new.styling new.standing

  pub ending-new : ending_from html_after writer.ending_from linking calls ≡ urls_ending styling calls
  ending-new =
      ap (λ (at : Standing). html_after (performer_in linking) (handed_from at calls) (left_from at calls)
      ++ writer.ending_from (performer_in linking) (handed_from at calls ++ left_from at calls)) first
      ∙ ap₂ (λ said at. html.html_from said (html.standing_at_end at (handed_on calls)) (left calls)
      ++ html.element_end (html.standing_at_end at (linked calls)).shown) new.styling new.standing

module _ {W : Type 0} (styling : Styling) (linking : Linking (LinesWriter W)) (first : standing_of linking ≡ at_start)
    (new : liner.IsNew styling (performer_in linking)) (calls : List Call) where
  pub lined_text-new : text_from liner.text_from linking calls ≡ lined_urls_text styling calls
  lined_text-new =
      ap (λ (at : Standing). liner.text_from (performer_in linking) (handed_from at calls)) first
      ∙ ap₂ (λ said at. lines.lined_from said at (handed_on calls)) new.styling new.standing

  pub lined_ending-new : ending_from lined_after liner.ending_from linking calls ≡ lined_urls_ending styling calls
  lined_ending-new =
      ap (λ (at : Standing). lined_after (performer_in linking) (handed_from at calls) (left_from at calls)
      ++ liner.ending_from (performer_in linking) (handed_from at calls ++ left_from at calls)) first
      ∙ ap₂ (λ said at. lines.lined_from said (lines.lined_at_end at (handed_on calls)) (left calls)
      ++ lines.lined_end (lines.lined_at_end at (linked calls))) new.styling new.standing

module _ {W : Type 0} (styling : Styling) (numbered : Bool) (linking : Linking (BlocksWriter W)) (first : standing_of linking ≡ at_start)
    (new : blocker.IsNew styling numbered (performer_in linking)) (calls : List Call) where
  pub blocked_text-new : text_from blocker.text_from linking calls ≡ blocked_urls_text numbered styling calls
  blocked_text-new =
      ap (λ (at : Standing). blocker.text_from (performer_in linking) (handed_from at calls)) first
      ∙ ap (λ (n : Bool). blocks.blocked_from n (blocker.styling_of (performer_in linking)) (blocker.blocked_of (performer_in linking)) (handed_on calls)) new.numbered
      ∙ ap₂ (λ said (at : blocks.Blocked). blocks.blocked_from numbered said at (handed_on calls)) new.styling new.standing

  pub blocked_ending-new : ending_from blocked_after blocker.ending_from linking calls ≡ blocked_urls_ending numbered styling calls
  blocked_ending-new =
      ap (λ (at : Standing). blocked_after (performer_in linking) (handed_from at calls) (left_from at calls)
      ++ blocker.ending_from (performer_in linking) (handed_from at calls ++ left_from at calls)) first
      ∙ ap (λ (n : Bool). blocks.blocked_from n (blocker.styling_of (performer_in linking)) (blocks.blocked_at_end n (blocker.blocked_of (performer_in linking)) (handed_on calls)) (left calls)
      ++ blocks.blocked_end n (blocks.blocked_at_end n (blocker.blocked_of (performer_in linking)) (linked calls))) new.numbered
      ∙ ap₂ (λ said (at : blocks.Blocked). blocks.blocked_from numbered said (blocks.blocked_at_end numbered at (handed_on calls)) (left calls)
      ++ blocks.blocked_end numbered (blocks.blocked_at_end numbered at (linked calls))) new.styling new.standing
