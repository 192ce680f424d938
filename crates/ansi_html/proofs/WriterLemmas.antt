-- What new writers write.
use Rattle.std.proofs.Common.{◌≡◌, Bool, List, ap, ap₂, ◌∙◌}
use Rattle.anstyle_parse.specs.Stream.Call.{Call}
use Rattle.ansi_html.specs.declared.scheme.Styling.{Styling}
use Rattle.ansi_html.specs.declared.performer.HtmlWriter.{HtmlWriter}
use Rattle.ansi_html.specs.Html.{html_from, standing_at_end, element_end, html_text, html_ending}
use Rattle.ansi_html.specs.Writer.{IsNew, text_from, ending_from}
use Rattle.ansi_html.specs.declared.lines.LinesWriter.{LinesWriter}
use Rattle.ansi_html.specs.Lines.{lined_from, lined_at_end, lined_end, lined_text, lined_ending}
use Rattle.ansi_html.specs.Liner as liner
use Rattle.ansi_html.specs.declared.blocks.BlocksWriter.{BlocksWriter}
use Rattle.ansi_html.specs.Blocks.{Blocked, blocked_from, blocked_at_end, blocked_end, blocked_text, blocked_ending}
use Rattle.ansi_html.specs.Blocker as blocker

module _ {W : Type 0} (styling : Styling) (performer : HtmlWriter W) (is : IsNew styling performer) (calls : List Call) where
  pub text_from-new : text_from performer calls ≡ html_text styling calls
  text_from-new = ap₂ (λ it at. html_from it at calls) is.styling is.standing

  pub ending_from-new : ending_from performer calls ≡ html_ending calls
  ending_from-new = ap (λ at. element_end (standing_at_end at calls).shown) is.standing

-- and of one that writes lines
module _ {W : Type 0} (styling : Styling) (performer : LinesWriter W) (is : liner.IsNew styling performer) (calls : List Call) where
  pub lined_text_from-new : liner.text_from performer calls ≡ lined_text styling calls
  lined_text_from-new = ap₂ (λ said it. lined_from said it calls) is.styling is.standing

  pub lined_ending_from-new : liner.ending_from performer calls ≡ lined_ending calls
  lined_ending_from-new = ap (λ it. lined_end (lined_at_end it calls)) is.standing

-- and of one that writes blocks
module _ {W : Type 0} (styling : Styling) (numbered : Bool) (performer : BlocksWriter W) (is : blocker.IsNew styling numbered performer)
    (calls : List Call) where
  pub blocked_text_from-new : blocker.text_from performer calls ≡ blocked_text numbered styling calls
  blocked_text_from-new =
      ap (λ (n : Bool). blocked_from n (blocker.styling_of performer) (blocker.blocked_of performer) calls) is.numbered
      ∙ ap₂ (λ (said : Styling) (it : Blocked). blocked_from numbered said it calls) is.styling is.standing

  pub blocked_ending_from-new : blocker.ending_from performer calls ≡ blocked_ending numbered calls
  blocked_ending_from-new =
      ap₂ (λ (n : Bool) (it : Blocked). blocked_end n (blocked_at_end n it calls)) is.numbered is.standing
