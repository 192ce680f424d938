-- The writer is new.
use Rattle.std.proofs.Common.{sym, subst}
use Rattle.std.specs.Prelude.{IfSome}
use Rattle.ansi_html.specs.Html.{html}
use Rattle.ansi_html.specs.Lines.{lined_html}
use Rattle.shown_pieces.specs.Shown.{seen, kept, html_in, IsTextOf}
use Rattle.shown_pieces.proofs.SaysLemmas.{says-html, says-lined}
use Rattle.shown_pieces.proofs.html.unlinked.Goals as goal

pub returns-then-how : goal.returns-then-how
returns-then-how c =
    let how = c.args.how in
    subst (λ t. IfSome c.written.result (λ written. IsTextOf (λ calls. html_in t c.args.styling (kept how.no_hidden (seen c.args.screen calls))) c.args.log.now written.items)) (sym c.if-how.true)
    (c.written.ensures (lined_html c.args.styling) (says-lined c.args.styling c.new-lines.result c.new-lines.ensures.new))

pub returns-else-how : goal.returns-else-how
returns-else-how c =
    let how = c.args.how in
    subst (λ t. IfSome c.written-else-how.result (λ written. IsTextOf (λ calls. html_in t c.args.styling (kept how.no_hidden (seen c.args.screen calls))) c.args.log.now written.items)) (sym c.if-how.false)
    (c.written-else-how.ensures (html c.args.styling) (says-html c.args.styling c.new-html.result c.new-html.ensures.new))
