-- The writer is new.
use Rattle.std.proofs.Common.{sym, subst}
use Rattle.std.specs.Prelude.{IfSome}
use Rattle.ansi_html.specs.Html.{html}
use Rattle.ansi_html.specs.Lines.{lined_html}
use Rattle.ansi_html.specs.Writer as writer
use Rattle.ansi_html.specs.Liner as liner
use Rattle.html_urls.specs.Linked.{linked}
use Rattle.shown_pieces.specs.Shown.{seen, kept, html_in, IsTextOf}
use Rattle.shown_pieces.proofs.SaysLemmas.{says-linked, says-linked-lines}
use Rattle.shown_pieces.proofs.html.linked.Goals as goal

pub returns-then-how : goal.returns-then-how
returns-then-how c =
    let how = c.args.how in
    subst (λ t. IfSome c.written.result (λ written. IsTextOf (λ calls. html_in t c.args.styling (linked (kept how.no_hidden (seen c.args.screen calls)))) c.args.log.now written.items)) (sym c.if-how.true)
    (c.written.ensures (λ calls. lined_html c.args.styling (linked calls)) (says-linked-lines c.args.styling c.new-linking.result c.new-linking.ensures.standing
    (subst (liner.IsNew c.args.styling) (sym c.new-linking.ensures.performer) c.new-lines.ensures.new)))

pub returns-else-how : goal.returns-else-how
returns-else-how c =
    let how = c.args.how in
    subst (λ t. IfSome c.written-else-how.result (λ written. IsTextOf (λ calls. html_in t c.args.styling (linked (kept how.no_hidden (seen c.args.screen calls)))) c.args.log.now written.items)) (sym c.if-how.false)
    (c.written-else-how.ensures (λ calls. html c.args.styling (linked calls)) (says-linked c.args.styling c.new-linking-else-how.result c.new-linking-else-how.ensures.standing
    (subst (writer.IsNew c.args.styling) (sym c.new-linking-else-how.ensures.performer) c.new-html.ensures.new)))
