-- The calls are those that stay, or all.
use Rattle.std.proofs.Common.{sym, subst}
use Rattle.std.specs.Prelude.{IfSome}
use Rattle.ansi_style.specs.Style.{plain}
use Rattle.without_hidden.specs.Hidden.{without_hidden}
use Rattle.shown_pieces.specs.Shown.{seen, kept, IsTextOf}
use Rattle.shown_pieces.proofs.SaysLemmas.{says-kept}
use Rattle.shown_pieces.proofs.whole.written.Goals as goal

pub returns-then-no_hidden : goal.returns-then-no_hidden
returns-then-no_hidden g c = λ text says.
    subst (λ t. IfSome c.of_log.result (λ written. IsTextOf (λ calls. text (kept t (seen c.args.screen calls))) c.args.log.now written.items)) (sym c.if-no_hidden.true)
    (c.of_log.ensures (λ calls. text (without_hidden plain calls)) (says-kept g.P.WritingPerformer.text_from g.P.WritingPerformer.ending_from c.new-kept.result c.args.performer c.new-kept.ensures.performer c.new-kept.ensures.style text says))

pub returns-else-no_hidden : goal.returns-else-no_hidden
returns-else-no_hidden g c = λ text says.
    subst (λ t. IfSome c.of_log-else-no_hidden.result (λ written. IsTextOf (λ calls. text (kept t (seen c.args.screen calls))) c.args.log.now written.items)) (sym c.if-no_hidden.false)
    (c.of_log-else-no_hidden.ensures text says)
