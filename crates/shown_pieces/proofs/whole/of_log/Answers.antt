-- The calls are those of the log, or of what was shown.
use Rattle.std.proofs.Common.{sym, subst}
use Rattle.std.specs.Prelude.{IfSome}
use Rattle.shown_pieces.specs.Shown.{seen, IsTextOf}
use Rattle.shown_pieces.proofs.SaysLemmas.{if-some, said-text}
use Rattle.shown_pieces.proofs.whole.of_log.Goals as goal

pub returns-in-Some : goal.returns-in-Some
returns-in-Some g c = λ text says.
    subst (λ screen. IfSome c.of_screen.result (λ written. IsTextOf (λ calls. text (seen screen calls)) c.args.log.now written.items)) (sym c.in-Some.is)
    (c.of_screen.ensures text says)

pub returns-in-None : goal.returns-in-None
returns-in-None g c = λ text says.
    subst (λ screen. IfSome c.of_stream.result (λ written. IsTextOf (λ calls. text (seen screen calls)) c.args.log.now written.items)) (sym c.in-None.is)
    (if-some _ _ c.of_stream.result (λ written. said-text g.P.WritingPerformer.text_from g.P.WritingPerformer.ending_from c.args.performer text says c.args.log.now written.items) c.of_stream.ensures)
