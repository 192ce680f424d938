-- What a screen showed is converted further, or its rows are written.
use Rattle.std.proofs.Common.{Option, None, Some, sym, ap, ◌∙◌, subst}
use Rattle.std.specs.Prelude.{IfSome, if◌then◌else◌}
use Rattle.screen_text.specs.declared.recording.ShownSize.{ShownSize}
use Rattle.shown_pieces.specs.Shown.{IsShown}
use Rattle.shown_pieces.proofs.SaysLemmas.{if-some}
use Rattle.shown_pieces.proofs.StageLemmas.{rows-shown, further-shown}
use Rattle.shown_pieces.proofs.converted.of_whole.Goals as goal

pub returns-then-goes_further : goal.returns-then-goes_further
returns-then-goes_further c =
    subst (λ size. IfSome c.by_screen.result (λ written. IsShown size c.args.how c.args.log.now written.items)) (sym c.in-Some.is)
    (if-some _ _ c.by_screen.result (λ written. further-shown c.in-Some.size c.args.how c.args.log.now written.items (sym c.goes_further.ensures ∙ c.if-goes_further.true))
    c.by_screen.ensures)

pub returns-else-goes_further : goal.returns-else-goes_further
returns-else-goes_further c =
    let rows = ap (λ (t : _). if t then None else Some c.in-Some.size) (sym c.goes_further.ensures ∙ c.if-goes_further.false) in
    subst (λ size. IfSome c.by_rows.result (λ written. IsShown size c.args.how c.args.log.now written.items)) (sym c.in-Some.is)
    (if-some _ _ c.by_rows.result (λ written. rows-shown (Some c.in-Some.size) c.in-Some.size c.args.how c.args.log.now written.items rows) c.by_rows.ensures)

pub returns-in-None : goal.returns-in-None
returns-in-None c =
    subst (λ size. IfSome c.converted.result (λ written. IsShown size c.args.how c.args.log.now written.items)) (sym c.in-None.is) c.converted.ensures
