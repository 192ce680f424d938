-- The screen is that of all of the log.
use Rattle.std.proofs.Common.{◌++◌, Some, [], inr, refl, ap, ◌∙◌, subst, append-nil}
use Rattle.std.specs.Prelude.{IfSome}
use Rattle.screen_text.specs.Recording.{screen_for}
use Rattle.shown_pieces.specs.Shown.{converted, IsTextOf}
use Rattle.shown_pieces.proofs.converted.by_screen.Goals as goal

pub returns-in-Ok : goal.returns-in-Ok
returns-in-Ok c =
    let log = c.args.log.now in
    subst (λ s. IfSome c.converted.result (λ written. IsTextOf (converted c.args.how (Some s)) log written.items))
    (c.in-Ok.ensures [] (inr refl) ∙ ap (λ l. screen_for c.args.size l) (append-nil log)) c.converted.ensures
