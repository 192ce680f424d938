-- The writer is new.
use Rattle.std.proofs.Common.{sym, subst}
use Rattle.std.specs.Prelude.{IfSome}
use Rattle.ansi_strip.specs.Inert.{inert_text}
use Rattle.safe_text.specs.Marks.{safe_marked}
use Rattle.shown_pieces.specs.Shown.{converted_as, IsTextOf}
use Rattle.shown_pieces.proofs.SaysLemmas.{says-inert, says-marked}
use Rattle.shown_pieces.proofs.converted.converted.Goals as goal

pub returns-in-Text : goal.returns-in-Text
returns-in-Text c =
    subst (λ form. IfSome c.written.result (λ written. IsTextOf (converted_as c.args.how form c.args.screen) c.args.log.now written.items)) (sym c.in-Text.is)
    (c.written.ensures inert_text (says-inert c.over-text.result))

pub returns-in-Safe : goal.returns-in-Safe
returns-in-Safe c =
    subst (λ form. IfSome c.written-in-Safe.result (λ written. IsTextOf (converted_as c.args.how form c.args.screen) c.args.log.now written.items)) (sym c.in-Safe.is)
    (c.written-in-Safe.ensures safe_marked (says-marked c.over-text-in-Safe.result c.over-text-in-Safe.ensures.new))

pub returns-in-Html : goal.returns-in-Html
returns-in-Html c =
    subst (λ form. IfSome c.html.result (λ written. IsTextOf (converted_as c.args.how form c.args.screen) c.args.log.now written.items)) (sym c.in-Html.is) c.html.ensures
