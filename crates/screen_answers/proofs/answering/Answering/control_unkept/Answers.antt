-- What was taken out of the screen is put back.
use Rattle.std.proofs.Common.{◌≡◌, sym, ap, ◌∙◌, subst}
use Rattle.anstyle_parse.specs.Views.Params.{groups_shown}
use Rattle.anstyle_parse.specs.Stream.Call.{Call, csi_dispatch}
use Rattle.ansi_screen.specs.After.{State, after}
use Rattle.ansi_screen.specs.Damage.{HasHistory}
use Rattle.ansi_screen.specs.History.{Kept}
use Rattle.std.specs.Prelude.{Option}
use Rattle.ansi_screen.specs.Leaving.{with_kept, unkept}
use Rattle.screen_answers.proofs.KeptLemmas.{put-back, still-wide}
use Rattle.screen_answers.proofs.answering.Answering.control_unkept.Goals as goal

pub swap_history-requires-2 : goal.swap_history-requires-2
swap_history-requires-2 c =
    let s : State = c.args.self.now.screen in
    let call : Call = csi_dispatch (groups_shown c.args.params.now) c.args.intermediates.now c.args.ignore c.args.action in
    let led : c.csi_dispatch.new.self ≡ after call (unkept s) = c.csi_dispatch.ensures ∙ ap (after call) c.swap_history.ensures.kept in
    subst (λ (t : State). HasHistory t.display.width c.swap_history.new.history) (sym led)
    (still-wide call s c.swap_history.new.history c.columns.ensures.sized.margins_within c.swap_history.ensures.columns)

pub returns : goal.returns
returns c =
    let s : State = c.args.self.now.screen in
    let call : Call = csi_dispatch (groups_shown c.args.params.now) c.args.intermediates.now c.args.ignore c.args.action in
    let led : c.csi_dispatch.new.self ≡ after call (unkept s) = c.csi_dispatch.ensures ∙ ap (after call) c.swap_history.ensures.kept in
    ap (λ (t : State). record c.args.self.now { screen = t })
    (c.swap_history-2.ensures.kept
    ∙ (ap (λ (h : Option Kept). with_kept h c.csi_dispatch.new.self) c.swap_history.ensures.taken
    ∙ (ap (with_kept s.history) led ∙ put-back s.history call s)))
