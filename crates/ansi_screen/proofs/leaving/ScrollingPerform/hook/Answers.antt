-- No row leaves.
use Rattle.std.proofs.Common.{[], ◌∷◌, refl, sym, subst}
use Rattle.anstyle_parse.specs.Stream.Call.{hook}
use Rattle.anstyle_parse.specs.Views.Params.{groups_shown}
use Rattle.ansi_screen.specs.Display.{IsSized}
use Rattle.ansi_screen.specs.After.{State}
use Rattle.ansi_screen.specs.Leaving.{unkept, Scrolls}
use Rattle.ansi_screen.proofs.LeavingLemmas.{room-still, call-stays}
use Rattle.ansi_screen.proofs.leaving.ScrollingPerform.hook.Goals as goal

pub invariant_of-self : goal.invariant_of-self
invariant_of-self g c =
    room-still ((hook (groups_shown c.args.params.now) c.args.intermediates.now c.args.ignore c.args.action) ∷ []) c.self.inside.screen c.hook.new.self c.self.invariant c.hook.ensures refl
    (subst (λ (t : State). IsSized t.display) (sym c.hook.ensures) c.self.invariant.sized)

pub returns : goal.returns
returns g c =
    subst (λ s. Scrolls g.R.TakeRow.takes s (hook (groups_shown c.args.params.now) c.args.intermediates.now c.args.ignore c.args.action) (record { screen = unkept c.hook.new.self; taker = c.self.inside.taker })) c.self.view_is
    (call-stays g.R.TakeRow.takes (hook (groups_shown c.args.params.now) c.args.intermediates.now c.args.ignore c.args.action) c.self.inside.screen c.hook.new.self c.self.inside.taker c.hook.ensures refl)
