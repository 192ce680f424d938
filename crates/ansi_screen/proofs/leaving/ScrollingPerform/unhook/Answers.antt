-- No row leaves.
use Rattle.std.proofs.Common.{[], ◌∷◌, refl, sym, subst}
use Rattle.anstyle_parse.specs.Stream.Call.{unhook}
use Rattle.ansi_screen.specs.Display.{IsSized}
use Rattle.ansi_screen.specs.After.{State}
use Rattle.ansi_screen.specs.Leaving.{unkept, Scrolls}
use Rattle.ansi_screen.proofs.LeavingLemmas.{room-still, call-stays}
use Rattle.ansi_screen.proofs.leaving.ScrollingPerform.unhook.Goals as goal

pub invariant_of-self : goal.invariant_of-self
invariant_of-self g c =
    room-still (unhook ∷ []) c.self.inside.screen c.unhook.new.self c.self.invariant c.unhook.ensures refl
    (subst (λ (t : State). IsSized t.display) (sym c.unhook.ensures) c.self.invariant.sized)

pub returns : goal.returns
returns g c =
    subst (λ s. Scrolls g.R.TakeRow.takes s unhook (record { screen = unkept c.unhook.new.self; taker = c.self.inside.taker })) c.self.view_is
    (call-stays g.R.TakeRow.takes unhook c.self.inside.screen c.unhook.new.self c.self.inside.taker c.unhook.ensures refl)
