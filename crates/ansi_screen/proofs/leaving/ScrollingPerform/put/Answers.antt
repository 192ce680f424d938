-- No row leaves.
use Rattle.std.proofs.Common.{[], ◌∷◌, refl, sym, subst}
use Rattle.anstyle_parse.specs.Stream.Call.{put}
use Rattle.ansi_screen.specs.Display.{IsSized}
use Rattle.ansi_screen.specs.After.{State}
use Rattle.ansi_screen.specs.Leaving.{unkept, Scrolls}
use Rattle.ansi_screen.proofs.LeavingLemmas.{room-still, call-stays}
use Rattle.ansi_screen.proofs.leaving.ScrollingPerform.put.Goals as goal

pub invariant_of-self : goal.invariant_of-self
invariant_of-self g c =
    room-still ((put c.args.byte) ∷ []) c.self.inside.screen c.put.new.self c.self.invariant c.put.ensures refl
    (subst (λ (t : State). IsSized t.display) (sym c.put.ensures) c.self.invariant.sized)

pub returns : goal.returns
returns g c =
    subst (λ s. Scrolls g.R.TakeRow.takes s (put c.args.byte) (record { screen = unkept c.put.new.self; taker = c.self.inside.taker })) c.self.view_is
    (call-stays g.R.TakeRow.takes (put c.args.byte) c.self.inside.screen c.put.new.self c.self.inside.taker c.put.ensures refl)
