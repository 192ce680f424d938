-- No row leaves.
use Rattle.std.proofs.Common.{[], ◌∷◌, refl, subst}
use Rattle.anstyle_parse.specs.Stream.Call.{osc_dispatch}
use Rattle.std.specs.Prelude.{map}
use Rattle.ansi_screen.specs.Leaving.{unkept, Scrolls}
use Rattle.ansi_screen.proofs.LeavingLemmas.{room-still, call-stays}
use Rattle.ansi_screen.proofs.leaving.ScrollingPerform.osc_dispatch.Goals as goal

pub invariant_of-self : goal.invariant_of-self
invariant_of-self g c =
    room-still ((osc_dispatch (map (λ part. part.now) c.args.params.now) c.args.bell_terminated) ∷ []) c.self.inside.screen c.osc_dispatch.new.self c.self.invariant c.osc_dispatch.ensures refl
    c.rows.ensures.sized

pub returns : goal.returns
returns g c =
    subst (λ s. Scrolls g.R.TakeRow.takes s (osc_dispatch (map (λ part. part.now) c.args.params.now) c.args.bell_terminated) (record { screen = unkept c.osc_dispatch.new.self; taker = c.self.inside.taker })) c.self.view_is
    (call-stays g.R.TakeRow.takes (osc_dispatch (map (λ part. part.now) c.args.params.now) c.args.bell_terminated) c.self.inside.screen c.osc_dispatch.new.self c.self.inside.taker c.osc_dispatch.ensures refl)
