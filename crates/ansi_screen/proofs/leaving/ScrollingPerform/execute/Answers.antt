-- The rows that left are taken, and there is room again.
use Rattle.std.proofs.Common.{subst}
use Rattle.anstyle_parse.specs.Stream.Call.{execute}
use Rattle.ansi_screen.specs.Leaving.{unkept, Scrolls}
use Rattle.ansi_screen.proofs.LeavingLemmas.{room-again, call-scrolls}
use Rattle.ansi_screen.proofs.leaving.ScrollingPerform.execute.Goals as goal

pub invariant_of-self : goal.invariant_of-self
invariant_of-self g c =
    room-again (execute c.args.byte) c.self.inside.screen c.execute.new.self c.take_left.new.screen c.self.invariant c.execute.ensures c.take_left.ensures.screen c.take_left.ensures.sized

pub returns : goal.returns
returns g c =
    subst (λ s. Scrolls g.R.TakeRow.takes s (execute c.args.byte) (record { screen = unkept c.take_left.new.screen; taker = c.take_left.new.taker })) c.self.view_is
    (call-scrolls g.R.TakeRow.takes (execute c.args.byte) c.self.inside.screen c.execute.new.self c.take_left.new.screen c.self.inside.taker c.take_left.new.taker c.self.invariant c.execute.ensures c.take_left.ensures.screen
    c.take_left.ensures.taken)
