-- No row leaves.
use Rattle.std.proofs.Common.{take, subst}
use Rattle.ansi_screen.specs.Laws.{printing}
use Rattle.ansi_screen.specs.Leaving.{unkept, ScrollsAll}
use Rattle.ansi_screen.proofs.LeavingLemmas.{room-still, calls-stay}
use Rattle.ansi_screen.proofs.leaving.ScrollingPutRuns.put_front.Goals as goal

pub invariant_of-self : goal.invariant_of-self
invariant_of-self g c =
    room-still (printing (take c.put_run-count.result c.args.run.now)) c.self.inside.screen c.put_run-count.new.self c.self.invariant c.put_run-count.ensures.put c.put_run-count.ensures.stays c.rows.ensures.sized

pub returns-clause-put : goal.returns-clause-put
returns-clause-put g c =
    subst (λ s. ScrollsAll g.R.TakeRow.takes s (printing (take c.put_run-count.result c.args.run.now)) (record { screen = unkept c.put_run-count.new.self; taker = c.self.inside.taker })) c.self.view_is
    (calls-stay g.R.TakeRow.takes (printing (take c.put_run-count.result c.args.run.now)) c.self.inside.screen c.put_run-count.new.self c.self.inside.taker c.put_run-count.ensures.put c.put_run-count.ensures.stays)
