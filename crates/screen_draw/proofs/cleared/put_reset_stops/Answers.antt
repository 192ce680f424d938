-- One stop more.
use Rattle.screen_draw.proofs.StepLemmas.{draws-reset_stop}
use Rattle.screen_draw.proofs.cleared.put_reset_stops.Goals as goal

pub loop-column-preserved : goal.loop-column-preserved
loop-column-preserved g c =
    draws-reset_stop g.W.Sink c.args.stops.now c.loop-column.column _ c.args.output.now c.loop-column.output c.put_reset_stop.new.output
    c.loop-column-test.true c.loop-column.invariant c.put_reset_stop.ensures
