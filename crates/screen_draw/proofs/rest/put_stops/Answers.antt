-- One stop more.
use Rattle.screen_draw.proofs.DrawLemmas.{draws-stop}
use Rattle.screen_draw.proofs.rest.put_stops.Goals as goal

pub loop-column-preserved : goal.loop-column-preserved
loop-column-preserved g c =
    draws-stop g.W.Sink c.args.stops.now c.loop-column.column _ c.args.output.now c.loop-column.output c.put_stop.new.output
    c.loop-column-test.true c.loop-column.invariant c.put_stop.ensures
