-- The front is what it takes first.
use Rattle.shown_pieces.proofs.RunningLemmas.{begun-taken}
use Rattle.shown_pieces.proofs.running.begun.Goals as goal

pub returns-in-Some : goal.returns-in-Some
returns-in-Some c = begun-taken _ c.args.size c.args.form c.args.front.now c.in-Some.running c.take.result c.in-Some.ensures c.take.ensures
