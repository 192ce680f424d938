-- The bytes come after those before.
use Rattle.shown_pieces.proofs.StageLemmas.{showing-on, held-on}
use Rattle.shown_pieces.proofs.stage.Stage.fed.Goals as goal

pub returns-in-Held-clause-come : goal.returns-in-Held-clause-come
returns-in-Held-clause-come c =
    held-on _ c.args.size c.args.how c.args.piece.now c.args.self c.in-Held.front c.held.result c.in-Held.is c.held.ensures.come

pub returns-in-Showing-clause-come : goal.returns-in-Showing-clause-come
returns-in-Showing-clause-come c =
    showing-on _ c.args.size c.args.how c.args.piece.now c.args.self c.in-Showing.running c.take.result c.showing.result c.in-Showing.is c.showing.ensures c.take.ensures
