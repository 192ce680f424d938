-- The piece comes after what was held.
use Rattle.std.proofs.Common.{◌++◌}
use Rattle.shown_pieces.proofs.StageLemmas.{extended-come}
use Rattle.shown_pieces.proofs.stage.held.Goals as goal

pub returns-in-Some-clause-come : goal.returns-in-Some-clause-come
returns-in-Some-clause-come c =
    extended-come _ c.args.size c.args.how (c.args.front.items ++ c.args.piece.now) c.in-Some.both.items c.sized.result c.in-Some.ensures c.sized.ensures.come
