-- The performer takes the bytes; all else stays.
use Rattle.shown_pieces.proofs.RunningLemmas.{text-taken, safe-taken, html-taken}
use Rattle.shown_pieces.proofs.running.Running.take.Goals as goal

pub returns-then-take : goal.returns-then-take
returns-then-take c = text-taken _ c.args.piece.now c.args.self c.in-AsText.following c.take.new.self c.in-AsText.is c.take.ensures

pub returns-then-take-2 : goal.returns-then-take-2
returns-then-take-2 c = safe-taken _ c.args.piece.now c.args.self c.in-AsSafe.following c.take-in-AsSafe.new.self c.in-AsSafe.is c.take-in-AsSafe.ensures

pub returns-then-take-3 : goal.returns-then-take-3
returns-then-take-3 c = html-taken _ c.args.piece.now c.args.self c.in-AsHtml.following c.take-in-AsHtml.new.self c.in-AsHtml.is c.take-in-AsHtml.ensures
