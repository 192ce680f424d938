-- All that came is written.
use Rattle.shown_pieces.proofs.StageLemmas.{showing-ended, held-ended}
use Rattle.shown_pieces.proofs.stage.Stage.at_end.Goals as goal

pub returns-in-Held-clause-shown : goal.returns-in-Held-clause-shown
returns-in-Held-clause-shown c = λ has bytes come.
    held-ended _ c.args.size c.args.how bytes c.as_slice.result.now c.args.self c.in-Held.log c.of_whole.result c.ended.result
    c.in-Held.is c.as_slice.ensures.value c.ended.ensures c.of_whole.ensures has come

pub returns-in-Showing-clause-shown : goal.returns-in-Showing-clause-shown
returns-in-Showing-clause-shown c = λ has bytes come.
    showing-ended _ c.args.size c.args.how bytes c.args.self c.in-Showing.running c.into_text.result c.ended-in-Showing.result
    c.in-Showing.is c.ended-in-Showing.ensures c.into_text.ensures has come
