-- The screen has taken all of the log.
use Rattle.shown_pieces.proofs.StageLemmas.{rows-whole}
use Rattle.shown_pieces.proofs.converted.by_rows.Goals as goal

pub returns-in-Some : goal.returns-in-Some
returns-in-Some c = rows-whole _ c.args.size c.args.form c.args.log.now c.in-Some.running c.into_text.result c.in-Some.ensures c.into_text.ensures
