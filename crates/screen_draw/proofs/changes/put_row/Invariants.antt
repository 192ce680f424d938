-- The row, as far as it is drawn.
use Rattle.screen_draw.specs.Update.{begun_at}
use Rattle.screen_draw.proofs.StepLemmas.{RowDraws}
use Rattle.screen_draw.proofs.changes.put_row.Given as goal

abbrev pub invariant-loop-column : goal.invariant-loop-column
invariant-loop-column g l = RowDraws g.W.Sink l.row (begun_at l.fn.place) l.olds l.news l.column l.brush l.initial.output l.output
