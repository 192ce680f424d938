-- The last line is ended, and what waits is written.
use Rattle.safe_text.specs.Writer.{Takes}
use Rattle.screen_text.specs.Lines.{closing}
use Rattle.screen_safe.proofs.TakenLemmas.{closes-open, closes-none, adds-closing}
use Rattle.screen_safe.proofs.rows.SafeRowsWriteRows.into_output.Goals as goal
use Rattle.screen_safe.proofs.rows.SafeRowsWriteRows.into_output.Goals.{then-is_open, else-is_open}

pub returns : goal.returns
returns g c =
    let rows = c.args.self in
    let writer = c.if-is_open.writer in
    let closed : Takes g.W.Sink rows.writer (closing rows.is_open) writer = elim c.if-is_open.branch [
      | then-is_open w ↦ closes-open g.W.Sink rows.is_open rows.writer w.take.new.self writer w.if-is_open.true w.writer-is w.take.ensures
      | else-is_open w ↦ closes-none g.W.Sink rows.is_open rows.writer writer w.if-is_open.false w.writer-is
    ] in
    adds-closing g.W.Sink rows.is_open rows.writer writer c.into_output.result closed c.into_output.ensures
