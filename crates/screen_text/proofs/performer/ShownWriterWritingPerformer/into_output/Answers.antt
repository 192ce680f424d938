-- The rows that still show, and the end of the last line.
use Rattle.ansi_screen.specs.Leaving.{screen_of, taker_of}
use Rattle.screen_text.proofs.ShownLemmas.{adds-ending}
use Rattle.screen_text.proofs.performer.ShownWriterWritingPerformer.into_output.Goals as goal

pub returns : goal.returns
returns g c =
    let rows = g.R.WriteRows in
    adds-ending g.W.Sink g.R.TakeRow.takes g.R.TakeCommand.takes_command g.R.TakeRow.passes_on rows.output_in rows.standing_in rows.row_text rows.after_row rows.after_command rows.closing
    g.met.R.WriteRows.writes_row g.met.R.WriteRows.writes_command g.met.R.WriteRows.writes_nothing
    (screen_of c.args.self.scrolling)
    (taker_of c.args.self.scrolling) (taker_of c.hand_on_showing.new.scrolling) c.into_parts-screen.result.1 c.into_output.result
    c.hand_on_showing.ensures c.into_parts-screen.ensures.taker c.into_output.ensures
