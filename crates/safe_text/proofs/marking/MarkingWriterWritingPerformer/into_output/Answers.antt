-- A run that is open is closed, and what waits is written.
use Rattle.safe_text.specs.MarkingWriter.{writer_in}
use Rattle.safe_text.proofs.MarkLemmas.{adds-closing}
use Rattle.safe_text.proofs.marking.MarkingWriterWritingPerformer.into_output.Goals as goal

pub returns : goal.returns
returns g c =
    adds-closing g.W.Sink c.args.self (writer_in c.mark.new.self) c.into_output.result c.mark.ensures.taken c.into_output.ensures
