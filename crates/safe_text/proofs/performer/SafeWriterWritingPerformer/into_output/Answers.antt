-- What waits is written, as no more comes.
use Rattle.safe_text.proofs.WriterLemmas.{ending-released}
use Rattle.safe_text.proofs.performer.SafeWriterWritingPerformer.into_output.Goals as goal

pub returns : goal.returns
returns g c = ending-released g.W.Sink c.args.self c.release.new.self c.release.ensures
