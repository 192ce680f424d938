use Rattle.ansi_html.proofs.BlockerLemmas.{TakesCall-idle, idle-put}
use Rattle.ansi_html.proofs.blocks.BlocksWriterPerform.put.Goals as goal

pub returns : goal.returns
returns g c = TakesCall-idle g.W.Sink c.args.self.now _ (idle-put _)
