use Rattle.ansi_html.proofs.BlockerLemmas.{TakesCall-idle, idle-hook}
use Rattle.ansi_html.proofs.blocks.BlocksWriterPerform.hook.Goals as goal

pub returns : goal.returns
returns g c = TakesCall-idle g.W.Sink c.args.self.now _ (idle-hook _ _ _ _)
