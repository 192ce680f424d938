use Rattle.ansi_html.proofs.BlockerLemmas.{TakesCall-idle, idle-unhook}
use Rattle.ansi_html.proofs.blocks.BlocksWriterPerform.unhook.Goals as goal

pub returns : goal.returns
returns g c = TakesCall-idle g.W.Sink c.args.self.now _ (idle-unhook)
