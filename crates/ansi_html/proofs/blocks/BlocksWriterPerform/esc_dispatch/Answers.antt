use Rattle.ansi_html.proofs.BlockerLemmas.{TakesCall-idle, idle-esc_dispatch}
use Rattle.ansi_html.proofs.blocks.BlocksWriterPerform.esc_dispatch.Goals as goal

pub returns : goal.returns
returns g c = TakesCall-idle g.W.Sink c.args.self.now _ (idle-esc_dispatch _ _ _)
