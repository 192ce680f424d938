use Rattle.ansi_modes.specs.AskedProof.{layout-quiet}
use Rattle.ansi_modes.proofs.asked.AskedPerformText.print_with_layout.Goals as goal

pub returns : goal.returns
returns c = layout-quiet c.args.arg2.now c.args.self.now
