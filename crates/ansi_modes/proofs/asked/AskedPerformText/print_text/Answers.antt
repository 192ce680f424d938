use Rattle.ansi_modes.specs.AskedProof.{text-quiet}
use Rattle.ansi_modes.proofs.asked.AskedPerformText.print_text.Goals as goal

pub returns : goal.returns
returns c = text-quiet c.args.arg2.now c.args.self.now
