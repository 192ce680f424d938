use Rattle.safe_text.specs.TakingProof.{Takes-none}
use Rattle.safe_text.proofs.performer.SafeWriterPerform.unhook.Goals as goal

pub returns : goal.returns
returns g c = Takes-none g.W.Sink c.args.self.now
