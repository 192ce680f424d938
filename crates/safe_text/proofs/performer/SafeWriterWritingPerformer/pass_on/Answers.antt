-- No character comes, and nothing is written.
use Rattle.std.proofs.Common.{refl}
use Rattle.safe_text.specs.TakingProof.{Takes-passed}
use Rattle.safe_text.proofs.performer.SafeWriterWritingPerformer.pass_on.Goals as goal

pub returns : goal.returns
returns g c = Takes-passed g.W.Sink c.args.self.now _ refl refl c.pass_on.ensures
