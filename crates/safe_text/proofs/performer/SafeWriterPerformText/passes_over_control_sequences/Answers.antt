-- No character is taken of one.
use Rattle.safe_text.specs.TakingProof.{Takes-none}
use Rattle.safe_text.proofs.performer.SafeWriterPerformText.passes_over_control_sequences.Goals as goal

pub returns : goal.returns
returns g c = λ _ _ _ _ _. Takes-none g.W.Sink c.args.self.now
