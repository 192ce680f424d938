use Rattle.std.proofs.Common.{refl}
use Rattle.safe_text.proofs.WriterLemmas.{held-taken}
use Rattle.safe_text.proofs.performer.SafeWriter.begin.Goals as goal

pub returns-in-Some : goal.returns-in-Some
returns-in-Some g c = held-taken g.W.Sink c.args.self.now _ c.args.c c.requires c.in-Some.ensures.waits c.in-Some.ensures.held refl refl
