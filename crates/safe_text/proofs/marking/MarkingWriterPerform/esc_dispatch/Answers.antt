-- Nothing is taken, and no mark is wanted.
use Rattle.std.proofs.Common.{refl}
use Rattle.safe_text.proofs.MarkLemmas.{none-marked}
use Rattle.safe_text.proofs.marking.MarkingWriterPerform.esc_dispatch.Goals as goal

pub returns : goal.returns
returns g c = none-marked g.W.Sink c.args.self.now c.args.self.now _ refl refl refl refl
