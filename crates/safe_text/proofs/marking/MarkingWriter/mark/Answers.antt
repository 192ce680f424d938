-- There is a mark where it was otherwise before.
use Rattle.std.proofs.Common.{refl}
use Rattle.safe_text.specs.MarkingWriter.{writer_in, open_in}
use Rattle.safe_text.proofs.MarkLemmas.{flag-same, takes-same}
use Rattle.safe_text.proofs.marking.MarkingWriter.mark.Goals as goal

pub returns-else-hidden-self-clause-taken : goal.returns-else-hidden-self-clause-taken
returns-else-hidden-self-clause-taken g c =
    let self = c.args.self.now in
    takes-same g.W.Sink (writer_in self) (writer_in self) (open_in self) c.args.hidden (flag-same c.args.hidden (open_in self) c.if-hidden-self.false) refl
