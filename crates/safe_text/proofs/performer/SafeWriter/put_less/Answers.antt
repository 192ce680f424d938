use Rattle.safe_text.proofs.WriterLemmas.{less-released}
use Rattle.safe_text.proofs.performer.SafeWriter.put_less.Goals as goal

pub returns : goal.returns
returns g c =
    less-released g.W.Sink c.args.self.now c.put.new.self c.args.next c.requires c.put.ensures.held c.put.ensures.before c.put.ensures.added
