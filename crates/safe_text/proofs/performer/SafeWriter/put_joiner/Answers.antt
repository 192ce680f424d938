use Rattle.std.proofs.Common.{sym}
use Rattle.safe_text.proofs.WriterLemmas.{joiner-released}
use Rattle.safe_text.proofs.performer.SafeWriter.put_joiner.Goals as goal

pub returns : goal.returns
returns g c =
    joiner-released g.W.Sink c.args.self.now c.put_as.new.self c.args.next c.args.c c.stays-stays.result c.requires.joiner (sym c.stays-stays.ensures)
    c.requires.held c.put_as.ensures.held c.put_as.ensures.before c.put_as.ensures.added
