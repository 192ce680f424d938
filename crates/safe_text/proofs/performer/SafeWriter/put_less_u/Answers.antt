use Rattle.std.proofs.Common.{eqb, refl, ◌∙◌}
use Rattle.safe_text.proofs.WriterLemmas.{less_u-released}
use Rattle.safe_text.proofs.performer.SafeWriter.put_less_u.Goals as goal

pub returns : goal.returns
returns g c =
    less_u-released g.W.Sink c.args.self.now c.put_as.new.self c.put.new.self c.args.next (eqb c.args.next 0x2B) refl c.requires
    (c.put.ensures.held ∙ c.put_as.ensures.held) c.put.ensures.before c.put_as.ensures.added c.put.ensures.added
