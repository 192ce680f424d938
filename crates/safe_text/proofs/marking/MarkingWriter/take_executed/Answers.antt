-- No run of hidden text goes on over a control.
use Rattle.std.proofs.Common.{[], ◌∷◌, false, subst}
use Rattle.anstyle_parse.specs.Stream.Call.{execute}
use Rattle.safe_text.specs.Writer.{Takes}
use Rattle.safe_text.specs.MarkingWriter.{writer_in, style_in, open_in}
use Rattle.safe_text.proofs.MarkLemmas.{hiding-same, one-marked}
use Rattle.safe_text.proofs.marking.MarkingWriter.take_executed.Goals as goal

pub returns : goal.returns
returns g c =
    one-marked g.W.Sink c.args.self.now _ (writer_in c.mark.new.self) (execute c.args.byte) c.mark.ensures.taken
    (subst (λ n. Takes g.W.Sink (writer_in c.mark.new.self) (n ∷ []) c.take.new.self) c.from.ensures c.take.ensures)
    (hiding-same (style_in c.mark.new.self) (style_in c.args.self.now) (open_in c.mark.new.self) false c.mark.ensures.style c.mark.ensures.on)
