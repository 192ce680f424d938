-- It comes as a character that is written visibly.
use Rattle.std.proofs.Common.{List, ℕ, refl, subst}
use Rattle.anstyle_parse.specs.Io.Output.{Adds}
use Rattle.safe_text.specs.Writer.{output_of}
use Rattle.safe_text.proofs.WriterLemmas.{mark-taken}
use Rattle.safe_text.proofs.performer.SafeWriter.mark.Goals as goal

pub returns : goal.returns
returns g c =
    mark-taken g.W.Sink c.args.self.now c.release.new.self _ c.args.hidden c.release.ensures refl refl
    (subst (λ (t : List ℕ). Adds g.W.Sink t (output_of c.release.new.self) c.put.new.self) c.mark_text.ensures c.put.ensures)
