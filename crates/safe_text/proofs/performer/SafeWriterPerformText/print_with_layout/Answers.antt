use Rattle.std.proofs.Common.{List, ℕ, sym, subst}
use Rattle.std.specs.Str.{chars}
use Rattle.safe_text.specs.Writer.{Takes}
use Rattle.safe_text.proofs.CallLemmas.{characters-layout}
use Rattle.safe_text.proofs.performer.SafeWriterPerformText.print_with_layout.Goals as goal

pub returns : goal.returns
returns g c =
    subst (λ (cs : List ℕ). Takes g.W.Sink c.args.self.now cs c.take_text.new.self) (sym (characters-layout (chars c.args.text.now))) c.take_text.ensures
