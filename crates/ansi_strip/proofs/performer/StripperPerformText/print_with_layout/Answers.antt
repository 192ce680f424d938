use Rattle.std.proofs.Common.{List, ℕ, sym, subst}
use Rattle.anstyle_parse.specs.Io.Output.{Adds}
use Rattle.ansi_strip.specs.Stripper.{output_of}
use Rattle.ansi_strip.proofs.Left.{stripped-layout_calls}
use Rattle.ansi_strip.proofs.performer.StripperPerformText.print_with_layout.Goals as goal

pub returns : goal.returns
returns g c =
    subst (λ (t : List ℕ). Adds g.W.Sink t (output_of c.args.self.now) c.put_text.new.self) (sym (stripped-layout_calls c.args.text.now c.utf8.text)) c.put_text.ensures
