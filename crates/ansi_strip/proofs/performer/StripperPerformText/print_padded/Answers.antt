use Rattle.std.proofs.Common.{List, ℕ, sym, subst}
use Rattle.anstyle_parse.specs.Io.Output.{Adds}
use Rattle.anstyle_parse.proofs.Characters.Layout.{IsUtf8-text_bytes}
use Rattle.ansi_strip.specs.Stripper.{output_of}
use Rattle.ansi_strip.proofs.Left.{stripped-layout_calls}
use Rattle.ansi_strip.proofs.performer.StripperPerformText.print_padded.Goals as goal

pub returns : goal.returns
returns g c =
    let text = c.args.text.now in
    subst (λ (t : List ℕ). Adds g.W.Sink t (output_of c.args.self.now) c.put_padded.new.self)
    (sym (stripped-layout_calls text (IsUtf8-text_bytes text c.requires.text))) c.put_padded.ensures
