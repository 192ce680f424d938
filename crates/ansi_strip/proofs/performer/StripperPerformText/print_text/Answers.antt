use Rattle.std.proofs.Common.{List, ℕ, refl, sym, subst}
use Rattle.anstyle_parse.specs.Io.Output.{Adds}
use Rattle.anstyle_parse.proofs.Written.Texts.{flat_map-text_calls}
use Rattle.ansi_strip.specs.Strip.{stripped_call}
use Rattle.ansi_strip.specs.Stripper.{output_of}
use Rattle.ansi_strip.proofs.performer.StripperPerformText.print_text.Goals as goal

pub returns : goal.returns
returns g c =
    let text = c.args.text.now in
    subst (λ (t : List ℕ). Adds g.W.Sink t (output_of c.args.self.now) c.put_text.new.self) (sym (flat_map-text_calls stripped_call (λ _. refl) text c.utf8.text)) c.put_text.ensures
