use Rattle.std.proofs.Common.{List, ℕ, refl, sym, subst}
use Rattle.anstyle_parse.specs.Stream.Canon.{call_text}
use Rattle.anstyle_parse.specs.Views.CanonWriter.{output_of}
use Rattle.anstyle_parse.specs.Io.Output.{Adds}
use Rattle.anstyle_parse.proofs.Characters.Layout.{IsUtf8-text_bytes}
use Rattle.anstyle_parse.proofs.Written.Texts.{flat_map-layout_calls}
use Rattle.anstyle_parse.proofs.canon.writer.CanonWriterPerformText.print_padded.Goals as goal

pub returns : goal.returns
returns g c =
    let text = c.args.text.now in
    subst (λ (t : List ℕ). Adds g.W.Sink t (output_of c.args.self.now) c.put_padded.new.self)
    (sym (flat_map-layout_calls call_text (λ _. refl) (λ _ _. refl) text (IsUtf8-text_bytes text c.requires.text))) c.put_padded.ensures
