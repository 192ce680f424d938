use Rattle.std.proofs.Common.{List, ℕ, refl, sym, ◌∙◌, subst}
use Rattle.anstyle_parse.proofs.Written.Texts.{flat_map-text_calls}
use Rattle.ansi_strip.specs.LineWriter.{Takes}
use Rattle.ansi_strip.specs.Strip.{stripped_call}
use Rattle.ansi_strip.proofs.line_feeds.LineFeedsPerformText.print_text.Goals as goal

pub returns : goal.returns
returns g c =
    let text = c.args.text.now in
    subst (λ (t : List ℕ). Takes g.W.Sink c.args.self.now t c.take.new.self)
    (c.as_bytes.ensures.value ∙ sym (flat_map-text_calls stripped_call (λ _. refl) text c.utf8.text)) c.take.ensures
