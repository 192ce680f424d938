use Rattle.std.proofs.Common.{List, ℕ, sym, ◌∙◌, subst}
use Rattle.ansi_strip.specs.LineWriter.{Takes}
use Rattle.ansi_strip.proofs.Left.{stripped-layout_calls}
use Rattle.ansi_strip.proofs.line_feeds.LineFeedsPerformText.print_with_layout.Goals as goal

pub returns : goal.returns
returns g c =
    subst (λ (t : List ℕ). Takes g.W.Sink c.args.self.now t c.take.new.self)
    (c.as_bytes.ensures.value ∙ sym (stripped-layout_calls c.args.text.now c.utf8.text)) c.take.ensures
