use Rattle.std.proofs.Common.{subst}
use Rattle.ansi_html.specs.Writer.{TakesBytes}
use Rattle.ansi_html.proofs.BytesLemmas.{TakesAll-bytes}
use Rattle.ansi_html.proofs.performer.HtmlWriterPerformText.print_with_layout.Goals as goal

pub returns : goal.returns
returns g c =
    TakesAll-bytes g.W.Sink c.args.self.now c.put_text.new.self c.args.text.now c.utf8.text
    (subst (λ bytes. TakesBytes g.W.Sink c.args.self.now bytes c.put_text.new.self) c.as_bytes.ensures.value c.put_text.ensures)
