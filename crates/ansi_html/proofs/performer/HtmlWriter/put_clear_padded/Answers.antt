use Rattle.std.proofs.Common.{◌≡◌, ◌∷◌, ◌++◌, List, ℕ, sym, ap, ◌∙◌, eqb, subst}
use Rattle.anstyle_parse.specs.Io.Output.{Adds}
use Rattle.anstyle_parse.proofs.Written.Output.{Adds-append}
use Rattle.ansi_html.specs.Grammar.{AreClear}
use Rattle.ansi_html.specs.Html.{beginning}
use Rattle.ansi_html.specs.Writer.{output_of, styling_of, standing_of, bytes_html, standing_after_bytes}
use Rattle.ansi_html.proofs.BytesLemmas.{bytes_html-clear, standing_after_bytes-clear}
use Rattle.ansi_html.proofs.performer.HtmlWriter.put_clear_padded.Goals as goal

pub returns-in-Some : goal.returns-in-Some
returns-in-Some g c =
    let before = c.args.self.now in
    let styling = styling_of before in
    let at = standing_of before in
    let text = c.args.clear.now in
    let first = c.in-Some.first.now in
    let bytes = c.in-Some.field-0-1.now in
    let parted : text ≡ first ∷ bytes = sym c.as_bytes.ensures ∙ c.in-Some.ensures.cases.0 in
    let clear = subst AreClear parted c.requires.clear in
    record {
      styling = c.begin_text.ensures.styling;
      standing = c.begin_text.ensures.standing ∙ sym (standing_after_bytes-clear styling at first bytes clear) ∙ ap (λ l. standing_after_bytes at l) (sym parted);
      added = subst (λ (t : List ℕ). Adds g.W.Sink t (output_of before) c.put_padded.new.self)
          (ap (λ l. beginning styling at (eqb first 0x0A) ++ l) parted ∙ sym (bytes_html-clear styling at first bytes clear) ∙ ap (bytes_html styling at) (sym parted))
          (Adds-append g.W.Sink (beginning styling at (eqb first 0x0A)) text (output_of before) (output_of c.begin_text.new.self) c.put_padded.new.self c.begin_text.ensures.added c.put_padded.ensures);
    }
