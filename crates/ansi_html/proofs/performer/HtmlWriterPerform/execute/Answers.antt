use Rattle.std.proofs.Common.{refl, sym, ◌∙◌, ◌++◌, eqb, subst, append-nil}
use Rattle.anstyle_parse.specs.Io.Output.{Adds}
use Rattle.anstyle_parse.proofs.Written.Output.{Adds-nil}
use Rattle.ansi_html.specs.Html.{beginning, escaped}
use Rattle.ansi_html.specs.Writer.{output_of, styling_of, standing_of}
use Rattle.ansi_html.proofs.HtmlLemmas.{call_html-layout, standing_after-layout, call_html-other, standing_after-other}
use Rattle.ansi_html.proofs.performer.HtmlWriterPerform.execute.Goals as goal

pub returns-then-is_layout : goal.returns-then-is_layout
returns-then-is_layout g c =
    let before = c.args.self.now in
    let byte = c.args.byte in
    let styling = styling_of before in
    let at = standing_of before in
    let is = sym c.is_layout.ensures ∙ c.if-is_layout.true in
    let taken = c.put_text_byte.ensures in
    record {
      styling = taken.styling;
      standing = taken.standing ∙ sym (standing_after-layout styling at byte is);
      added = subst (λ text. Adds g.W.Sink text (output_of before) (output_of c.put_text_byte.new.self))
          (append-nil (beginning styling at (eqb byte 0x0A) ++ escaped byte) ∙ sym (call_html-layout styling at byte is)) taken.added;
    }

pub returns-else-is_layout : goal.returns-else-is_layout
returns-else-is_layout g c =
    let before = c.args.self.now in
    let byte = c.args.byte in
    let styling = styling_of before in
    let at = standing_of before in
    let no = sym c.is_layout.ensures ∙ c.if-is_layout.false in
    record {
      styling = refl;
      standing = sym (standing_after-other styling at byte no);
      added = subst (λ text. Adds g.W.Sink text (output_of before) (output_of before)) (sym (call_html-other styling at byte no)) (Adds-nil g.W.Sink (output_of before));
    }
