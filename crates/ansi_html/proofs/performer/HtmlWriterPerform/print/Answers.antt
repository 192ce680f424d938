use Rattle.std.proofs.Common.{false, List, ℕ, sym, subst, ◌∙◌}
use Rattle.std.specs.Prelude.{encode_utf8}
use Rattle.anstyle_parse.specs.Io.Output.{Adds}
use Rattle.anstyle_parse.proofs.Written.Output.{Adds-append}
use Rattle.ansi_html.specs.Html.{beginning, escaped_text}
use Rattle.ansi_html.specs.Writer.{output_of, styling_of, standing_of}
use Rattle.ansi_html.proofs.HtmlLemmas.{call_html-print, standing_after-print}
use Rattle.ansi_html.proofs.performer.HtmlWriterPerform.print.Goals as goal

pub returns : goal.returns
returns g c =
    let before = c.args.self.now in
    let styling = styling_of before in
    let at = standing_of before in
    record {
      styling = c.begin_text.ensures.styling;
      standing = c.begin_text.ensures.standing ∙ sym (standing_after-print styling at c.args.c);
      added = subst (λ (text : List ℕ). Adds g.W.Sink text (output_of before) c.put_character.new.output) (sym (call_html-print styling at c.args.c))
          (Adds-append g.W.Sink (beginning styling at false) (escaped_text (encode_utf8 c.args.c)) (output_of before) (output_of c.begin_text.new.self) c.put_character.new.output c.begin_text.ensures.added c.put_character.ensures);
    }
