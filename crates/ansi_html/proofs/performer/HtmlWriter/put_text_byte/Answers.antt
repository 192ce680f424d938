use Rattle.std.proofs.Common.{◌++◌, List, ℕ, eqb, sym, ap, subst, append-nil}
use Rattle.anstyle_parse.specs.Io.Output.{Adds}
use Rattle.anstyle_parse.proofs.Written.Output.{Adds-append}
use Rattle.ansi_html.specs.Html.{beginning, escaped}
use Rattle.ansi_html.specs.Writer.{output_of, styling_of, standing_of}
use Rattle.ansi_html.proofs.performer.HtmlWriter.put_text_byte.Goals as goal

pub returns : goal.returns
returns g c =
    let before = c.args.self.now in
    let byte = c.args.byte in
    let begun = beginning (styling_of before) (standing_of before) (eqb byte 0x0A) in
    record {
      styling = c.begin_text.ensures.styling;
      standing = ap (λ it. record { shown = it.shown; selected = it.selected; returned = eqb byte 0x0D }) c.begin_text.ensures.standing;
      added = subst (λ (t : List ℕ). Adds g.W.Sink t (output_of before) c.put_layout.new.output) (sym (append-nil (begun ++ escaped byte)))
          (Adds-append g.W.Sink begun (escaped byte) (output_of before) (output_of c.begin_text.new.self) c.put_layout.new.output c.begin_text.ensures.added c.put_layout.ensures);
    }
