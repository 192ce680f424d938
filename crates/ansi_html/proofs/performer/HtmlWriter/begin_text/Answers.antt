use Rattle.std.proofs.Common.{Bool, true, ◌++◌, sym, ap, ◌∙◌, subst}
use Rattle.anstyle_parse.specs.Io.Output.{Adds}
use Rattle.anstyle_parse.proofs.Written.Output.{Adds-append}
use Rattle.ansi_html.specs.Html.{line_break, change}
use Rattle.ansi_html.specs.Writer.{output_of, styling_of, standing_of}
use Rattle.ansi_html.proofs.performer.HtmlWriter.begin_text.Goals as goal

pub returns-then-self-clause-added : goal.returns-then-self-clause-added
returns-then-self-clause-added g c =
    let before = c.args.self.now in
    let at = standing_of before in
    let changed = change (styling_of before) at.shown at.selected in
    let returned = sym (ap (λ it. it.returned) c.show_selected.ensures.standing) ∙ c.if-self.true in
    subst (λ (is : Bool). Adds g.W.Sink (changed ++ line_break is c.args.is_line_feed) (output_of before) c.put_line_break.new.output) (sym returned)
    (Adds-append g.W.Sink changed (line_break true c.args.is_line_feed) (output_of before) (output_of c.show_selected.new.self) c.put_line_break.new.output
    c.show_selected.ensures.added c.put_line_break.ensures)
