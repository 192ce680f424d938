-- A line that is open is ended first, and then no element is open.
use Rattle.std.proofs.Common.{[], ◌++◌, Bool, sym, ap, ◌∙◌, subst, append-nil}
use Rattle.std.specs.Prelude.{if◌then◌else◌}
use Rattle.anstyle_parse.specs.Io.Output.{Adds}
use Rattle.anstyle_parse.proofs.Written.Output.{Adds-append}
use Rattle.ansi_html.specs.declared.performer.HtmlWriter.{HtmlWriter}
use Rattle.ansi_html.specs.Html.{Standing, element_end}
use Rattle.ansi_html.specs.Lines.{line_end}
use Rattle.ansi_html.specs.Liner.{lined_of, output_of}
use Rattle.ansi_html.specs.Writer as writer
use Rattle.ansi_html.proofs.LinerLemmas.{element_end-none}
use Rattle.ansi_html.proofs.lines.LinesWriterWritingPerformer.into_output.Goals as goal
use Rattle.ansi_html.proofs.lines.LinesWriterWritingPerformer.into_output.Goals.{then-is_open, else-is_open}

pub returns : goal.returns
returns g c =
    let sink = g.W.Sink in
    let it = c.args.self in
    let shown = (lined_of it).at.shown in
    let end = c.into_output.result in
    let Ended : HtmlWriter g.row.W.Denot → Type 0 = λ html. Adds sink (writer.ending_from html []) (writer.output_of html) end in
    elim c.if-is_open.branch [
      | then-is_open w ↦
          let closed = w.end_line.new.self in
          let closes = element_end shown ++ line_end in
          let last = subst (λ t. Adds sink t (writer.output_of closed) end) (ap (λ (at : Standing). element_end at.shown) w.end_line.ensures.standing ∙ element_end-none)
          (subst Ended w.html-is c.into_output.ensures) in
          subst (λ t. Adds sink t (output_of it) end)
          (append-nil closes ∙ ap (λ (is : Bool). element_end shown ++ (if is then line_end else [])) (sym w.if-is_open.true))
          (Adds-append sink closes [] (output_of it) (writer.output_of closed) end w.end_line.ensures.added last)
      | else-is_open w ↦
          subst (λ t. Adds sink t (output_of it) end)
          (sym (append-nil (element_end shown)) ∙ ap (λ (is : Bool). element_end shown ++ (if is then line_end else [])) (sym w.if-is_open.false))
          (subst Ended w.html-is c.into_output.ensures)
    ]
