use Rattle.anstyle_parse.proofs.Written.Output.{Adds-append}
use Rattle.ansi_html.specs.Html.{element_end}
use Rattle.ansi_html.specs.Lines.{line_end}
use Rattle.ansi_html.specs.Writer.{output_of, standing_of}
use Rattle.ansi_html.proofs.performer.HtmlWriter.end_line.Goals as goal

pub returns-clause-added : goal.returns-clause-added
returns-clause-added g c =
    let before = c.args.self.now in
    let ended = c.end_element.new.self in
    Adds-append g.W.Sink (element_end (standing_of before).shown) line_end (output_of before) (output_of ended) c.put.new.self c.end_element.ensures.added c.put.ensures
