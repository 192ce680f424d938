use Rattle.anstyle_parse.proofs.Written.Output.{Adds-append}
use Rattle.ansi_html.specs.Html.{span_begin, span_end}
use Rattle.ansi_html.proofs.styled.StyledWriter.change_style.Goals as goal

pub returns-clause-added : goal.returns-clause-added
returns-clause-added g c =
    Adds-append g.W.Sink (span_end c.args.self.now.shown) (span_begin c.args.self.now.styling c.args.style)
    c.args.self.now.output c.put_span_end.new.output c.put_span_begin.new.output c.put_span_end.ensures c.put_span_begin.ensures
