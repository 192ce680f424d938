use Rattle.anstyle_parse.proofs.Written.Output.{Adds-append}
use Rattle.ansi_html.specs.Html.{span_end, link_end}
use Rattle.ansi_html.proofs.performer.put_end.Goals as goal

pub returns : goal.returns
returns g c =
    Adds-append g.W.Sink (span_end c.args.style.now) (link_end c.args.link.now)
    c.args.output.now c.put_span_end.new.output c.put_link_end.new.output c.put_span_end.ensures c.put_link_end.ensures
