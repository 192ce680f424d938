use Rattle.anstyle_parse.proofs.Written.Output.{Adds-append}
use Rattle.ansi_html.specs.Html.{span_begin, link_begin}
use Rattle.ansi_html.proofs.performer.put_begin.Goals as goal

pub returns : goal.returns
returns g c =
    Adds-append g.W.Sink (link_begin c.args.styling c.args.link.now) (span_begin c.args.styling c.args.style.now)
    c.args.output.now c.put_link_begin.new.output c.put_span_begin.new.output c.put_link_begin.ensures c.put_span_begin.ensures
