use Rattle.std.proofs.Common.{List, ℕ, subst}
use Rattle.anstyle_parse.specs.Io.Output.{Adds}
use Rattle.anstyle_parse.proofs.Written.Output.{Adds-append}
use Rattle.ansi_html.specs.ShownLinks.{shown_link, selected_link}
use Rattle.ansi_html.specs.Html.{element, element_begin, element_end}
use Rattle.ansi_html.proofs.performer.put_link_change.Goals as goal

pub returns : goal.returns
returns g c =
    let begin = c.args.output.now in
    let end = c.put_begin.new.output in
    let shown = element c.args.shown.now (shown_link c.args.links.now) in
    let next = element c.args.style.now (selected_link c.args.links.now) in
    Adds-append g.W.Sink (element_end shown) (element_begin c.args.styling next) begin c.put_end.new.output end
    (subst (λ (link : List ℕ). Adds g.W.Sink (element_end (element c.args.shown.now link)) begin c.put_end.new.output) c.shown.ensures c.put_end.ensures)
    (subst (λ (link : List ℕ). Adds g.W.Sink (element_begin c.args.styling (element c.args.style.now link)) c.put_end.new.output end) c.selected.ensures c.put_begin.ensures)
