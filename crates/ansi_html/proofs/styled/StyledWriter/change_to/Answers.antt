use Rattle.std.proofs.Common.{List, ℕ, subst}
use Rattle.anstyle_parse.specs.Io.Output.{Adds}
use Rattle.anstyle_parse.proofs.Written.Output.{Adds-append}
use Rattle.ansi_html.specs.ShownLinks.{link_in}
use Rattle.ansi_html.specs.Html.{element, element_begin, element_end}
use Rattle.ansi_html.specs.Styled.{shown_in}
use Rattle.ansi_html.proofs.styled.StyledWriter.change_to.Goals as goal

pub returns-clause-added : goal.returns-clause-added
returns-clause-added g c =
    let begin = c.args.self.now.output in
    let end = c.put_begin.new.output in
    let styling = c.args.self.now.styling in
    let shown = c.args.self.now.shown in
    let style = c.args.style in
    Adds-append g.W.Sink (element_end (shown_in c.args.self.now)) (element_begin styling (element style (link_in c.args.link.now))) begin c.put_end.new.output end
    (subst (λ (link : List ℕ). Adds g.W.Sink (element_end (element shown link)) begin c.put_end.new.output) c.uri.ensures c.put_end.ensures)
    (subst (λ (link : List ℕ). Adds g.W.Sink (element_begin styling (element style link)) c.put_end.new.output end) c.uri-2.ensures c.put_begin.ensures)
