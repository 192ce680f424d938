-- The element changes by its link, or by its style alone, or not.
use Rattle.std.proofs.Common.{List, ℕ, sym, ◌∙◌, subst}
use Rattle.std.specs.Str.{bytes_eq}
use Rattle.anstyle_parse.specs.Io.Output.{Adds}
use Rattle.anstyle_parse.proofs.Written.Output.{Adds-nil, Adds-append}
use Rattle.ansi_style.specs.Style.{are_equal}
use Rattle.ansi_html.specs.ShownLinks.{shown_link, selected_link}
use Rattle.ansi_html.specs.Html.{element, span_begin, span_end}
use Rattle.ansi_html.proofs.HtmlLemmas.{false-from_not, true-from_not, change-link, change-style, change-none}
use Rattle.ansi_html.proofs.performer.put_change.Goals as goal

pub returns-then-differ : goal.returns-then-differ
returns-then-differ g c =
    let shown = element c.args.shown.now (shown_link c.args.links.now) in
    let next = element c.args.style.now (selected_link c.args.links.now) in
    let other = false-from_not (bytes_eq shown.link next.link) (sym c.differ.ensures ∙ c.if-differ.true) in
    subst (λ (text : List ℕ). Adds g.W.Sink text c.args.output.now c.put_link_change.new.output)
    (sym (change-link c.args.styling shown next other)) c.put_link_change.ensures

pub returns-then-ne : goal.returns-then-ne
unfolding are_equal
returns-then-ne g c =
    let begin = c.args.output.now in
    let end = c.put_span_begin.new.output in
    let shown = element c.args.shown.now (shown_link c.args.links.now) in
    let next = element c.args.style.now (selected_link c.args.links.now) in
    let same = true-from_not (bytes_eq shown.link next.link) (sym c.differ.ensures ∙ c.if-differ.false) in
    let other = false-from_not (are_equal shown.style next.style) (sym c.ne.ensures ∙ c.if-ne.true) in
    subst (λ (text : List ℕ). Adds g.W.Sink text begin end) (sym (change-style c.args.styling shown next same other))
    (Adds-append g.W.Sink (span_end shown.style) (span_begin c.args.styling next.style) begin c.put_span_end.new.output end c.put_span_end.ensures c.put_span_begin.ensures)

pub returns-else-ne : goal.returns-else-ne
unfolding are_equal
returns-else-ne g c =
    let begin = c.args.output.now in
    let shown = element c.args.shown.now (shown_link c.args.links.now) in
    let next = element c.args.style.now (selected_link c.args.links.now) in
    let same = true-from_not (bytes_eq shown.link next.link) (sym c.differ.ensures ∙ c.if-differ.false) in
    let equal = true-from_not (are_equal shown.style next.style) (sym c.ne.ensures ∙ c.if-ne.false) in
    subst (λ (text : List ℕ). Adds g.W.Sink text begin begin) (sym (change-none c.args.styling shown next same equal)) (Adds-nil g.W.Sink begin)
