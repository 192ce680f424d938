-- From the element of one text to that of another, unless they are the same.
use Rattle.std.proofs.Common.{List, ℕ, sym, ap₂, ◌∙◌, subst}
use Rattle.std.specs.Str.{bytes_eq}
use Rattle.std.proofs.lemmas.Slice.Eq.{bytes_eq-Decides}
use Rattle.anstyle_parse.specs.Io.Output.{Adds}
use Rattle.anstyle_parse.proofs.Written.Output.{Adds-nil}
use Rattle.ansi_style.specs.Style.{are_equal}
use Rattle.ansi_style.proofs.EqualityLemmas.{are_equal-same}
use Rattle.ansi_html.specs.ShownLinks.{link_in}
use Rattle.ansi_html.specs.Html.{element}
use Rattle.ansi_html.specs.Styled.{shown_in}
use Rattle.ansi_html.proofs.HtmlLemmas.{false-from_not, true-from_not, change-link, change-style, change-none}
use Rattle.ansi_html.proofs.styled.StyledWriter.select.Goals as goal

pub returns-then-ne-clause-added : goal.returns-then-ne-clause-added
returns-then-ne-clause-added g c =
    let shown = shown_in c.args.self.now in
    let next = element c.args.style (link_in c.args.link.now) in
    let other = ap₂ bytes_eq (sym c.uri.ensures) (sym c.uri-2.ensures) ∙ false-from_not _ (sym c.ne.ensures ∙ c.if-ne.true) in
    subst (λ (text : List ℕ). Adds g.W.Sink text c.args.self.now.output c.change_to.new.self.output) (sym (change-link c.args.self.now.styling shown next other)) c.change_to.ensures.added

pub returns-then-ne-2-clause-added : goal.returns-then-ne-2-clause-added
unfolding are_equal
returns-then-ne-2-clause-added g c =
    let shown = shown_in c.args.self.now in
    let next = element c.args.style (link_in c.args.link.now) in
    let same = ap₂ bytes_eq (sym c.uri.ensures) (sym c.uri-2.ensures) ∙ true-from_not _ (sym c.ne.ensures ∙ c.if-ne.false) in
    let other = false-from_not (are_equal shown.style next.style) (sym c.ne-else-ne.ensures ∙ c.if-ne-2.true) in
    subst (λ (text : List ℕ). Adds g.W.Sink text c.args.self.now.output c.change_style.new.self.output) (sym (change-style c.args.self.now.styling shown next same other)) c.change_style.ensures.added

pub returns-else-ne-2-clause-shown : goal.returns-else-ne-2-clause-shown
unfolding are_equal
returns-else-ne-2-clause-shown g c =
    let shown = shown_in c.args.self.now in
    let same = ap₂ bytes_eq (sym c.uri.ensures) (sym c.uri-2.ensures) ∙ true-from_not _ (sym c.ne.ensures ∙ c.if-ne.false) in
    let equal = true-from_not (are_equal shown.style c.args.style) (sym c.ne-else-ne.ensures ∙ c.if-ne-2.false) in
    ap₂ element (are_equal-same shown.style c.args.style equal) ((bytes_eq-Decides shown.link (link_in c.args.link.now)).0 same)

pub returns-else-ne-2-clause-added : goal.returns-else-ne-2-clause-added
unfolding are_equal
returns-else-ne-2-clause-added g c =
    let shown = shown_in c.args.self.now in
    let next = element c.args.style (link_in c.args.link.now) in
    let same = ap₂ bytes_eq (sym c.uri.ensures) (sym c.uri-2.ensures) ∙ true-from_not _ (sym c.ne.ensures ∙ c.if-ne.false) in
    let equal = true-from_not (are_equal shown.style next.style) (sym c.ne-else-ne.ensures ∙ c.if-ne-2.false) in
    subst (λ (text : List ℕ). Adds g.W.Sink text c.args.self.now.output c.args.self.now.output) (sym (change-none c.args.self.now.styling shown next same equal)) (Adds-nil g.W.Sink c.args.self.now.output)
