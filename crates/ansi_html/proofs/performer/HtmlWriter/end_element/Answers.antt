-- What is selected stays, and nothing is shown: where nothing was, all stays.
use Rattle.std.proofs.Common.{List, ℕ, sym, ap, ap₂, ◌∙◌, subst}
use Rattle.anstyle_parse.specs.Io.Output.{Adds}
use Rattle.anstyle_parse.proofs.Written.Output.{Adds-nil}
use Rattle.ansi_html.specs.Html.{Element, element, element_end}
use Rattle.ansi_html.specs.Writer.{output_of, standing_of}
use Rattle.ansi_html.proofs.LinerLemmas.{element_end-none, none-shown}
use Rattle.ansi_html.proofs.SelectedLemmas.{selected-kept}
use Rattle.ansi_html.proofs.performer.HtmlWriter.end_element.Goals as goal

pub returns-clause-standing : goal.returns-clause-standing
returns-clause-standing g c =
    let before = c.args.self.now in
    ap₂ (λ (one other : Element). record { shown = one; selected = other; returned = before.returned })
    (ap₂ element c.default-self.ensures c.end_shown.ensures.shown)
    (ap (λ (link : List ℕ). element before.selected link) c.end_shown.ensures.selected ∙ sym (selected-kept before))

pub returns-clause-added : goal.returns-clause-added
returns-clause-added g c =
    let before = c.args.self.now in
    subst (λ (link : List ℕ). Adds g.W.Sink (element_end (element before.shown link)) (output_of before) c.put_end.new.output) c.shown.ensures c.put_end.ensures

pub returns-then-shows_none-clause-standing : goal.returns-then-shows_none-clause-standing
returns-then-shows_none-clause-standing g c =
    let at = standing_of c.args.self.now in
    ap (λ (one : Element). record { shown = one; selected = at.selected; returned = at.returned })
    (none-shown at.shown (sym c.shows_none.ensures ∙ c.if-shows_none.true))

pub returns-then-shows_none-clause-added : goal.returns-then-shows_none-clause-added
returns-then-shows_none-clause-added g c =
    let before = c.args.self.now in
    let none = none-shown (standing_of before).shown (sym c.shows_none.ensures ∙ c.if-shows_none.true) in
    subst (λ (t : List ℕ). Adds g.W.Sink t (output_of before) (output_of before))
    (sym (ap element_end none ∙ element_end-none)) (Adds-nil g.W.Sink (output_of before))
