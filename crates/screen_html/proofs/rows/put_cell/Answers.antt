-- Its style and its link are selected, and its character and marks are written.
use Rattle.std.proofs.Common.{sym, ap, ◌∙◌, subst}
use Rattle.std.specs.Prelude.{encode_utf8}
use Rattle.std.proofs.lemmas.Grind.{flat_map-append}
use Rattle.anstyle_parse.specs.Io.Output.{Adds}
use Rattle.anstyle_parse.proofs.Written.Output.{Adds-append}
use Rattle.ansi_html.specs.Html.{element, change, escaped, escaped_text, after_text}
use Rattle.ansi_html.specs.Styled.{output_of, styling_of, shown_in}
use Rattle.ansi_html.proofs.HtmlLemmas.{after_text-some}
use Rattle.ansi_html.proofs.StyledWriterLemmas.{WritesStyled-text, WritesStyled-empty}
use Rattle.ansi_screen.specs.Text.{marks_text, cell_text}
use Rattle.screen_html.specs.Paid.{Purse, purse_of, purse_with, paid_one}
use Rattle.screen_html.specs.Shown.{cell_styled}
use Rattle.screen_html.proofs.RowLemmas.{cell_text-right, cell_text-other, cell_text-some}
use Rattle.screen_html.proofs.rows.put_cell.Goals as goal

pub returns-then-not-is_right-clause-written : goal.returns-then-not-is_right-clause-written
returns-then-not-is_right-clause-written g c =
    let cell = c.args.cell in
    let other = sym c.is_right.ensures ∙ c.if-not-is_right.true in
    let some = cell_text-some cell other in
    let old = c.args.writer.now in
    let character = encode_utf8 cell.character in
    let marks = marks_text cell.marks in
    let selected = output_of c.select.new.self in
    let new = output_of c.put_marks.new.writer in
    let text = cell_styled c.args.links.now.places cell in
    let before = purse_of c.args.last.now c.args.spare.now in
    let link_is = ap (λ (it : Purse). it.last) c.begin_link.ensures
    ∙ sym (after_text-some text.link (purse_with before text.link).last (cell_text cell) some) in
    WritesStyled-text g.W.Sink old c.select.new.self c.put_marks.new.writer (paid_one before text) some
    c.select.ensures.styling (c.select.ensures.shown ∙ ap (element cell.style) link_is)
    (subst (λ link. Adds g.W.Sink (change (styling_of old) (shown_in old) (element cell.style link)) (output_of old) selected) link_is c.select.ensures.added)
    (c.put_marks.ensures.styling ∙ c.put_char.ensures.styling) (c.put_marks.ensures.shown ∙ c.put_char.ensures.shown)
    (subst (λ t. Adds g.W.Sink (escaped_text t) selected new) (sym (cell_text-other cell other))
    (subst (λ t. Adds g.W.Sink t selected new) (sym (flat_map-append escaped character marks))
    (Adds-append g.W.Sink (escaped_text character) (escaped_text marks) selected (output_of c.put_char.new.self) new
    c.put_char.ensures.added c.put_marks.ensures.added)))

pub returns-then-not-is_right-clause-spent : goal.returns-then-not-is_right-clause-spent
returns-then-not-is_right-clause-spent g c =
    let cell = c.args.cell in
    let other = sym c.is_right.ensures ∙ c.if-not-is_right.true in
    let text = cell_styled c.args.links.now.places cell in
    let before = purse_of c.args.last.now c.args.spare.now in
    c.begin_link.ensures ∙ sym (after_text-some before (purse_with before text.link) (cell_text cell) (cell_text-some cell other))

pub returns-else-not-is_right-clause-written : goal.returns-else-not-is_right-clause-written
returns-else-not-is_right-clause-written g c =
    let right = sym c.is_right.ensures ∙ c.if-not-is_right.false in
    let before = purse_of c.args.last.now c.args.spare.now in
    WritesStyled-empty g.W.Sink c.args.writer.now (paid_one before (cell_styled c.args.links.now.places c.args.cell)) (cell_text-right c.args.cell right)

pub returns-else-not-is_right-clause-spent : goal.returns-else-not-is_right-clause-spent
returns-else-not-is_right-clause-spent g c =
    let right = sym c.is_right.ensures ∙ c.if-not-is_right.false in
    let text = cell_styled c.args.links.now.places c.args.cell in
    let before = purse_of c.args.last.now c.args.spare.now in
    sym (ap (after_text before (purse_with before text.link)) (cell_text-right c.args.cell right))
