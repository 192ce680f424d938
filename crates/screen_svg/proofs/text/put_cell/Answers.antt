use Rattle.std.proofs.Common.{◌≡◌, false, List, ℕ, [], ◌++◌, sym, ◌∙◌, subst}
use Rattle.anstyle_parse.specs.Io.Output.{Adds}
use Rattle.ansi_html.specs.Html.{escaped_text}
use Rattle.ansi_screen.specs.Cells.{is_right}
use Rattle.screen_svg.specs.Characters.{character_text, marks_text}
use Rattle.screen_svg.proofs.AddsLemmas.{Adds-escaped}
use Rattle.screen_svg.proofs.ChoiceLemmas.{unchosen}
use Rattle.screen_svg.proofs.text.put_cell.Goals as goal

pub returns-then-not-is_right : goal.returns-then-not-is_right
returns-then-not-is_right g c =
    let cell = c.args.cell in
    let whole : is_right cell.part ≡ false = sym c.is_right.ensures ∙ c.if-not-is_right.true in
    let start = c.args.output.now in
    let end = c.put_marks.new.output in
    let character = character_text cell.character in
    let marks = marks_text cell.marks in
    subst (λ (t : List ℕ). Adds g.W.Sink (escaped_text t) start end) (unchosen [] (character ++ marks) (is_right cell.part) whole)
    (Adds-escaped g.W.Sink character marks start c.put_allowed.new.output end c.put_allowed.ensures c.put_marks.ensures)
