-- By all that makes up a style.
use Rattle.screen_html.proofs.AlikeLemmas.{style_same}
use Rattle.screen_html.proofs.alike.is_alike.Goals as goal

pub returns-then-cell-other-clause-style : goal.returns-then-cell-other-clause-style
returns-then-cell-other-clause-style c = λ same.
    let is = c.are_same_styles.ensures in
    style_same c.args.cell.now.style c.args.other.now.style (is.attributes same) (is.underline same) (is.foreground same) (is.background same)
