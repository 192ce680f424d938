-- All that the screen showed is drawn where that is wanted, and else what it shows.
use Rattle.std.proofs.Common.{subst}
use Rattle.anstyle_parse.specs.Io.Output.{Adds}
use Rattle.screen_svg.specs.declared.drawing.Extent.{Extent}
use Rattle.screen_svg.specs.Picture.{all_of, all_shown, svg}
use Rattle.screen_svg.proofs.ChoiceLemmas.{chosen, unchosen}
use Rattle.ansi2svg.proofs.picture.drawn.Goals as goal

pub returns-then-linked : goal.returns-then-linked
returns-then-linked g c =
    let it = c.args.linked.now in
    let shown = it.screen in
    let cursor = c.args.drawing.cursor in
    subst (λ (extent : Extent). Adds g.W.Sink (svg c.args.drawing c.args.named.title.now c.args.named.font.now it.links extent shown) c.args.output c.write_shown.result)
    (chosen (all_shown cursor shown) (all_of shown.display) it.is_all c.if-linked.true) c.write_shown.ensures

pub returns-else-linked : goal.returns-else-linked
returns-else-linked g c =
    let it = c.args.linked.now in
    let shown = it.screen in
    let cursor = c.args.drawing.cursor in
    subst (λ (extent : Extent). Adds g.W.Sink (svg c.args.drawing c.args.named.title.now c.args.named.font.now it.links extent shown) c.args.output c.write_svg.result)
    (unchosen (all_shown cursor shown) (all_of shown.display) it.is_all c.if-linked.false) c.write_svg.ensures.added
