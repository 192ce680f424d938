-- All that the screen showed is drawn where that is wanted, and else what it shows.
use Rattle.std.proofs.Common.{ℕ, true, false, List, subst}
use Rattle.anstyle_parse.specs.Io.Output.{Adds}
use Rattle.screen_pieces.proofs.PictureLemmas.{drawn-parts}
use Rattle.screen_pieces.proofs.picture.write_drawn.Goals as goal

pub returns-then-is_all : goal.returns-then-is_all
returns-then-is_all g c =
    subst (λ (text : List ℕ). Adds g.W.Sink text c.args.output c.write_shown.result)
    (drawn-parts true c.args.is_all c.args.drawing c.args.title.now c.args.font.now c.if-is_all.true c.links-links.ensures c.screen-screen.ensures) c.write_shown.ensures

pub returns-else-is_all : goal.returns-else-is_all
returns-else-is_all g c =
    subst (λ (text : List ℕ). Adds g.W.Sink text c.args.output c.write_svg.result)
    (drawn-parts false c.args.is_all c.args.drawing c.args.title.now c.args.font.now c.if-is_all.false c.links-links.ensures c.screen-screen.ensures) c.write_svg.ensures.added
