-- The margins are within the rows.
use Rattle.std.proofs.Common.{[], ◌∷◌, ◌+◌, subst, arith}
use Rattle.screen_draw.specs.Draw.{sequence}
use Rattle.screen_draw.specs.Drawing.{Draws}
use Rattle.screen_draw.proofs.rest.put_margins_of.Goals as goal

pub put_margins-requires-clause-top : goal.put_margins-requires-clause-top
put_margins-requires-clause-top g c =
    let sized = c.margins-top.ensures.sized in
    omega (arith, c.margins-top.ensures.top, sized.margins, sized.margins_within, sized.rows_limit)

pub put_margins-requires-clause-bottom : goal.put_margins-requires-clause-bottom
put_margins-requires-clause-bottom g c =
    let sized = c.margins-top.ensures.sized in
    omega (arith, c.margins-top.ensures.bottom, sized.margins_within, sized.rows_limit)

pub returns : goal.returns
returns g c =
    let d = c.args.screen.now.display in
    subst (λ top. Draws g.W.Sink (sequence ((top + 1) ∷ d.bottom ∷ []) 0x72 ∷ []) c.args.output.now c.put_margins.new.output) c.margins-top.ensures.top
    (subst (λ bottom. Draws g.W.Sink (sequence ((c.margins-top.result.0 + 1) ∷ bottom ∷ []) 0x72 ∷ []) c.args.output.now c.put_margins.new.output)
    c.margins-top.ensures.bottom c.put_margins.ensures)
