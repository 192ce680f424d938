-- Where it stands, its style, and then what is shown.
use Rattle.std.proofs.Common.{◌++◌}
use Rattle.screen_draw.specs.Draw.{there_calls, style_calls, shown_calls}
use Rattle.screen_draw.proofs.DrawLemmas.{draws-append}
use Rattle.screen_draw.proofs.cells.put_drawn.Goals as goal

pub returns : goal.returns
returns g c =
    draws-append g.W.Sink (there_calls c.args.width c.args.place c.args.pen)
    (style_calls c.args.pen.style c.args.cell.style ++ shown_calls c.args.cell) _ _ _ c.put_there.ensures
    (draws-append g.W.Sink (style_calls c.args.pen.style c.args.cell.style) (shown_calls c.args.cell) _ _ _
    c.put_style_change.ensures c.put_shown.ensures)
