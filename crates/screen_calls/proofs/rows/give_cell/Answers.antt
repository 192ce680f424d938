-- Its link and its style are selected, and its character and marks are printed.
use Rattle.std.proofs.Common.{sym, ap, ap₂, ◌∙◌}
use Rattle.screen_html.specs.Paid.{Purse}
use Rattle.screen_calls.specs.Calls.{pen}
use Rattle.screen_calls.specs.Rows.{pen_in}
use Rattle.screen_calls.proofs.ReceivedLemmas.{cell-shown, cell-right, pen-shown, pen-right}
use Rattle.screen_calls.proofs.rows.give_cell.Goals as goal

pub returns-then-not-is_right-clause-received : goal.returns-then-not-is_right-clause-received
returns-then-not-is_right-clause-received g c =
    cell-shown g.P.PerformText.receives g.met.P.PerformText.follows.more c.args.links.now.places (pen_in c.args.pen.now) c.args.cell
    c.args.performer.now c.select_link.new.performer c.select_style.new.performer c.give_character.new.performer c.give_marks.new.performer _
    (sym c.is_right.ensures ∙ c.if-not-is_right.true) (ap (λ (it : Purse). it.last) c.select_link.ensures.paid)
    c.select_link.ensures.received c.select_style.ensures.received c.give_character.ensures c.give_marks.ensures

pub returns-then-not-is_right-clause-pen : goal.returns-then-not-is_right-clause-pen
returns-then-not-is_right-clause-pen g c =
    pen-shown c.args.links.now.places (pen_in c.args.pen.now) _ c.args.cell (sym c.is_right.ensures ∙ c.if-not-is_right.true)
    (ap₂ pen c.select_style.ensures.selected c.select_link.ensures.paid)

pub returns-else-not-is_right-clause-received : goal.returns-else-not-is_right-clause-received
returns-else-not-is_right-clause-received g c =
    cell-right g.P.PerformText.receives g.met.P.PerformText.follows.more g.met.P.PerformText.follows.none c.args.links.now.places (pen_in c.args.pen.now) c.args.cell
    c.args.performer.now (sym c.is_right.ensures ∙ c.if-not-is_right.false)

pub returns-else-not-is_right-clause-pen : goal.returns-else-not-is_right-clause-pen
returns-else-not-is_right-clause-pen g c =
    pen-right c.args.links.now.places (pen_in c.args.pen.now) c.args.cell (sym c.is_right.ensures ∙ c.if-not-is_right.false)
