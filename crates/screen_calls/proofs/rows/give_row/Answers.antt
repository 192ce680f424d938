-- The cells are given on, and the line feed.
use Rattle.std.proofs.Common.{sym, ◌∙◌}
use Rattle.screen_calls.specs.Rows.{pen_in}
use Rattle.screen_calls.proofs.ReceivedLemmas.{row-fed, row-open, pen-row_fed, pen-row_open}
use Rattle.screen_calls.proofs.rows.give_row.Goals as goal

pub returns-then-not-goes_on-clause-received : goal.returns-then-not-goes_on-clause-received
returns-then-not-goes_on-clause-received g c =
    row-fed g.P.PerformText.receives g.met.P.PerformText.follows.more c.args.links.now.places (pen_in c.args.pen.now) c.args.row.now c.used_of_written-end.result
    c.used_of_written-end.ensures.used c.args.performer.now c.give_cells.new.performer c.give_feed.new.performer (pen_in c.give_cells.new.pen)
    c.give_cells.ensures.received c.give_cells.ensures.pen c.give_feed.ensures.received (sym c.goes_on.ensures ∙ c.if-not-goes_on.true)

pub returns-then-not-goes_on-clause-pen : goal.returns-then-not-goes_on-clause-pen
returns-then-not-goes_on-clause-pen g c =
    pen-row_fed c.args.links.now.places (pen_in c.args.pen.now) c.args.row.now c.used_of_written-end.result c.used_of_written-end.ensures.used
    (pen_in c.give_cells.new.pen) (pen_in c.give_feed.new.pen) c.give_cells.ensures.pen c.give_feed.ensures.pen (sym c.goes_on.ensures ∙ c.if-not-goes_on.true)

pub returns-else-not-goes_on-clause-received : goal.returns-else-not-goes_on-clause-received
returns-else-not-goes_on-clause-received g c =
    row-open g.P.PerformText.receives g.met.P.PerformText.follows.more c.args.links.now.places (pen_in c.args.pen.now) c.args.row.now c.used_of_written-end.result
    c.used_of_written-end.ensures.used c.args.performer.now c.give_cells.new.performer c.give_cells.ensures.received (sym c.goes_on.ensures ∙ c.if-not-goes_on.false)

pub returns-else-not-goes_on-clause-pen : goal.returns-else-not-goes_on-clause-pen
returns-else-not-goes_on-clause-pen g c =
    pen-row_open c.args.links.now.places (pen_in c.args.pen.now) c.args.row.now c.used_of_written-end.result c.used_of_written-end.ensures.used
    (pen_in c.give_cells.new.pen) c.give_cells.ensures.pen (sym c.goes_on.ensures ∙ c.if-not-goes_on.false)
