-- The row ends, or goes on.
use Rattle.std.proofs.Common.{sym, ◌∙◌}
use Rattle.screen_safe.proofs.TakenLemmas.{takes-row, takes-open-row}
use Rattle.screen_safe.proofs.rows.take_characters.Goals as goal

pub returns-then-not-goes_on : goal.returns-then-not-goes_on
returns-then-not-goes_on g c =
    takes-row g.W.Sink c.args.row.now c.used_of_written-end.result c.args.writer.now c.take_cells.new.writer c.take.new.self
    c.used_of_written-end.ensures.used (sym c.goes_on.ensures ∙ c.if-not-goes_on.true) c.take_cells.ensures c.take.ensures

pub returns-else-not-goes_on : goal.returns-else-not-goes_on
returns-else-not-goes_on g c =
    takes-open-row g.W.Sink c.args.row.now c.used_of_written-end.result c.args.writer.now c.take_cells.new.writer
    c.used_of_written-end.ensures.used (sym c.goes_on.ensures ∙ c.if-not-goes_on.false) c.take_cells.ensures
