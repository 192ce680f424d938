-- The row ends.
use Rattle.std.proofs.Common.{sym, ◌∙◌}
use Rattle.screen_text.proofs.ShownLemmas.{adds-row}
use Rattle.screen_text.proofs.rows.put_row.Goals as goal

pub returns-then-not-goes_on : goal.returns-then-not-goes_on
returns-then-not-goes_on g c =
    adds-row g.W.Sink c.args.row.now c.used_of_written-end.result c.args.output.now c.put_cells.new.output c.put_byte.new.self
    c.used_of_written-end.ensures.used (sym c.goes_on.ensures ∙ c.if-not-goes_on.true) c.put_cells.ensures c.put_byte.ensures
