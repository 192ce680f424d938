-- A row's cells, and its end.
use Rattle.std.proofs.Common.{true, false, sym, ◌∙◌}
use Rattle.screen_pieces.proofs.TextLemmas.{Puts-nil}
use Rattle.screen_pieces.proofs.LineLemmas.{puts-row}
use Rattle.screen_pieces.proofs.text.TextWriter.put_line.Goals as goal

pub returns-then-not-goes_on : goal.returns-then-not-goes_on
returns-then-not-goes_on c =
    puts-row c.args.row.now c.used_of_written-end.result false c.args.self.now c.put_cells.new.self c.put_byte.new.self
    c.used_of_written-end.ensures.used (sym c.goes_on.ensures ∙ c.if-not-goes_on.true) c.put_cells.ensures c.put_byte.ensures

pub returns-else-not-goes_on : goal.returns-else-not-goes_on
returns-else-not-goes_on c =
    puts-row c.args.row.now c.used_of_written-end.result true c.args.self.now c.put_cells.new.self c.put_cells.new.self
    c.used_of_written-end.ensures.used (sym c.goes_on.ensures ∙ c.if-not-goes_on.false) c.put_cells.ensures (Puts-nil c.put_cells.new.self)
