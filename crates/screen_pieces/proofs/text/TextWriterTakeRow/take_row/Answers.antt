-- A row is put, and whether it goes on is kept.
use Rattle.screen_pieces.proofs.LineLemmas.{puts-open}
use Rattle.screen_pieces.proofs.text.TextWriterTakeRow.take_row.Goals as goal

pub returns : goal.returns
returns c = puts-open c.args.row.now c.args.self.now c.put_line.new.self c.goes_on-self.result c.put_line.ensures c.goes_on-self.ensures
