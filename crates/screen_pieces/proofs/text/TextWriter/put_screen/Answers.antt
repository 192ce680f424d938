-- One row more.
use Rattle.screen_pieces.proofs.TextLemmas.{Puts-nil, Puts-row}
use Rattle.screen_pieces.proofs.text.TextWriter.put_screen.Goals as goal

pub loop-row-init : goal.loop-row-init
loop-row-init c = Puts-nil c.args.self.now

pub loop-row-preserved : goal.loop-row-preserved
loop-row-preserved c =
    Puts-row c.args.screen.now.display c.loop-row.row c.row.result.now
    c.args.self.now c.loop-row.self c.put_row.new.self c.put_byte.new.self c.row.ensures.cells c.loop-row.invariant c.put_row.ensures c.put_byte.ensures
