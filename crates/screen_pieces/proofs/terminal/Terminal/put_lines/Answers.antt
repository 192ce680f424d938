-- The rows are put, and the last line is ended.
use Rattle.std.proofs.Common.{false}
use Rattle.screen_pieces.specs.Rows.{rows_numbered, lines_of}
use Rattle.screen_pieces.proofs.LineLemmas.{puts-lines}
use Rattle.screen_pieces.proofs.terminal.Terminal.put_lines.Goals as goal

pub returns : goal.returns
unfolding lines_of
returns c =
    puts-lines (rows_numbered c.args.which c.args.self.now) false c.args.writer.now c.hand_on.new.taker c.put_end.new.self
    c.requires.closed c.hand_on.ensures c.put_end.ensures
