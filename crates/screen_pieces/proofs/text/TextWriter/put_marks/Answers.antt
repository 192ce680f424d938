-- No mark, or two, one after the other.
use Rattle.std.specs.Prelude.{encode_utf8}
use Rattle.screen_pieces.proofs.TextLemmas.{Puts-nil, Puts-append}
use Rattle.screen_pieces.proofs.text.TextWriter.put_marks.Goals as goal

pub returns-in-Unmarked : goal.returns-in-Unmarked
returns-in-Unmarked c = rw c.in-Unmarked.is (Puts-nil c.args.self.now)

pub returns-in-Two : goal.returns-in-Two
returns-in-Two c =
    rw c.in-Two.is (Puts-append (encode_utf8 c.in-Two.first) (encode_utf8 c.in-Two.second) c.args.self.now c.put_char-in-Two.new.self c.put_char-in-Two-2.new.self
    c.put_char-in-Two.ensures c.put_char-in-Two-2.ensures)
