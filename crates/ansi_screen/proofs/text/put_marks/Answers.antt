-- Two marks, one after the other.
use Rattle.std.specs.Prelude.{encode_utf8}
use Rattle.anstyle_parse.proofs.Written.Output.{Adds-append}
use Rattle.ansi_screen.proofs.text.put_marks.Goals as goal

pub returns-in-Two : goal.returns-in-Two
returns-in-Two g c =
    rw c.in-Two.is (Adds-append g.W.Sink (encode_utf8 c.in-Two.first) (encode_utf8 c.in-Two.second) _ _ _
    c.put_char-in-Two.ensures c.put_char-in-Two-2.ensures)
