-- The calls of bytes are lawful, and those print characters.
use Rattle.std.proofs.Common.{◌++◌}
use Rattle.ansi_strip.proofs.Showable.{IsUtf8-lawful, IsUtf8-later}
use Rattle.ansi_strip.proofs.laws.stripped_utf8.Goals as goal

pub returns-clause-whole : goal.returns-clause-whole
returns-clause-whole c = λ bytes calls are. IsUtf8-lawful calls (c.calls_are_lawful.ensures bytes calls are)

pub returns-clause-piece : goal.returns-clause-piece
returns-clause-piece c = λ before bytes calls continues.
    let first = c.calls_of_bytes.ensures.some before in
    IsUtf8-later first.0 calls (c.calls_are_lawful.ensures (before ++ bytes) (first.0 ++ calls) (continues first.0 first.1))
