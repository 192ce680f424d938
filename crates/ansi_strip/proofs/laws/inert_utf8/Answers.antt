-- The calls of bytes are lawful, and those print characters.
use Rattle.std.proofs.Common.{◌++◌}
use Rattle.ansi_strip.proofs.InertLemmas.{IsInertText-lawful, IsInertText-later}
use Rattle.ansi_strip.proofs.laws.inert_utf8.Goals as goal

pub returns-clause-whole : goal.returns-clause-whole
returns-clause-whole c = λ bytes calls are. IsInertText-lawful calls (c.calls_are_lawful.ensures bytes calls are)

pub returns-clause-piece : goal.returns-clause-piece
returns-clause-piece c = λ before bytes calls continues.
    let first = c.calls_of_bytes.ensures.some before in
    IsInertText-later first.0 calls (c.calls_are_lawful.ensures (before ++ bytes) (first.0 ++ calls) (continues first.0 first.1))
