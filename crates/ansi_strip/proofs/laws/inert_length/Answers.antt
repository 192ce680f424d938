-- Inert text is no longer than stripped text.
use Rattle.std.proofs.Common.{arith}
use Rattle.ansi_strip.proofs.InertLemmas.{length-inert}
use Rattle.ansi_strip.proofs.Left.{length-stripped}
use Rattle.ansi_strip.proofs.PieceLength.{length-stripped_text}
use Rattle.ansi_strip.proofs.laws.inert_length.Goals as goal

pub returns-clause-whole : goal.returns-clause-whole
returns-clause-whole c = λ bytes calls are. omega (arith, length-inert calls, length-stripped calls, c.bounds.ensures.text bytes calls are)

pub returns-clause-piece : goal.returns-clause-piece
returns-clause-piece c = λ before bytes calls continues.
    omega (arith, length-inert calls, length-stripped_text calls, c.bounds.ensures.piece before bytes calls continues)
