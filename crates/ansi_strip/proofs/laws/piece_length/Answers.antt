-- What is left is at most the text of the piece, which the parser's law bounds.
use Rattle.std.proofs.Common.{arith}
use Rattle.ansi_strip.proofs.PieceLength.{length-stripped_text}
use Rattle.ansi_strip.proofs.laws.piece_length.Goals as goal

pub returns : goal.returns
returns c = λ before bytes calls continues. omega (arith, length-stripped_text calls, c.bounds.ensures.piece before bytes calls continues)
