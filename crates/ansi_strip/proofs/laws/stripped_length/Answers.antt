-- What is left of calls is no longer than their canonical text.
use Rattle.std.proofs.Common.{arith}
use Rattle.ansi_strip.proofs.Left.{length-stripped}
use Rattle.ansi_strip.proofs.laws.stripped_length.Goals as goal

pub returns : goal.returns
returns c = λ bytes calls are. omega (arith, length-stripped calls, c.bounds.ensures.text bytes calls are)
