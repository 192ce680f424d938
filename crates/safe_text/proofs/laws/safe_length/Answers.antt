-- Each byte makes at most one call, and each call at most one character, with a mark before it.
use Rattle.std.proofs.Common.{arith}
use Rattle.safe_text.specs.Safe.{characters}
use Rattle.safe_text.specs.Marks.{marked}
use Rattle.safe_text.proofs.CallLemmas.{length-characters}
use Rattle.safe_text.proofs.MarkedLemmas.{length-marked}
use Rattle.safe_text.proofs.WholeLemmas.{length-safe}
use Rattle.safe_text.proofs.laws.safe_length.Goals as goal

pub returns-clause-plain : goal.returns-clause-plain
returns-clause-plain c = λ bytes calls are.
    omega (arith, length-safe 0 (characters calls), length-characters calls, c.bounds.ensures.calls bytes calls are)

pub returns-clause-marked : goal.returns-clause-marked
returns-clause-marked c = λ bytes calls are.
    omega (arith, length-safe 0 (marked calls), length-marked calls, c.bounds.ensures.calls bytes calls are)
