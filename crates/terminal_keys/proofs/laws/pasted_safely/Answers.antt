-- No byte of it is ESC.
use Rattle.terminal_keys.proofs.PasteLemmas.{pasted-bytes, end-of-paste}
use Rattle.terminal_keys.proofs.laws.pasted_safely.Goals as goal

pub returns-clause-bytes : goal.returns-clause-bytes
returns-clause-bytes c = λ text. pasted-bytes text

pub returns-clause-ends : goal.returns-clause-ends
returns-clause-ends c = λ text before after e. end-of-paste text before after e
