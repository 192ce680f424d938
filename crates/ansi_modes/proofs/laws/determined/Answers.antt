-- By the one list of calls of the bytes.
use Rattle.ansi_modes.proofs.CallLemmas.{Asks-only}
use Rattle.ansi_modes.proofs.laws.determined.Goals as goal

pub returns : goal.returns
returns c = λ old first second bytes asks asks_too. Asks-only bytes old first second asks asks_too
