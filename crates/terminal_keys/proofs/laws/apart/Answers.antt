-- The bytes are read back.
use Rattle.terminal_keys.proofs.DistinctLemmas.{keys-apart}
use Rattle.terminal_keys.proofs.laws.apart.Goals as goal

pub returns : goal.returns
returns c = λ modes first second tells own_first own_second. keys-apart modes first second tells own_first own_second
