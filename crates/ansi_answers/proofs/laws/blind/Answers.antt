use Rattle.ansi_answers.proofs.BlindLemmas.{answer-blind}
use Rattle.ansi_answers.proofs.laws.blind.Goals as goal

pub returns : goal.returns
returns c call request facts first second theme same = answer-blind call request facts first second theme same
