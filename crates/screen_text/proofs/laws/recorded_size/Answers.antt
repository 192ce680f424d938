use Rattle.screen_text.proofs.SizeTextLemmas.{size-said, size-unsaid}
use Rattle.screen_text.proofs.laws.recorded_size.Goals as goal

pub returns-clause-said : goal.returns-clause-said
returns-clause-said c = size-said

pub returns-clause-unsaid : goal.returns-clause-unsaid
returns-clause-unsaid c = size-unsaid
