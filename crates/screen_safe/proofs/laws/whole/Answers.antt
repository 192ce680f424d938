-- The parts are joined, and the characters are those of the text.
use Rattle.screen_safe.proofs.RowLemmas.{safe-joined, encoded-shown}
use Rattle.screen_safe.proofs.laws.whole.Goals as goal

pub returns-clause-joined : goal.returns-clause-joined
returns-clause-joined c = safe-joined

pub returns-clause-text : goal.returns-clause-text
returns-clause-text c = encoded-shown
