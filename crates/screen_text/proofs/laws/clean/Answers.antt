-- Cell by cell.
use Rattle.screen_text.proofs.CleanLemmas.{clean-shown}
use Rattle.screen_text.proofs.laws.clean.Goals as goal

pub returns : goal.returns
returns c = λ columns rows bytes calls are. clean-shown columns rows bytes calls are
