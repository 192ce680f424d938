-- Row by row, and call by call.
use Rattle.screen_text.proofs.BoundLemmas.{length-shown}
use Rattle.screen_text.proofs.laws.bound.Goals as goal

pub returns : goal.returns
returns c = λ columns rows bytes calls are. length-shown columns rows bytes calls are
