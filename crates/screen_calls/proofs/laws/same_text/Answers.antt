-- The text of each row is that of its calls.
use Rattle.screen_calls.proofs.TextLemmas.{text-shown}
use Rattle.screen_calls.proofs.laws.same_text.Goals as goal

pub returns : goal.returns
returns c = λ screen calls. text-shown screen calls
