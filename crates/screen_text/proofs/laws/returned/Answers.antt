-- The second carriage return does nothing.
use Rattle.screen_text.proofs.RewrittenLemmas.{returned-shown}
use Rattle.screen_text.proofs.laws.returned.Goals as goal

pub returns : goal.returns
returns c = λ screen earlier later. returned-shown screen earlier later
