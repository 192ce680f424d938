-- By one call after another.
use Rattle.screen_answers.proofs.CallLemmas.{led-so}
use Rattle.screen_answers.proofs.laws.parts.Goals as goal

pub returns : goal.returns
returns c = λ calls old new is. led-so calls old new is
