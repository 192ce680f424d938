-- By one call after another.
use Rattle.std.proofs.Common.{◌∙◌}
use Rattle.screen_answers.proofs.CallLemmas.{led-so}
use Rattle.screen_answers.proofs.KeptLemmas.{all-kept, goes-alone}
use Rattle.screen_answers.proofs.laws.all_are_kept.Goals as goal

pub returns-clause-rows : goal.returns-clause-rows
returns-clause-rows c = λ calls screen. all-kept calls screen

pub returns-clause-screen : goal.returns-clause-screen
returns-clause-screen c = λ calls old new on is. (led-so calls old new is).screen ∙ goes-alone old.keeps_erased calls old.screen on
