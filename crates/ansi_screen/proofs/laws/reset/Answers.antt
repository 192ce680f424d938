-- A reset leaves a new display.
use Rattle.std.proofs.Common.{ap}
use Rattle.ansi_screen.specs.After.{State}
use Rattle.ansi_screen.proofs.LawLemmas.{after-reset, reset-forgets}
use Rattle.ansi_screen.proofs.laws.reset.Goals as goal

pub returns-clause-new : goal.returns-clause-new
returns-clause-new c = λ screen. after-reset screen

pub returns-clause-last : goal.returns-clause-last
returns-clause-last c = λ screen. ap (λ (s : State). s.last) (after-reset screen)

pub returns-clause-forgets : goal.returns-clause-forgets
returns-clause-forgets c = λ a b calls same_width same_height. reset-forgets calls a b same_width same_height
