-- Its lines are printed once more.
use Rattle.screen_text.proofs.TwiceLemmas.{twice-shown}
use Rattle.screen_text.proofs.laws.shown_twice.Goals as goal

pub returns : goal.returns
returns c = λ columns rows width height bytes text calls again screen wide some are is end made.
    twice-shown columns rows width height bytes text calls again screen wide some are is end made
