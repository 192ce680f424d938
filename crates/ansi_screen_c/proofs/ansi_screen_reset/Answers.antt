-- What was held is reset.
use Rattle.screen_pieces.specs.Terminal.{Begins}
use Rattle.ansi_screen_c.proofs.FeedLemmas.{both}
use Rattle.ansi_screen_c.proofs.ansi_screen_reset.Goals as goal

pub returns-in-Some-clause-reset : goal.returns-in-Some-clause-reset
returns-in-Some-clause-reset c =
    both Begins _ _ _ _ _ c.in-Some.ensures.taken c.deref_mut.ensures.value c.put.ensures c.reset.ensures
