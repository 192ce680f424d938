-- What was held is told.
use Rattle.screen_pieces.specs.Terminal.{Tells}
use Rattle.ansi_screen_c.proofs.FeedLemmas.{both}
use Rattle.ansi_screen_c.proofs.asking.ansi_screen_asked.Goals as goal

pub returns-in-Some-clause-told : goal.returns-in-Some-clause-told
returns-in-Some-clause-told c =
    both Tells _ _ _ _ _ c.in-Some.ensures.taken c.deref_mut.ensures.value c.put.ensures c.take_asked-told.ensures.told
