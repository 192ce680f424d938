-- What was held has forgotten.
use Rattle.screen_pieces.specs.Terminal.{IsCopy}
use Rattle.ansi_screen_c.proofs.FeedLemmas.{both}
use Rattle.ansi_screen_c.proofs.changes.ansi_screen_forget.Goals as goal

pub returns-in-Some-clause-forgotten : goal.returns-in-Some-clause-forgotten
returns-in-Some-clause-forgotten c =
    both IsCopy _ _ _ _ _ c.in-Some.ensures.taken c.deref_mut.ensures.value c.put.ensures c.forget.ensures
