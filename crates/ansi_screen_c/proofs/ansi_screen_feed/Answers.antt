-- What was held is fed.
use Rattle.screen_pieces.specs.Terminal.{Feeds}
use Rattle.ansi_screen_c.proofs.FeedLemmas.{both}
use Rattle.ansi_screen_c.proofs.ansi_screen_feed.Goals as goal

pub returns-in-Some-clause-fed : goal.returns-in-Some-clause-fed
returns-in-Some-clause-fed c =
    both (Feeds c.args.piece.now) _ _ _ _ _ c.in-Some.ensures.taken c.deref_mut.ensures.value c.put.ensures c.feed.ensures
