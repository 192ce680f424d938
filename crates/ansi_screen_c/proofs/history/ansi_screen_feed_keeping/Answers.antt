-- What was held is fed.
use Rattle.screen_pieces.specs.Keeping.{FeedsKeeping}
use Rattle.ansi_screen_c.proofs.FeedLemmas.{both}
use Rattle.ansi_screen_c.proofs.history.ansi_screen_feed_keeping.Goals as goal

pub returns-in-Some-clause-fed : goal.returns-in-Some-clause-fed
returns-in-Some-clause-fed c =
    both (FeedsKeeping c.args.piece.now c.args.seen c.feed_keeping.result) _ _ _ _ _ c.in-Some.ensures.taken c.deref_mut.ensures.value c.put.ensures c.feed_keeping.ensures
