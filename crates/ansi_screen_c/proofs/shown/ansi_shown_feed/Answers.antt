-- What was held has taken the piece.
use Rattle.std.specs.Bool.{OnTrue, OnFalse}
use Rattle.shown_pieces.specs.Log.{Feeds, Refuses}
use Rattle.ansi_screen_c.specs.ShownCalls.{BothLogs, BothOrNone}
use Rattle.ansi_screen_c.proofs.FeedLemmas.{taken-put}
use Rattle.ansi_screen_c.proofs.shown.ansi_shown_feed.Goals as goal

pub returns-in-Some-clause-fed : goal.returns-in-Some-clause-fed
returns-in-Some-clause-fed c =
    taken-put (λ was is. OnTrue c.feed-is_fed.result (BothLogs (Feeds _ c.args.piece.now) was is)) _ _ _ _ _ c.in-Some.ensures.taken c.deref_mut.ensures.value c.put.ensures c.feed-is_fed.ensures.fed

pub returns-in-Some-clause-refused : goal.returns-in-Some-clause-refused
returns-in-Some-clause-refused c =
    taken-put (λ was is. OnFalse c.feed-is_fed.result (BothOrNone Refuses was is)) _ _ _ _ _ c.in-Some.ensures.taken c.deref_mut.ensures.value c.put.ensures c.feed-is_fed.ensures.refused
