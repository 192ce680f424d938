-- What was held has ended.
use Rattle.std.specs.Bool.{OnTrue, OnFalse}
use Rattle.shown_pieces.specs.Log.{Ends, Refuses}
use Rattle.ansi_screen_c.specs.ShownCalls.{BothLogs, BothOrNone}
use Rattle.ansi_screen_c.proofs.FeedLemmas.{taken-put}
use Rattle.ansi_screen_c.proofs.shown.ansi_shown_end.Goals as goal

pub returns-in-Some-clause-ended : goal.returns-in-Some-clause-ended
returns-in-Some-clause-ended c =
    taken-put (λ was is. OnTrue c.end-has_ended.result (BothLogs (Ends _) was is)) _ _ _ _ _ c.in-Some.ensures.taken c.deref_mut.ensures.value c.put.ensures c.end-has_ended.ensures.ended

pub returns-in-Some-clause-refused : goal.returns-in-Some-clause-refused
returns-in-Some-clause-refused c =
    taken-put (λ was is. OnFalse c.end-has_ended.result (BothOrNone Refuses was is)) _ _ _ _ _ c.in-Some.ensures.taken c.deref_mut.ensures.value c.put.ensures c.end-has_ended.ensures.refused
