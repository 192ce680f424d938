-- By the calls of all the bytes.
use Rattle.screen_answers.proofs.CallLemmas.{after_all-goes}
use Rattle.screen_answers.proofs.laws.any_pieces.Goals as goal

pub returns : goal.returns
returns c =
    let received = c.headline.ensures.received in
    (received.0, received.1, after_all-goes received.0 _ _ received.2)
