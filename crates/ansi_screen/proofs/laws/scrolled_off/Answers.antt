-- By the calls of all the bytes.
use Rattle.ansi_screen.proofs.LeavingLemmas.{scrolls-all}
use Rattle.ansi_screen.proofs.laws.scrolled_off.Goals as goal

pub returns : goal.returns
returns g c =
    let received = c.headline.ensures.received in
    (received.0, received.1, scrolls-all g.R.TakeRow.takes received.0 _ _ received.2)
