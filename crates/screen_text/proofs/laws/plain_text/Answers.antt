-- Line by line; and by the one list of calls of the bytes.
use Rattle.screen_text.proofs.ThroughLemmas.{bytes-through, stripped-through, recorded-through, blank-through, unended-through}
use Rattle.screen_text.proofs.laws.plain_text.Goals as goal

pub returns-clause-same : goal.returns-clause-same
returns-clause-same c = λ columns rows lines calls wide some are last made. bytes-through columns rows lines calls wide some are last made

pub returns-clause-stripped : goal.returns-clause-stripped
returns-clause-stripped c = λ columns rows lines calls wide some are last made. stripped-through columns rows lines calls wide some are last made

pub returns-clause-recorded : goal.returns-clause-recorded
returns-clause-recorded c = λ columns rows lines calls wide some are last made. recorded-through columns rows lines calls wide some are last made

pub returns-clause-empty : goal.returns-clause-empty
returns-clause-empty c = λ columns rows lines n calls wide some are last made. blank-through columns rows n lines calls wide some are last made

pub returns-clause-unended : goal.returns-clause-unended
returns-clause-unended c = λ columns rows lines line calls wide some are plain_line other made.
    unended-through columns rows lines line calls wide some are plain_line other made
