-- By the one list of calls of the bytes.
use Rattle.ansi_screen.proofs.LawLemmas.{Shows-only}
use Rattle.ansi_screen.proofs.laws.determined.Goals as goal

pub returns : goal.returns
returns c = λ old first second bytes shows shows_too. Shows-only bytes old first second shows shows_too
