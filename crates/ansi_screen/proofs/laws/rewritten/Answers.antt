-- What the row showed is overwritten, and the rest of it erased.
use Rattle.ansi_screen.proofs.AnewLemmas.{written-anew}
use Rattle.ansi_screen.proofs.laws.rewritten.Goals as goal

pub returns : goal.returns
returns c = λ screen before text is room fits. written-anew screen before text is room fits
