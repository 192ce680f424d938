use Rattle.ansi_style.proofs.EqualityLemmas.{equality}
use Rattle.ansi_style.proofs.laws.equality.Goals as goal

pub returns : goal.returns
returns c = equality
