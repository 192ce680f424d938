use Rattle.without_hidden.proofs.LawfulLemmas.{without-twice}
use Rattle.without_hidden.proofs.laws.twice.Goals as goal

pub returns : goal.returns
returns c = without-twice
