use Rattle.without_hidden.proofs.LawfulLemmas.{without-made}
use Rattle.without_hidden.proofs.laws.stream.Goals as goal

pub returns : goal.returns
returns c = without-made
