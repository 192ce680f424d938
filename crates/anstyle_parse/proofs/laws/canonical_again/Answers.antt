use Rattle.anstyle_parse.proofs.Canonical.Twice.{canon_twice, canon-canon}
use Rattle.anstyle_parse.proofs.laws.canonical_again.Goals as goal

pub returns-clause-calls : goal.returns-clause-calls
returns-clause-calls c = canon_twice

pub returns-clause-text : goal.returns-clause-text
returns-clause-text c = canon-canon
