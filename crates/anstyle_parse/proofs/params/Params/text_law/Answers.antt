use Rattle.anstyle_parse.proofs.Canonical.DebugText.{IsReadBack-sent, IsReadBack-handed_out}
use Rattle.anstyle_parse.proofs.params.Params.text_law.Goals as goal

pub returns-clause-handed_out : goal.returns-clause-handed_out
returns-clause-handed_out c = IsReadBack-handed_out

pub returns-clause-sent : goal.returns-clause-sent
returns-clause-sent c = IsReadBack-sent
