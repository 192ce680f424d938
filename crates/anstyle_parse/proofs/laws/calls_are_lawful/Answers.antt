use Rattle.anstyle_parse.proofs.Lawful.Calls.{lawful}
use Rattle.anstyle_parse.proofs.laws.calls_are_lawful.Goals as goal

pub returns : goal.returns
returns c = lawful
