use Rattle.anstyle_parse.proofs.Canonical.Bytes.{lawful_exactly}
use Rattle.anstyle_parse.proofs.laws.lawful_exactly.Goals as goal

pub returns : goal.returns
returns c = lawful_exactly
