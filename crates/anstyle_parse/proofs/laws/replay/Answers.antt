use Rattle.anstyle_parse.proofs.Canonical.Replay.{replay}
use Rattle.anstyle_parse.proofs.Canonical.Twice.{replay-only}
use Rattle.anstyle_parse.proofs.laws.replay.Goals as goal

pub returns-clause-makes : goal.returns-clause-makes
returns-clause-makes c = replay

pub returns-clause-only : goal.returns-clause-only
returns-clause-only c = replay-only
