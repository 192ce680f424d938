use Rattle.std.proofs.Common.{[], refl}
use Rattle.parselog.proofs.tests.checkpoints.parser_after.Goals as goal

pub returns : goal.returns
returns c = c.advance_all.ensures.stands [] refl c.new-parser.ensures.stands
