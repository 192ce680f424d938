use Rattle.std.proofs.Common.{arith}
use Rattle.anstyle_parse.proofs.Arguments.Starts.{bit_below}
use Rattle.anstyle_parse.proofs.params.start_bit.Goals as goal

pub returns : goal.returns
returns c = bit_below c.args.field (omega (arith, c.requires))
