use Rattle.std.proofs.Common.{◌%◌, arith}
use Rattle.std.proofs.Math.Nat.{mod-lt}
use Rattle.parselog.proofs.LineLemmas.{digit_at}
use Rattle.parselog.proofs.log.digit.Goals as goal

pub returns : goal.returns
returns c = digit_at (c.args.number % 16) (mod-lt c.args.number (omega arith))
