use Rattle.std.proofs.Common.{◌%◌, arith}
use Rattle.std.proofs.Math.Nat.{mod-lt}
use Rattle.ansi_html.proofs.DigitLemmas.{digit_at}
use Rattle.ansi_html.proofs.digits.digit.Goals as goal

pub returns : goal.returns
returns c = digit_at (c.args.number % 16) (mod-lt c.args.number (omega arith))
