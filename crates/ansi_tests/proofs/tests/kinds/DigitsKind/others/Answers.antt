use Rattle.std.proofs.Common.{arith}
use Rattle.anstyle_parse.proofs.Machine.Lanes.{mask-outside}
use Rattle.ansi_tests.proofs.tests.kinds.DigitsKind.others.Goals as goal

pub returns : goal.returns
returns c = mask-outside 0x30 10 (omega arith) (omega arith) c.args.bytes c.fits-bytes.0 c.fits-bytes.1
