use Rattle.std.proofs.Common.{arith}
use Rattle.anstyle_parse.proofs.Arguments.Taken.{digit-bounds}
use Rattle.anstyle_parse.proofs.parser.header.digit_value.Goals as goal

pub returns-clause-digit : goal.returns-clause-digit
returns-clause-digit c = λ digit.
    let ends = digit-bounds c.args.byte digit in
    omega (arith, c.from.ensures, ends.0, ends.1)
