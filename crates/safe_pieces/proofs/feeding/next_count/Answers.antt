-- What surely fits is no less than what would be taken of few.
use Rattle.std.proofs.Common.{min, arith}
use Rattle.safe_pieces.proofs.feeding.next_count.Goals as goal

pub returns-then-count-min-clause-some : goal.returns-then-count-min-clause-some
returns-then-count-min-clause-some c = λ some fits.
    absurd (omega (arith, c.sure_count.ensures.most (min c.args.bytes 32) fits, c.min-count.ensures, c.if-count-min.true, c.min.ensures))
