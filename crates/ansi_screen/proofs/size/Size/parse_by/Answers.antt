use Rattle.std.proofs.Common.{rules}
use Rattle.ansi_screen.proofs.size.Size.parse_by.Goals as goal

pub returns-in_err-number : goal.returns-in_err-number
returns-in_err-number c =
    rw c.from_residual-in_err-number.ensures (λ size said taken. c.in_err-number.ensures size.columns (search rules) (search rules))
