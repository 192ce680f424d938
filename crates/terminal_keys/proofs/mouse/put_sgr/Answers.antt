-- CSI <, and the numbers.
use Rattle.std.proofs.Common.{◌∷◌, [], subst}
use Rattle.terminal_keys.specs.Mouse.{numbers_text, last_byte}
use Rattle.terminal_keys.proofs.mouse.put_sgr.Goals as goal

pub returns : goal.returns
returns g c =
    g.met.T.TakeBytes.joins.more (0x1B ∷ 0x5B ∷ 0x3C ∷ []) (numbers_text c.args.code c.args.column c.args.row (last_byte c.args.is_released))
    c.args.to.now c.take.new.self c.put_numbers.new.to c.take.ensures
    (subst (λ b. g.T.TakeBytes.takes (numbers_text c.args.code c.args.column c.args.row b) c.take.new.self c.put_numbers.new.to)
    c.last_byte.ensures c.put_numbers.ensures)
