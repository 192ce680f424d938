-- CSI, and the numbers.
use Rattle.std.proofs.Common.{◌∷◌, []}
use Rattle.terminal_keys.specs.Mouse.{numbers_text}
use Rattle.terminal_keys.proofs.mouse.put_urxvt.Goals as goal

pub returns : goal.returns
returns g c =
    g.met.T.TakeBytes.joins.more (0x1B ∷ 0x5B ∷ []) (numbers_text c.args.code c.args.column c.args.row 0x4D) c.args.to.now c.take.new.self
    c.put_numbers.new.to c.take.ensures c.put_numbers.ensures
