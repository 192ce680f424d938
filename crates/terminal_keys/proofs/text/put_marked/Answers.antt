-- The mark, and then the number.
use Rattle.std.proofs.Common.{◌∷◌, [], decimal}
use Rattle.terminal_keys.proofs.text.put_marked.Goals as goal

pub returns : goal.returns
returns g c =
    g.met.T.TakeBytes.joins.more (c.args.mark ∷ []) (decimal c.args.number) c.args.to.now c.take.new.self
    c.put_number.new.to c.take.ensures c.put_number.ensures
