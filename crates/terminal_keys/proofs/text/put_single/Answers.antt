-- SS3, modifiers and the byte.
use Rattle.std.proofs.Common.{◌∷◌, [], ◌++◌}
use Rattle.terminal_keys.specs.Text.{held_text}
use Rattle.terminal_keys.proofs.text.put_single.Goals as goal

pub returns : goal.returns
returns g c =
    let held = held_text c.args.modifiers in
    let join = g.met.T.TakeBytes.joins.more in
    join (0x1B ∷ 0x4F ∷ []) (held ++ c.args.last ∷ []) c.args.to.now c.take.new.self c.take-2.new.self c.take.ensures
    (join held (c.args.last ∷ []) c.take.new.self c.put_held.new.to c.take-2.new.self c.put_held.ensures c.take-2.ensures)
