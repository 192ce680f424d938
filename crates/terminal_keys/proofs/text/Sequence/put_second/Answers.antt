-- Modifiers, and then what happens.
use Rattle.std.proofs.Common.{◌∷◌, decimal, subst}
use Rattle.terminal_keys.specs.Text.{part, told_event}
use Rattle.terminal_keys.proofs.text.Sequence.put_second.Goals as goal

pub returns : goal.returns
returns g c =
    let takes = g.T.TakeBytes.takes in
    g.met.T.TakeBytes.joins.more (0x3B ∷ decimal c.args.self.modifiers) (part 0x3A (told_event c.args.self)) c.args.to.now
    c.put_marked.new.to c.put_part.new.to
    (subst (λ n. takes (0x3B ∷ decimal n) c.args.to.now c.put_marked.new.to) c.from.ensures c.put_marked.ensures)
    (subst (λ n. takes (part 0x3A n) c.put_marked.new.to c.put_part.new.to) c.told_event.ensures c.put_part.ensures)
