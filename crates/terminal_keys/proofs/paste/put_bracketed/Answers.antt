-- The brackets, and between them what is pasted.
use Rattle.std.proofs.Common.{◌++◌}
use Rattle.terminal_keys.specs.Paste.{pasted, paste_begin, paste_end}
use Rattle.terminal_keys.proofs.paste.put_bracketed.Goals as goal

pub returns : goal.returns
returns g c =
    let inner = pasted c.args.text.now in
    let join = g.met.T.TakeBytes.joins.more in
    join paste_begin (inner ++ paste_end) c.args.to.now c.take.new.self c.take-2.new.self c.take.ensures
    (join inner paste_end c.take.new.self c.put_pasted.new.to c.take-2.new.self c.put_pasted.ensures c.take-2.ensures)
