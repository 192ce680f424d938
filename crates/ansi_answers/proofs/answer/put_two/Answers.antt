-- One part after another.
use Rattle.std.proofs.Common.{[], ◌∷◌, ◌++◌, decimal}
use Rattle.anstyle_parse.specs.Io.AddingProof.{Adds-append}
use Rattle.ansi_answers.proofs.answer.put_two.Goals as goal

pub returns : goal.returns
returns g c =
    let first = decimal c.args.first in
    let mark = 0x3B ∷ [] in
    let second = decimal c.args.second in
    let after = c.args.after.now in
    let end = c.put-2.new.self in
    let add = Adds-append g.W.Sink in
    add c.args.before.now (first ++ (mark ++ (second ++ after))) c.args.output.now c.put.new.self end c.put.ensures
    (add first (mark ++ (second ++ after)) c.put.new.self c.put_decimal.new.self end c.put_decimal.ensures
    (add mark (second ++ after) c.put_decimal.new.self c.put_byte.new.self end c.put_byte.ensures
    (add second after c.put_byte.new.self c.put_decimal-2.new.self end c.put_decimal-2.ensures c.put-2.ensures)))
