-- One part after another.
use Rattle.std.proofs.Common.{◌++◌, decimal}
use Rattle.anstyle_parse.specs.Io.AddingProof.{Adds-append}
use Rattle.ansi_answers.proofs.answer.put_one.Goals as goal

pub returns : goal.returns
returns g c =
    let number = decimal c.args.number in
    let after = c.args.after.now in
    let end = c.put-2.new.self in
    let add = Adds-append g.W.Sink in
    add c.args.before.now (number ++ after) c.args.output.now c.put.new.self end c.put.ensures
    (add number after c.put.new.self c.put_decimal.new.self end c.put_decimal.ensures c.put-2.ensures)
