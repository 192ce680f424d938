-- The numbers, one after another.
use Rattle.std.proofs.Common.{◌∷◌, [], ◌++◌, decimal, subst}
use Rattle.terminal_keys.proofs.mouse.put_numbers.Goals as goal

pub returns : goal.returns
returns g c =
    let code = decimal c.args.code in
    let column = decimal c.args.column in
    let row = decimal c.args.row in
    let mark = 0x3B ∷ [] in
    let last = c.args.last ∷ [] in
    let end = c.take-3.new.self in
    let join = g.met.T.TakeBytes.joins.more in
    join code (mark ++ (column ++ (mark ++ (row ++ last)))) c.args.to.now c.put_number.new.to end
    (subst (λ n. g.T.TakeBytes.takes (decimal n) c.args.to.now c.put_number.new.to) c.from.ensures c.put_number.ensures)
    (join mark (column ++ (mark ++ (row ++ last))) c.put_number.new.to c.take.new.self end c.take.ensures
    (join column (mark ++ (row ++ last)) c.take.new.self c.put_number-2.new.to end c.put_number-2.ensures
    (join mark (row ++ last) c.put_number-2.new.to c.take-2.new.self end c.take-2.ensures
    (join row last c.take-2.new.self c.put_number-3.new.to end c.put_number-3.ensures c.take-3.ensures))))
