-- One part after another.
use Rattle.std.proofs.Common.{[], ◌∷◌, ◌++◌, decimal, subst}
use Rattle.anstyle_parse.specs.Io.Output.{Adds}
use Rattle.anstyle_parse.specs.Io.AddingProof.{Adds-append}
use Rattle.ansi_answers.specs.Text.{color_text, end_text}
use Rattle.ansi_answers.proofs.answer.put_colored.Goals as goal

pub returns : goal.returns
returns g c =
    let number = decimal c.args.number in
    let mark = 0x3B ∷ [] in
    let color = color_text c.args.color in
    let last = end_text c.args.bell in
    let end = c.put-2.new.self in
    let add = Adds-append g.W.Sink in
    add c.args.before.now (number ++ (mark ++ (color ++ last))) c.args.output.now c.put.new.self end c.put.ensures
    (add number (mark ++ (color ++ last)) c.put.new.self c.put_decimal.new.self end c.put_decimal.ensures
    (add mark (color ++ last) c.put_decimal.new.self c.put_byte.new.self end c.put_byte.ensures
    (add color last c.put_byte.new.self c.put_color.new.output end c.put_color.ensures
    (subst (λ text. Adds g.W.Sink text c.put_color.new.output end) c.end_text.ensures c.put-2.ensures))))
