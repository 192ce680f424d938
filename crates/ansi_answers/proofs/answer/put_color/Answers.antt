-- One part after another.
use Rattle.std.proofs.Common.{[], ◌∷◌, ◌++◌, subst}
use Rattle.anstyle_parse.specs.Io.Output.{Adds}
use Rattle.anstyle_parse.specs.Io.AddingProof.{Adds-append}
use Rattle.ansi_answers.specs.Text.{channel_text}
use Rattle.ansi_answers.proofs.answer.put_color.Goals as goal

pub returns : goal.returns
returns g c =
    let name = 0x72 ∷ 0x67 ∷ 0x62 ∷ 0x3A ∷ [] in
    let red = channel_text c.args.color.red in
    let slash = 0x2F ∷ [] in
    let green = channel_text c.args.color.green in
    let blue = channel_text c.args.color.blue in
    let end = c.put-4.new.self in
    let add = Adds-append g.W.Sink in
    add name (red ++ (slash ++ (green ++ (slash ++ blue)))) c.args.output.now c.put.new.self end c.put.ensures
    (add red (slash ++ (green ++ (slash ++ blue))) c.put.new.self c.put-2.new.self end
    (subst (λ text. Adds g.W.Sink text c.put.new.self c.put-2.new.self) c.channel_text.ensures c.put-2.ensures)
    (add slash (green ++ (slash ++ blue)) c.put-2.new.self c.put_byte.new.self end c.put_byte.ensures
    (add green (slash ++ blue) c.put_byte.new.self c.put-3.new.self end
    (subst (λ text. Adds g.W.Sink text c.put_byte.new.self c.put-3.new.self) c.channel_text-2.ensures c.put-3.ensures)
    (add slash blue c.put-3.new.self c.put_byte-2.new.self end c.put_byte-2.ensures
    (subst (λ text. Adds g.W.Sink text c.put_byte-2.new.self end) c.channel_text-3.ensures c.put-4.ensures)))))
