-- One part after another.
use Rattle.std.proofs.Common.{[], ◌∷◌, ◌++◌}
use Rattle.anstyle_parse.specs.Io.AddingProof.{Adds-append}
use Rattle.ansi_answers.specs.Text.{selection_text}
use Rattle.ansi_answers.proofs.answer.put_rendition.Goals as goal

pub returns : goal.returns
returns g c =
    let text = selection_text c.args.style in
    let last = 0x1B ∷ 0x5C ∷ [] in
    let end = c.put-2.new.self in
    let add = Adds-append g.W.Sink in
    add (0x1B ∷ 0x50 ∷ 0x31 ∷ 0x24 ∷ 0x72 ∷ []) (text ++ last) c.args.output.now c.put.new.self end c.put.ensures
    (add text last c.put.new.self c.put_selection.new.output end c.put_selection.ensures.text c.put-2.ensures)
