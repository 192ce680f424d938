-- The parts of the sequence, one after another.
use Rattle.std.proofs.Common.{◌∷◌, [], ◌++◌}
use Rattle.terminal_keys.specs.Text.{part, number_text, modifiers_text}
use Rattle.terminal_keys.proofs.text.Sequence.write.Goals as goal

pub returns : goal.returns
returns g c =
    let s = c.args.self in
    let text = part 0x3B s.text in
    let shifted = part 0x3A s.shifted in
    let end = c.take-2.new.self in
    let join = g.met.T.TakeBytes.joins.more in
    join (0x1B ∷ 0x5B ∷ []) (number_text s ++ (shifted ++ (modifiers_text s ++ (text ++ s.last ∷ [])))) c.args.to.now c.take.new.self end
    c.take.ensures
    (join (number_text s) (shifted ++ (modifiers_text s ++ (text ++ s.last ∷ []))) c.take.new.self c.put_key.new.to end c.put_key.ensures
    (join shifted (modifiers_text s ++ (text ++ s.last ∷ [])) c.put_key.new.to c.put_part.new.to end c.put_part.ensures
    (join (modifiers_text s) (text ++ s.last ∷ []) c.put_part.new.to c.put_modifiers.new.to end c.put_modifiers.ensures
    (join text (s.last ∷ []) c.put_modifiers.new.to c.put_part-2.new.to end c.put_part-2.ensures c.take-2.ensures))))
