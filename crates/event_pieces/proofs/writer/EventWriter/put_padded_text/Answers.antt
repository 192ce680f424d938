-- A text is one record, and none where it is empty.
use Rattle.std.proofs.Common.{◌<◌, length, arith}
use Rattle.std.proofs.lemmas.List.{nil_from_length}
use Rattle.event_pieces.proofs.Texts.{Adds-no_text, Adds-some_text}
use Rattle.event_pieces.proofs.writer.EventWriter.put_padded_text.Goals as goal

pub returns-then-len-eq0 : goal.returns-then-len-eq0
returns-then-len-eq0 c = Adds-no_text c.args.text.now c.args.self.now (nil_from_length c.args.text.now (omega (arith, c.len.ensures.value, c.if-len-eq0.true)))

pub returns : goal.returns
returns c =
    let text = c.args.text.now in
    let some : 0 < length text = omega (arith, c.len.ensures.value, c.if-len-eq0.false) in
    Adds-some_text text c.args.self.now c.put_padded.new.self c.note_text.new.self c.requires.text some c.put_padded.ensures c.note_text.ensures
