-- The room has room for all bytes of an answer.
use Rattle.ansi_answers.specs.Text.{answer_text}
use Rattle.ansi_answers.proofs.RoomLemmas.{held-all}
use Rattle.ansi_answers.proofs.answer.Answer.bytes.Goals as goal

pub returns : goal.returns
returns c =
    held-all (answer_text c.args.self) c.empty.result c.new-output.result c.write.new.output c.new-output.ensures.writer c.empty.ensures.empty c.new-output.ensures.no_fault
    c.write.ensures c.form.ensures.bound c.finish-room.result.0 c.finish-room.result.1 c.finish-room.ensures.finishes
