-- What was held is read.
use Rattle.ansi_screen_c.specs.ShownCalls.{ReadsLog, LacksRoomOfLog}
use Rattle.ansi_screen_c.proofs.ToldLemmas.{is-told, is-refused}
use Rattle.ansi_screen_c.proofs.shown.ansi_shown_text.Goals as goal

pub returns-in-Some-clause-text : goal.returns-in-Some-clause-text
returns-in-Some-clause-text c =
    is-told (λ n was. ReadsLog c.args.room.now c.put_text-answer.new.room n was) c.put_text-answer.result c.in-Some.held.value c.deref.result.now
    c.args.shown.now.value c.in-Some.ensures.taken c.deref.ensures c.told.result c.told.new.written
    c.told.ensures.ok c.put_text-answer.ensures.text

pub returns-in-Some-clause-refused : goal.returns-in-Some-clause-refused
returns-in-Some-clause-refused c =
    is-refused (λ n was. LacksRoomOfLog c.args.room.now c.put_text-answer.new.room n was) c.put_text-answer.result c.in-Some.held.value c.deref.result.now
    c.args.shown.now.value c.in-Some.ensures.taken c.deref.ensures c.told.result c.told.new.written
    c.told.ensures.err c.put_text-answer.ensures.refused
