-- What was held is read.
use Rattle.screen_pieces.specs.History.{text_of_kept, LacksKept}
use Rattle.ansi_screen_c.specs.Calls.{Holds, ReadsKept, IsRefusedKept}
use Rattle.ansi_screen_c.proofs.ToldLemmas.{is-told, is-refused}
use Rattle.ansi_screen_c.proofs.history.ansi_screen_history_text.Goals as goal

pub returns-in-Some-clause-text : goal.returns-in-Some-clause-text
returns-in-Some-clause-text c =
    is-told (λ n was. Holds (ReadsKept (text_of_kept c.args.number) c.args.room.now c.history_text-answer.new.room n) was) c.history_text-answer.result c.in-Some.held.value c.deref.result.now
    c.args.screen.now.value c.in-Some.ensures.taken c.deref.ensures c.told.result c.told.new.written
    c.told.ensures.ok c.history_text-answer.ensures.text

pub returns-in-Some-clause-refused : goal.returns-in-Some-clause-refused
returns-in-Some-clause-refused c =
    is-refused (λ n was. IsRefusedKept (LacksKept c.args.number) (text_of_kept c.args.number) c.args.room.now n was) c.history_text-answer.result c.in-Some.held.value c.deref.result.now
    c.args.screen.now.value c.in-Some.ensures.taken c.deref.ensures c.told.result c.told.new.written
    c.told.ensures.err c.history_text-answer.ensures.refused
