-- What was held is read.
use Rattle.ansi_style.specs.Bytes.{is_set}
use Rattle.screen_pieces.specs.Telling.{focus_told}
use Rattle.ansi_screen_c.specs.Calls.{Holds, ReadsOf, HasNoRoomOf}
use Rattle.ansi_screen_c.proofs.ToldLemmas.{is-told, is-refused}
use Rattle.ansi_screen_c.proofs.asking.ansi_screen_focus.Goals as goal

pub returns-in-Some-clause-text : goal.returns-in-Some-clause-text
returns-in-Some-clause-text c =
    is-told (λ n was. Holds (ReadsOf (focus_told (is_set c.args.gained)) c.args.room.now c.focus-answer.new.room n) was) c.focus-answer.result c.in-Some.held.value
    c.deref.result.now c.args.screen.now.value c.in-Some.ensures.taken c.deref.ensures c.told.result c.told.new.written
    c.told.ensures.ok c.focus-answer.ensures.text

pub returns-in-Some-clause-refused : goal.returns-in-Some-clause-refused
returns-in-Some-clause-refused c =
    is-refused (λ n was. HasNoRoomOf (focus_told (is_set c.args.gained)) c.args.room.now n was) c.focus-answer.result c.in-Some.held.value
    c.deref.result.now c.args.screen.now.value c.in-Some.ensures.taken c.deref.ensures c.told.result c.told.new.written
    c.told.ensures.err c.focus-answer.ensures.refused
