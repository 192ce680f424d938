-- What was held is read.
use Rattle.screen_pieces.specs.Telling.{mouse_told}
use Rattle.ansi_screen_c.specs.Calls.{Holds, ReadsOf, HasNoRoomOf}
use Rattle.ansi_screen_c.proofs.ToldLemmas.{is-told, is-refused}
use Rattle.ansi_screen_c.proofs.asking.ansi_screen_mouse.Goals as goal

pub returns-in-Some-clause-text : goal.returns-in-Some-clause-text
returns-in-Some-clause-text c =
    is-told (λ n was. Holds (ReadsOf (mouse_told c.args.mouse.now) c.args.room.now c.mouse-answer.new.room n) was) c.mouse-answer.result c.in-Some.held.value
    c.deref.result.now c.args.screen.now.value c.in-Some.ensures.taken c.deref.ensures c.told.result c.told.new.written
    c.told.ensures.ok c.mouse-answer.ensures.text

pub returns-in-Some-clause-refused : goal.returns-in-Some-clause-refused
returns-in-Some-clause-refused c =
    is-refused (λ n was. HasNoRoomOf (mouse_told c.args.mouse.now) c.args.room.now n was) c.mouse-answer.result c.in-Some.held.value
    c.deref.result.now c.args.screen.now.value c.in-Some.ensures.taken c.deref.ensures c.told.result c.told.new.written
    c.told.ensures.err c.mouse-answer.ensures.refused
