-- What was held is read.
use Rattle.screen_pieces.specs.Rows.{lines_of}
use Rattle.ansi_screen_c.specs.Calls.{Holds, ReadsOf, HasNoRoomOf}
use Rattle.ansi_screen_c.proofs.ToldLemmas.{is-told, is-refused}
use Rattle.ansi_screen_c.proofs.lines.ansi_screen_lines.Goals as goal

pub returns-in-Some-clause-text : goal.returns-in-Some-clause-text
returns-in-Some-clause-text c =
    is-told (λ n was. Holds (ReadsOf (lines_of c.args.which) c.args.room.now c.lines-answer.new.room n) was) c.lines-answer.result c.in-Some.held.value
    c.deref.result.now c.args.screen.now.value c.in-Some.ensures.taken c.deref.ensures c.told.result c.told.new.written
    c.told.ensures.ok c.lines-answer.ensures.text

pub returns-in-Some-clause-refused : goal.returns-in-Some-clause-refused
returns-in-Some-clause-refused c =
    is-refused (λ n was. HasNoRoomOf (lines_of c.args.which) c.args.room.now n was) c.lines-answer.result c.in-Some.held.value
    c.deref.result.now c.args.screen.now.value c.in-Some.ensures.taken c.deref.ensures c.told.result c.told.new.written
    c.told.ensures.err c.lines-answer.ensures.refused
