-- What was held is read.
use Rattle.ansi_screen.specs.Text.{text_of}
use Rattle.screen_pieces.specs.declared.terminal.Terminal.{Terminal}
use Rattle.screen_pieces.specs.Terminal.{display_of}
use Rattle.ansi_screen_c.specs.Calls.{Holds, Reads, HasNoRoomOf}
use Rattle.ansi_screen_c.proofs.ToldLemmas.{is-told, is-refused}
use Rattle.ansi_screen_c.proofs.text.ansi_screen_text.Goals as goal

pub returns-in-Some-clause-text : goal.returns-in-Some-clause-text
returns-in-Some-clause-text c =
    is-told (λ n was. Holds (Reads text_of c.args.room.now c.text-answer.new.room n) was) c.text-answer.result c.in-Some.held.value c.deref.result.now
    c.args.screen.now.value c.in-Some.ensures.taken c.deref.ensures c.told.result c.told.new.written
    c.told.ensures.ok c.text-answer.ensures.text

pub returns-in-Some-clause-refused : goal.returns-in-Some-clause-refused
returns-in-Some-clause-refused c =
    is-refused (λ n was. HasNoRoomOf (λ (terminal : Terminal). text_of (display_of terminal)) c.args.room.now n was) c.text-answer.result c.in-Some.held.value c.deref.result.now
    c.args.screen.now.value c.in-Some.ensures.taken c.deref.ensures c.told.result c.told.new.written
    c.told.ensures.err c.text-answer.ensures.refused
