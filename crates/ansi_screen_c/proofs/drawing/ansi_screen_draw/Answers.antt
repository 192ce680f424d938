-- What was held is drawn.
use Rattle.screen_pieces.specs.declared.terminal.Terminal.{Terminal}
use Rattle.screen_pieces.specs.Terminal.{display_of}
use Rattle.screen_pieces.specs.Drawing.{drawing_of}
use Rattle.ansi_screen_c.specs.Calls.{Holds, Reads, IsRefusedOf}
use Rattle.ansi_screen_c.proofs.ToldLemmas.{is-told, is-refused}
use Rattle.ansi_screen_c.proofs.drawing.ansi_screen_draw.Goals as goal

pub returns-in-Some-clause-text : goal.returns-in-Some-clause-text
returns-in-Some-clause-text c =
    is-told (λ n was. Holds (Reads drawing_of c.args.room.now c.draw-answer.new.room n) was) c.draw-answer.result c.in-Some.held.value c.deref.result.now
    c.args.screen.now.value c.in-Some.ensures.taken c.deref.ensures c.told.result c.told.new.written
    c.told.ensures.ok c.draw-answer.ensures.text

pub returns-in-Some-clause-refused : goal.returns-in-Some-clause-refused
returns-in-Some-clause-refused c =
    is-refused (λ n was. IsRefusedOf (λ (terminal : Terminal). drawing_of (display_of terminal)) c.args.room.now n was) c.draw-answer.result c.in-Some.held.value c.deref.result.now
    c.args.screen.now.value c.in-Some.ensures.taken c.deref.ensures c.told.result c.told.new.written
    c.told.ensures.err c.draw-answer.ensures.refused
