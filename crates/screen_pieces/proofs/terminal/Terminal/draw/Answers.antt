-- The bytes that are put are those of the drawing.
use Rattle.std.proofs.Common.{ap, ◌∙◌}
use Rattle.ansi_screen.specs.After.{State}
use Rattle.screen_pieces.specs.Drawing.{drawing_of}
use Rattle.screen_pieces.specs.Terminal.{display_of}
use Rattle.screen_pieces.proofs.DrawingLemmas.{text-is, lacks-is}
use Rattle.screen_pieces.proofs.terminal.Terminal.draw.Goals as goal

pub returns-in-Some-clause-text : goal.returns-in-Some-clause-text
returns-in-Some-clause-text c =
    text-is c.put_bytes.result (drawing_of (display_of c.args.self.now)) c.as_slice.result.now c.args.room.now c.put_bytes.new.room
    (c.as_slice.ensures.value ∙ (c.in-Some.ensures ∙ ap (λ (s : State). drawing_of s.display) c.screen.ensures)) c.put_bytes.ensures.text

pub returns-in-Some-clause-refused : goal.returns-in-Some-clause-refused
returns-in-Some-clause-refused c =
    lacks-is c.put_bytes.result (drawing_of (display_of c.args.self.now)) c.as_slice.result.now c.args.room.now
    (c.as_slice.ensures.value ∙ (c.in-Some.ensures ∙ ap (λ (s : State). drawing_of s.display) c.screen.ensures)) c.put_bytes.ensures.refused
