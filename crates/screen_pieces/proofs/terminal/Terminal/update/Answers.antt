-- The bytes that are put are those of the update.
use Rattle.std.proofs.Common.{ap₂, ◌∙◌}
use Rattle.ansi_screen.specs.After.{State}
use Rattle.screen_pieces.specs.Drawing.{update_of}
use Rattle.screen_pieces.specs.Terminal.{display_of}
use Rattle.screen_pieces.proofs.DrawingLemmas.{text-is, lacks-is}
use Rattle.screen_pieces.proofs.terminal.Terminal.update.Goals as goal

pub returns-in-Some-clause-text : goal.returns-in-Some-clause-text
returns-in-Some-clause-text c =
    text-is c.put_bytes.result (update_of (display_of c.args.self.now) (display_of c.args.wanted.now)) c.as_slice.result.now c.args.room.now c.put_bytes.new.room
    (c.as_slice.ensures.value ∙ (c.in-Some.ensures ∙ ap₂ (λ (a b : State). update_of a.display b.display) c.screen-shown.ensures c.screen-wanted.ensures)) c.put_bytes.ensures.text

pub returns-in-Some-clause-refused : goal.returns-in-Some-clause-refused
returns-in-Some-clause-refused c =
    lacks-is c.put_bytes.result (update_of (display_of c.args.self.now) (display_of c.args.wanted.now)) c.as_slice.result.now c.args.room.now
    (c.as_slice.ensures.value ∙ (c.in-Some.ensures ∙ ap₂ (λ (a b : State). update_of a.display b.display) c.screen-shown.ensures c.screen-wanted.ensures)) c.put_bytes.ensures.refused
