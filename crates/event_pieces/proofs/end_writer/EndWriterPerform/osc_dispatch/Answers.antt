-- The call is noted.
use Rattle.std.proofs.Common.{refl}
use Rattle.event_pieces.proofs.end_writer.EndWriterPerform.osc_dispatch.Goals as goal

pub returns : goal.returns
returns c = c.note.ensures _ refl
