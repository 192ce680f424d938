-- A record stands for no bytes.
use Rattle.std.proofs.Common.{[], refl, arith}
use Rattle.anstyle_parse.specs.Stream.Call.{esc_dispatch}
use Rattle.event_pieces.proofs.Notes.{Adds-note}
use Rattle.event_pieces.proofs.RoomLemmas.{Puts-nil}
use Rattle.event_pieces.proofs.writer.EventWriterPerform.esc_dispatch.Goals as goal

pub returns : goal.returns
returns c =
    Adds-note (esc_dispatch c.args.intermediates.now c.args.ignore c.args.byte) [] _ c.args.self.now c.args.self.now c.note.new.self refl (Puts-nil c.args.self.now) (λ used. omega arith)
    c.note.ensures refl
