-- A record stands for no bytes.
use Rattle.std.proofs.Common.{[], refl, arith}
use Rattle.anstyle_parse.specs.Stream.Call.{unhook}
use Rattle.event_pieces.proofs.Notes.{Adds-note}
use Rattle.event_pieces.proofs.RoomLemmas.{Puts-nil}
use Rattle.event_pieces.proofs.writer.EventWriterPerform.unhook.Goals as goal

pub returns : goal.returns
returns c =
    Adds-note (unhook) [] 0 c.args.self.now c.args.self.now c.note_byte.new.self refl (Puts-nil c.args.self.now) (λ used. omega arith)
    c.note_byte.ensures refl
