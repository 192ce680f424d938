-- The parts are put, and a record stands for them.
use Rattle.std.proofs.Common.{Bor, List, ℕ, map, refl, arith}
use Rattle.std.specs.List.{join_with_byte}
use Rattle.anstyle_parse.specs.Stream.Bytes.{semicolon}
use Rattle.anstyle_parse.specs.Stream.Call.{osc_dispatch}
use Rattle.event_pieces.proofs.Notes.{Adds-note}
use Rattle.event_pieces.proofs.writer.EventWriterPerform.osc_dispatch.Goals as goal

pub returns : goal.returns
returns c =
    let parts = map (λ (part : Bor (List ℕ)). part.now) c.args.params.now in
    Adds-note (osc_dispatch parts c.args.bell_terminated) (join_with_byte semicolon parts) _
    c.args.self.now c.put_parts.new.self c.note.new.self refl c.put_parts.ensures (λ used. omega (arith, used)) c.note.ensures refl
