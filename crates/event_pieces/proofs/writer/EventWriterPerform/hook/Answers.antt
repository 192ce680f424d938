-- The fields are put, and a record stands for them.
use Rattle.std.proofs.Common.{refl, arith}
use Rattle.anstyle_parse.specs.Stream.Call.{hook}
use Rattle.anstyle_parse.specs.Views.Params.{groups_shown}
use Rattle.event_pieces.specs.Event.{groups_bytes}
use Rattle.event_pieces.proofs.Notes.{Adds-note}
use Rattle.event_pieces.proofs.writer.EventWriterPerform.hook.Goals as goal

pub returns : goal.returns
returns c =
    let groups = groups_shown c.args.params.now in
    Adds-note (hook groups c.args.intermediates.now c.args.ignore c.args.action) (groups_bytes groups) _
    c.args.self.now c.put_fields.new.self c.note.new.self refl c.put_fields.ensures (λ used. omega (arith, used)) c.note.ensures refl
