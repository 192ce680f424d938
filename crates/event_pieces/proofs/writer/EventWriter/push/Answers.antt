-- The record stands in place of the one that was there.
use Rattle.std.proofs.Common.{refl, arith}
use Rattle.event_pieces.proofs.RoomLemmas.{with_items-one}
use Rattle.event_pieces.proofs.writer.EventWriter.push.Goals as goal

pub returns-then-self : goal.returns-then-self
returns-then-self c = record {
  same_reference = refl;
  same_room = refl;
  same_used = refl;
  few = omega arith;
  written = λ within. refl;
  events = λ within. with_items-one c.args.self.now.written c.args.event c.args.self.now.events.now within;
}
