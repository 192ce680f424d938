-- What the room has behind the bytes stays.
use Rattle.std.proofs.Common.{◌≡◌, ◌+◌, ◌-◌, refl, arith}
use Rattle.stream_state.proofs.Fronts.{put_over-text}
use Rattle.event_pieces.proofs.writer.EventWriter.put_padded.Goals as goal

pub returns : goal.returns
returns c =
    let used = c.args.self.now.used in
    let size : used + 16 - used ≡ 16 = omega arith in
    record {
      same_events = refl;
      same_written = refl;
      same_reference = refl;
      used = λ _. omega (arith, c.len.ensures.value);
      room = λ _. put_over-text used (used + 16 - used) c.args.self.now.room.now c.args.bytes.now _ c.put_over.new.place
          (omega (arith, c.len.ensures.value, c.len.ensures.within)) (omega (arith, c.if-self-lt-BLOCK.false, c.if-start-self.false)) refl c.put_over.ensures;
    }
