-- What the room has behind the bytes stays.
use Rattle.std.proofs.Common.{◌≡◌, ◌+◌, ◌-◌, refl, arith}
use Rattle.stream_state.proofs.Fronts.{put_over-text}
use Rattle.strip_pieces.proofs.slice_writer.SliceWriter.put_padded.Goals as goal

pub returns : goal.returns
returns c =
    let room = c.args.self.now in
    let bytes = c.args.bytes.now in
    let size : room.written + 16 - room.written ≡ 16 = omega arith in
    record {
      same_reference = refl;
      written = λ _. omega (arith, c.len.ensures.value);
      bytes = λ _. put_over-text room.written (room.written + 16 - room.written) room.into.now bytes _ c.put_over.new.place
          (omega (arith, c.len.ensures.value, c.len.ensures.within)) (omega (arith, c.if-self-lt-CHUNK.false, c.if-start-self.false)) refl c.put_over.ensures;
    }
