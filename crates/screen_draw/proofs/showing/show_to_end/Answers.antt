-- What was read leads to the screen, which is written.
use Rattle.screen_draw.proofs.showing.show_to_end.Goals as goal

pub returns : goal.returns
returns g c =
    let taken = c.perform_texts_to_end-answer.ensures in record {
      read = taken.read;
      consumed = taken.consumed;
      shows = taken.received;
      written = c.write.ensures;
      ends = taken.ends;
    }
