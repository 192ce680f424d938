-- The character is a text of one.
use Rattle.std.proofs.Common.{List, ℕ, subst}
use Rattle.anstyle_parse.specs.Stream.Call.{Call}
use Rattle.anstyle_parse.specs.Stream.Texts.{text_calls}
use Rattle.event_pieces.specs.Writer.{Adds}
use Rattle.event_pieces.proofs.Texts.{text-one}
use Rattle.event_pieces.proofs.writer.EventWriterPerform.print.Goals as goal

pub returns : goal.returns
returns c =
    subst (λ (calls : List Call). Adds calls c.args.self.now c.put_text.new.self) (text-one c.args.c c.ranges.c.0)
    (subst (λ (t : List ℕ). Adds (text_calls t) c.args.self.now c.put_text.new.self) c.encode_utf8.ensures.value c.put_text.ensures)
