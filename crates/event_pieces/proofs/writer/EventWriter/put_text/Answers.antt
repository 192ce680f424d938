-- A text is one record, and none where it is empty.
use Rattle.std.proofs.Common.{◌<◌, List, ℕ, length, sym, ◌∙◌, subst, arith}
use Rattle.std.proofs.lemmas.Bool.{eqb-true}
use Rattle.std.proofs.lemmas.Bool.Decides.{nat_tests}
use Rattle.std.proofs.lemmas.List.{nil_from_length}
use Rattle.event_pieces.specs.Writer.{Puts}
use Rattle.event_pieces.proofs.Texts.{Adds-no_text, Adds-some_text}
use Rattle.event_pieces.proofs.writer.EventWriter.put_text.Goals as goal

pub returns-then-is_empty : goal.returns-then-is_empty
returns-then-is_empty c =
    Adds-no_text c.args.text.now c.args.self.now (nil_from_length c.args.text.now (eqb-true (length c.args.text.now) 0 (sym c.is_empty.ensures ∙ c.if-is_empty.true)))

pub returns : goal.returns
returns c =
    let text = c.args.text.now in
    let some : 0 < length text = grind (arith, nat_tests) in
    Adds-some_text text c.args.self.now c.put_bytes.new.self c.note_text.new.self c.utf8.text some
    (subst (λ (t : List ℕ). Puts t c.args.self.now c.put_bytes.new.self) c.as_bytes.ensures.value c.put_bytes.ensures) c.note_text.ensures
