-- One field more is done.
use Rattle.std.proofs.Common.{◌++◌, ◌%◌, ◌/◌, ℕ, [], ◌∷◌, sym, ap, ◌∙◌, subst, append_assoc}
use Rattle.event_pieces.specs.Event.{goes_on, group_bytes}
use Rattle.event_pieces.specs.Writer.{Puts}
use Rattle.event_pieces.proofs.Fields.{goes_on-test}
use Rattle.event_pieces.proofs.RoomLemmas.{Puts-append}
use Rattle.event_pieces.proofs.writer.EventWriter.put_group.Goals as goal

pub rest-preserved : goal.rest-preserved
rest-preserved c =
    let before = c.rest.invariant in
    let field = c.in-Some.field.now in
    let left = c.in-Some.behind.now in
    let more = goes_on-test left c.is_empty.result c.from-goes_on.result c.is_empty.ensures c.from-goes_on.ensures in
    let bytes = field % 256 ∷ field / 256 ∷ goes_on left ∷ [] in
    record {
      done = before.done ++ bytes;
      whole = append_assoc before.done bytes (group_bytes left) ∙ ap (λ l. before.done ++ group_bytes l) (sym c.in-Some.ensures.cases.0) ∙ before.whole;
      puts = Puts-append before.done bytes c.args.self.now c.rest.self c.put_bytes.new.self before.puts
          (subst (λ (n : ℕ). Puts (field % 256 ∷ field / 256 ∷ n ∷ []) c.rest.self c.put_bytes.new.self) more c.put_bytes.ensures);
    }
