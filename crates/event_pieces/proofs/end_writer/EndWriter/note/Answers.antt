-- The end of a text is moved, one is added, or there is no place for it.
use Rattle.std.proofs.Common.{◌≡◌, ◌&&◌, false, refl, sym, ap, ◌∙◌, arith}
use Rattle.std.proofs.lemmas.Bool.{and_left, and_right}
use Rattle.event_pieces.proofs.Placed.{noted-moved, noted-added, noted-full}
use Rattle.event_pieces.proofs.end_writer.EndWriter.note.Goals as goal
use Rattle.event_pieces.proofs.end_writer.EndWriter.note.Goals.{else-is_text-via-then-is_text+else-self, else-is_text-via-else-is_text}

pub returns-then-self : goal.returns-then-self
returns-then-self c = λ call is.
    record {
      same_reference = refl;
      same_given = refl;
      noted = λ calls places has. noted-moved calls places c.args.self.now _ call has (is ∙ c.if-is_text.true) c.if-self.true refl refl c.if-self.true;
    }

pub returns-then-self-2 : goal.returns-then-self-2
returns-then-self-2 c = λ call is.
    let old = c.args.self.now in
    let apart : (c.args.is_text && old.is_in_text) ≡ false =
    elim c.else-is_text.branch [
      | else-is_text-via-then-is_text+else-self w ↦ and_right c.args.is_text old.is_in_text w.if-self.false
      | else-is_text-via-else-is_text w ↦ and_left c.args.is_text old.is_in_text w.if-is_text.false
    ] in
    record {
      same_reference = refl;
      same_given = refl;
      noted = λ calls places has. noted-added calls places old _ call has (ap (λ t. t && old.is_in_text) is ∙ apart) (omega (arith, c.if-self-2.true)) refl refl (sym is);
    }

pub returns-else-self-2 : goal.returns-else-self-2
returns-else-self-2 c = λ call is.
    let old = c.args.self.now in
    let apart : (c.args.is_text && old.is_in_text) ≡ false =
    elim c.else-is_text.branch [
      | else-is_text-via-then-is_text+else-self w ↦ and_right c.args.is_text old.is_in_text w.if-self.false
      | else-is_text-via-else-is_text w ↦ and_left c.args.is_text old.is_in_text w.if-is_text.false
    ] in
    record {
      same_reference = refl;
      same_given = refl;
      noted = λ calls places has. noted-full calls places old _ call has (omega (arith, c.if-self-2.false)) (ap (λ t. t && old.is_in_text) is ∙ apart) refl refl refl;
    }
