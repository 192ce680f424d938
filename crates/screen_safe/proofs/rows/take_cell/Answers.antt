-- A character, and its marks; of a right half nothing.
use Rattle.std.proofs.Common.{List, ℕ, [], ◌∷◌, sym, ◌∙◌, subst}
use Rattle.safe_text.specs.Writer.{Takes}
use Rattle.safe_text.specs.TakingProof.{Takes-none, Takes-append}
use Rattle.screen_safe.specs.Characters.{marks_of}
use Rattle.screen_safe.proofs.TakenLemmas.{characters-right, characters-other}
use Rattle.screen_safe.proofs.rows.take_cell.Goals as goal

pub returns-then-not-is_right : goal.returns-then-not-is_right
returns-then-not-is_right g c =
    let cell = c.args.cell in
    let other = sym c.is_right.ensures ∙ c.if-not-is_right.true in
    subst (λ (cs : List ℕ). Takes g.W.Sink c.args.writer.now cs c.take_marks.new.writer) (sym (characters-other cell other))
    (Takes-append g.W.Sink c.args.writer.now c.take.new.self c.take_marks.new.writer (cell.character ∷ []) (marks_of cell.marks) c.take.ensures c.take_marks.ensures)

pub returns-else-not-is_right : goal.returns-else-not-is_right
returns-else-not-is_right g c =
    let right = sym c.is_right.ensures ∙ c.if-not-is_right.false in
    subst (λ (cs : List ℕ). Takes g.W.Sink c.args.writer.now cs c.args.writer.now) (sym (characters-right c.args.cell right)) (Takes-none g.W.Sink c.args.writer.now)
