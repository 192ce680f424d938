-- A character, and its marks; or nothing.
use Rattle.std.proofs.Common.{sym, ◌∙◌}
use Rattle.std.specs.Prelude.{encode_utf8}
use Rattle.ansi_screen.specs.Text.{cell_text, marks_text}
use Rattle.screen_pieces.proofs.TextLemmas.{Puts-nil, Puts-append}
use Rattle.screen_pieces.proofs.text.TextWriter.put_cell.Goals as goal

pub returns-then-not-is_right : goal.returns-then-not-is_right
unfolding cell_text
returns-then-not-is_right c =
    let whole = sym c.is_right.ensures ∙ c.if-not-is_right.true in
    rw whole (Puts-append (encode_utf8 c.args.cell.now.character) (marks_text c.args.cell.now.marks) c.args.self.now c.put_char.new.self c.put_marks.new.self
    c.put_char.ensures c.put_marks.ensures)

pub returns-else-not-is_right : goal.returns-else-not-is_right
unfolding cell_text
returns-else-not-is_right c =
    let right = sym c.is_right.ensures ∙ c.if-not-is_right.false in
    rw right (Puts-nil c.args.self.now)
