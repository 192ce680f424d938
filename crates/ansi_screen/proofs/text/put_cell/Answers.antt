-- A character, and its marks.
use Rattle.std.proofs.Common.{sym, ◌∙◌}
use Rattle.std.specs.Prelude.{encode_utf8}
use Rattle.anstyle_parse.proofs.Written.Output.{Adds-append}
use Rattle.ansi_screen.specs.Text.{cell_text, marks_text}
use Rattle.ansi_screen.proofs.text.put_cell.Goals as goal

pub returns-then-not-is_right : goal.returns-then-not-is_right
unfolding cell_text
returns-then-not-is_right g c =
    let whole = sym c.is_right.ensures ∙ c.if-not-is_right.true in
    rw whole (Adds-append g.W.Sink (encode_utf8 c.args.cell.character) (marks_text c.args.cell.marks) _ _ _ c.put_char.ensures c.put_marks.ensures)
