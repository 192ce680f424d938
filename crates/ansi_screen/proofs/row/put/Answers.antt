-- Nothing is cut where all are blank.
use Rattle.std.proofs.Common.{List, ◌+◌, ◌∙◌, inr, arith}
use Rattle.ansi_screen.specs.declared.cell.Cell.{Cell}
use Rattle.ansi_screen.specs.Print.{glyph}
use Rattle.ansi_screen.proofs.RunLemmas.{change-blank}
use Rattle.ansi_screen.proofs.row.put.Goals as goal

pub returns-then-written-column : goal.returns-then-written-column
returns-then-written-column c =
    let column = c.args.column in
    let how : List Cell → List Cell = λ run. glyph c.args.columns c.args.c c.args.style c.args.link in
    c.put_uncut.ensures
    ∙ change-blank column (column + c.args.columns) how c.args.cells.now (λ place from. c.requires.blank place (inr (omega (arith, from)))) (omega arith)
