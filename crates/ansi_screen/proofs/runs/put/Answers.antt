-- The character comes into its cells after the two cuts.
use Rattle.std.proofs.Common.{ℕ, List, ◌+◌, ap, ◌∙◌}
use Rattle.ansi_screen.specs.declared.cell.Cell.{Cell}
use Rattle.ansi_screen.specs.Cells.{cut, within}
use Rattle.ansi_screen.specs.Print.{glyph}
use Rattle.ansi_screen.proofs.runs.put.Goals as goal

pub returns : goal.returns
returns c =
    let place = c.args.place in
    let how : List Cell → List Cell = λ run. glyph c.args.columns c.args.c c.args.style c.args.link in
    c.put_uncut.ensures
    ∙ ap (within place (place + c.args.columns) how)
    (c.cut-2.ensures ∙ ap (cut place) (c.cut.ensures ∙ ap (λ (n : ℕ). cut (place + n) c.args.cells.now) c.from.ensures))
