-- Far from the end of the row the cells of the character are all.
use Rattle.std.proofs.Common.{◌+◌, ◌<◌, ◌≤◌, length, ap, ◌∙◌, subst, arith}
use Rattle.ansi_screen.specs.Display.{row_end}
use Rattle.ansi_screen.specs.State.{State}
use Rattle.ansi_screen.proofs.InsertLemmas.{row-inside}
use Rattle.ansi_screen.proofs.PrintedLemmas.{glyph-far}
use Rattle.ansi_screen.proofs.display.Display.put_glyph.Goals as goal

pub returns-then-self-from : goal.returns-then-self-from
returns-then-self-from c =
    let s = c.args.self.now in
    let d = s.display in
    let grid = c.self.inside.cells in
    let far : c.self.inside.cursor.column + c.args.columns + 1 < grid.width = omega (arith, c.if-self-from.true, c.from.ensures, c.width.ensures.width) in
    let room : d.cursor.column + c.args.columns + 1 < d.width = subst (λ (e : State). e.display.cursor.column + c.args.columns + 1 < e.display.width) c.self.view_is far in
    let inside : row_end d ≤ length d.cells =
    subst (λ (e : State). row_end e.display ≤ length e.display.cells) c.self.view_is
    (omega (arith, c.width.ensures.filled, row-inside c.self.inside.cursor.row grid.width grid.height c.self.invariant.2.sized.cursor_row)) in
    c.put_cells.ensures ∙ ap (λ e. record s { display = e }) (glyph-far c.args.columns c.args.c d c.requires.some c.requires.few room inside)
