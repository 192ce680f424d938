-- A character far from the row's end, out of insert mode.
use Rattle.std.proofs.Common.{◌≡◌, ◌+◌, ◌<◌, ◌≤◌, length, ap, ◌∙◌, subst, arith}
use Rattle.ansi_screen.specs.Display.{row_end}
use Rattle.ansi_screen.specs.State.{State, changed}
use Rattle.ansi_screen.specs.Print.{with_glyph}
use Rattle.ansi_screen.proofs.InsertLemmas.{row-inside}
use Rattle.ansi_screen.proofs.PrintedLemmas.{shown-there, glyph-far}
use Rattle.ansi_screen.proofs.display.Display.show.Goals as goal

pub returns-then-not-self : goal.returns-then-not-self
returns-then-not-self c =
    let s = c.args.self.now in
    let d = s.display in
    let n = c.columns-columns.result in
    let grid = c.self.inside.cells in
    let near : c.self.inside.cursor.column + c.from.result + 1 < grid.width = omega (arith, c.if-self-from.true, c.width.ensures.width) in
    let fits : c.self.inside.cursor.column + c.from.result ≤ grid.width = omega (arith, near) in
    let far : d.cursor.column + n + 1 < d.width = subst (λ (e : State). e.display.cursor.column + n + 1 < e.display.width) c.self.view_is (omega (arith, near, c.from.ensures)) in
    let inside : row_end d ≤ length d.cells =
    subst (λ (e : State). row_end e.display ≤ length e.display.cells) c.self.view_is
    (omega (arith, c.width.ensures.filled, row-inside c.self.inside.cursor.row grid.width grid.height c.self.invariant.2.sized.cursor_row)) in
    let other : n ≡ 0 → ⊥ = c.if-columns-eq0.false in
    let put : c.put_cells.new.self ≡ changed (with_glyph n c.args.c) s =
    c.put_cells.ensures ∙ ap (λ e. record s { display = e }) (glyph-far n c.args.c d (omega arith) c.columns-columns.ensures.few far inside) in
    shown-there n c.from.result c.args.c _ s c.put_cells.new.self c.self.view_is c.columns-columns.ensures.columns c.from.ensures c.if-columns-eq0.false fits c.if-not-self.true put
