-- The row says again what it said; where it did not go on, it does not.
use Rattle.std.proofs.Common.{◌≡◌, ◌≤◌, Bool, true, false, length, ap, sym, ◌∙◌, subst, arith}
use Rattle.ansi_screen.specs.Display.{row_end}
use Rattle.ansi_screen.specs.State.{State, changed}
use Rattle.ansi_screen.specs.Edits.{row_goes_on, row_going_on}
use Rattle.ansi_screen.specs.Print.{with_cells_of, with_glyph}
use Rattle.ansi_screen.proofs.InsertLemmas.{row-inside}
use Rattle.ansi_screen.proofs.PrintedLemmas.{glyph-ends}
use Rattle.ansi_screen.proofs.display.Display.put_at_end.Goals as goal

pub returns-then-was_going_on : goal.returns-then-was_going_on
unfolding with_glyph
returns-then-was_going_on c =
    let s = c.args.self.now in
    let says : true ≡ row_goes_on s.display = sym c.if-was_going_on.true ∙ c.goes_on-was_going_on.ensures in
    c.set_goes_on.ensures
    ∙ (ap (changed (row_going_on true)) c.put_cells.ensures
    ∙ ap (λ (t : Bool). changed (λ e. row_going_on t (with_cells_of c.args.columns c.args.c e)) s) says)

pub returns-else-was_going_on : goal.returns-else-was_going_on
returns-else-was_going_on c =
    let s = c.args.self.now in
    let d = s.display in
    let grid = c.self.inside.cells in
    let was = c.self.invariant.2 in
    let inside : row_end d ≤ length d.cells =
    subst (λ (e : State). row_end e.display ≤ length e.display.cells) c.self.view_is
    (omega (arith, c.width.ensures.filled, row-inside c.self.inside.cursor.row grid.width grid.height was.sized.cursor_row)) in
    let ends : row_goes_on d ≡ false = sym c.goes_on-was_going_on.ensures ∙ c.if-was_going_on.false in
    c.put_cells.ensures
    ∙ ap (λ e. record s { display = e }) (glyph-ends c.args.columns c.args.c d c.requires.some c.requires.few (omega (arith, inside, c.requires.fits)) ends)
