-- A row that goes on says it again; else the cells of the run are all.
use Rattle.std.proofs.Common.{◌≡◌, ◌+◌, ◌≤◌, ◌&&◌, Bool, true, false, length, refl, ap, sym, ◌∙◌, subst, arith}
use Rattle.std.specs.Prelude.{nat_le}
use Rattle.std.proofs.lemmas.Bool.{and_parts}
use Rattle.ansi_screen.specs.Display.{row_end}
use Rattle.ansi_screen.specs.State.{State, changed}
use Rattle.ansi_screen.specs.Edits.{row_goes_on, row_going_on}
use Rattle.ansi_screen.specs.Runs.{with_run}
use Rattle.ansi_screen.proofs.InsertLemmas.{row-inside}
use Rattle.ansi_screen.proofs.PrintedLemmas.{run-kept, run-printed}
use Rattle.ansi_screen.proofs.display.Display.put_run.Goals as goal

pub returns-then-was_going_on : goal.returns-then-was_going_on
returns-then-was_going_on c =
    let s = c.args.self.now in
    let d = s.display in
    let grid = c.self.inside.cells in
    let text = c.args.run.now in
    let inside : row_end d ≤ length d.cells =
    subst (λ (e : State). row_end e.display ≤ length e.display.cells) c.self.view_is
    (omega (arith, c.width.ensures.filled, row-inside c.self.inside.cursor.row grid.width grid.height c.self.invariant.2.sized.cursor_row)) in
    let says : (nat_le d.width (d.cursor.column + length text + 1) && row_goes_on d) ≡ true =
    subst (λ (e : State). (nat_le d.width (e.display.cursor.column + length text + 1) && row_goes_on d) ≡ true) c.self.view_is
    (sym c.goes_on_at_end-was_going_on.ensures ∙ c.if-was_going_on.true) in
    let parts = and_parts (nat_le d.width (d.cursor.column + length text + 1)) (row_goes_on d) says in
    c.set_goes_on.ensures
    ∙ (ap (changed (row_going_on true)) c.put_cells_of_run.ensures
    ∙ ap (λ e. record s { display = e })
    (ap (λ (t : Bool). row_going_on t (with_run text d)) (sym parts.1) ∙ sym (run-printed text d c.requires.ascii c.requires.room inside)))

pub returns-else-was_going_on : goal.returns-else-was_going_on
returns-else-was_going_on c =
    let s = c.args.self.now in
    let d = s.display in
    let grid = c.self.inside.cells in
    let text = c.args.run.now in
    let inside : row_end d ≤ length d.cells =
    subst (λ (e : State). row_end e.display ≤ length e.display.cells) c.self.view_is
    (omega (arith, c.width.ensures.filled, row-inside c.self.inside.cursor.row grid.width grid.height c.self.invariant.2.sized.cursor_row)) in
    let says : (nat_le d.width (d.cursor.column + length text + 1) && row_goes_on d) ≡ false =
    subst (λ (e : State). (nat_le d.width (e.display.cursor.column + length text + 1) && row_goes_on d) ≡ false) c.self.view_is
    (sym c.goes_on_at_end-was_going_on.ensures ∙ c.if-was_going_on.false) in
    c.put_cells_of_run.ensures
    ∙ ap (λ e. record s { display = e })
    (run-kept _ text d refl says c.requires.room.fits inside
    ∙ sym (run-printed text d c.requires.ascii c.requires.room inside))
