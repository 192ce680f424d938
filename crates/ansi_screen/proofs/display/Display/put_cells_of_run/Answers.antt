-- The whole run comes into its cells.
use Rattle.std.proofs.Common.{◌+◌, ◌≤◌, length, refl, ap, sym, subst}
use Rattle.ansi_screen.specs.Display.{here}
use Rattle.ansi_screen.specs.State.{State}
use Rattle.ansi_screen.proofs.DamageLemmas.{puts-row, writes-glyphs}
use Rattle.ansi_screen.proofs.PrintedLemmas.{put-cells}
use Rattle.ansi_screen.proofs.display.Display.put_cells_of_run.Goals as goal

pub returns : goal.returns
returns c =
    rw c.put_run.ensures
    (put-cells c.args.run.now _ c.args.self.now _ _ c.self.view_is (ap (λ (d : State). here d.display) c.self.view_is) refl)

pub invariant_of-self : goal.invariant_of-self
invariant_of-self c =
    let fits : c.self.inside.cursor.column + length c.args.run.now ≤ c.self.inside.cells.width =
    subst (λ (d : State). d.display.cursor.column + length c.args.run.now ≤ d.display.width) (sym c.self.view_is) c.requires.fits in
    let was = c.self.invariant.2 in
    puts-row c.self.inside.damage c.note.new.self c.self.inside.cells c.put_run.new.self c.self.inside.hidden _ _ c.self.view_is c.self.invariant _ c.put_run.ensures _ _ _ _ fits
    c.note.ensures
    (writes-glyphs _ _ _ _ _ c.width.ensures.begin c.width.ensures.filled was.sized.cursor_row was.long _ _ _ _ c.requires.some fits)
