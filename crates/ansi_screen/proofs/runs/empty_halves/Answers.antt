-- Both halves become blanks; at the first place none stands before it.
use Rattle.std.proofs.Common.{true, refl, sym}
use Rattle.ansi_style.specs.Style.{plain}
use Rattle.ansi_screen.specs.Cells.{blank}
use Rattle.ansi_screen.proofs.CellLemmas.{cut-split, cut-first}
use Rattle.ansi_screen.proofs.runs.empty_halves.Goals as goal

pub returns-then-place-gt0 : goal.returns-then-place-gt0
returns-then-place-gt0 c =
    cut-split c.args.cells.now c.args.place true _ _ (blank plain) _ _ c.if-place-gt0.true c.requires.within (sym c.requires.right) refl
    c.emptied.ensures c.emptied-then-place-gt0.ensures

pub returns-else-place-gt0 : goal.returns-else-place-gt0
returns-else-place-gt0 c = cut-first c.args.cells.now c.args.place c.if-place-gt0.false
