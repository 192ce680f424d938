-- Two cells are set, or one.
use Rattle.std.proofs.Common.{◌≡◌, arith}
use Rattle.ansi_screen.proofs.CellLemmas.{set-one, set-two}
use Rattle.ansi_screen.proofs.runs.put_uncut.Goals as goal

pub returns-then-columns-eq2 : goal.returns-then-columns-eq2
returns-then-columns-eq2 c =
    let two : c.args.columns ≡ 2 = omega (arith, c.if-columns-eq2.true) in
    rw (two, c.printed.ensures, c.printed-then-columns-eq2.ensures) (set-two c.args.cells.now c.args.place _ _ (omega (arith, two, c.requires.within)))

pub returns-else-columns-eq2 : goal.returns-else-columns-eq2
returns-else-columns-eq2 c =
    let one : c.args.columns ≡ 1 = omega (arith, c.if-columns-eq2.false, c.requires.some, c.requires.few) in
    rw (one, c.printed-else-columns-eq2.ensures) (set-one c.args.cells.now c.args.place _ (omega (arith, one, c.requires.within)))
