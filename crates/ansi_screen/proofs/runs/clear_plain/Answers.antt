-- As many cells more as are copied.
use Rattle.std.proofs.Common.{arith}
use Rattle.ansi_style.specs.Style.{plain}
use Rattle.ansi_screen.specs.Cells.{blank}
use Rattle.ansi_screen.proofs.CellLemmas.{cleared-next}
use Rattle.ansi_screen.proofs.runs.clear_plain.Goals as goal

pub copies-preserved : goal.copies-preserved
copies-preserved c =
    let before = c.copies.invariant in
    record {
      within = omega (arith, c.min-count.ensures, c.copies.auto.cells, c.copies-test.true, before.within);
      cleared = cleared-next c.copies.cleared c.min-count.result 128 (blank plain) c.copies.cells c.args.cells.now c.copy_from_slice.new.self before.cleared before.within
          (omega (arith, c.min-count.ensures)) c.copy_from_slice.ensures.after;
    }
