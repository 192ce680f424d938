-- One row more.
use Rattle.std.proofs.Common.{◌<◌, ap, sym, ◌∙◌, arith}
use Rattle.ansi_screen.specs.Cells.{blank, rows_of}
use Rattle.ansi_screen.specs.Grid.{Grid}
use Rattle.ansi_screen.specs.History.{Kept}
use Rattle.ansi_screen.proofs.HistoryLemmas.{kept-columns}
use Rattle.ansi_screen.proofs.HandedLemmas.{blank-more, handed-more}
use Rattle.ansi_screen.proofs.grid.Grid.hand_out.Goals as goal

pub hand_out_row-requires-clause-columns : goal.hand_out_row-requires-clause-columns
hand_out_row-requires-clause-columns c =
    let g = c.args.self.now in
    ap (λ (k : Kept). k.columns) c.loop-row.invariant.kept
    ∙ kept-columns (rows_of c.loop-row.row g.width g.cells) c.args.history.now
    ∙ c.requires.columns
    ∙ sym (ap (λ (f : Grid). f.width) c.loop-row.invariant.cells)

pub loop-row-preserved : goal.loop-row-preserved
loop-row-preserved c =
    let inside : c.loop-row.row < c.args.self.now.height = omega (arith, c.loop-row-test.true, c.requires.within) in
    record {
      cells = blank-more c.loop-row.row c.args.style c.args.self.now c.loop-row.self c.hand_out_row.new.self c.width.ensures.filled inside c.loop-row.invariant.cells c.hand_out_row.ensures.cells;
      kept = handed-more c.loop-row.row (blank c.args.style) c.args.self.now c.loop-row.self c.args.history.now c.loop-row.history c.hand_out_row.new.history c.width.ensures.filled inside
          c.loop-row.invariant.cells c.loop-row.invariant.kept c.hand_out_row.ensures.kept;
    }
