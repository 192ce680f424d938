-- One row more.
use Rattle.std.proofs.Common.{◌<◌, ◌≤◌, length, sym, subst, arith}
use Rattle.ansi_screen.proofs.LeavingLemmas.{takes-kept}
use Rattle.screen_pieces.proofs.lines.hand_on_left.Goals.{in-Some, in_default}
use Rattle.screen_pieces.proofs.lines.hand_on_left.Goals as goal

pub loop-number-preserved : goal.loop-number-preserved
loop-number-preserved g c =
    let n = c.loop-number.number in
    let rows = c.args.history.now.rows in
    let inside : n < length rows = omega (arith, c.counts-count.ensures.kept, c.loop-number-test.true) in
    elim c.match-row.branch [
      | in-Some w ↦ takes-kept g.R.TakeRow.takes n rows w.in-Some.cells.now c.args.taker.now c.loop-number.taker c.match-row.taker inside w.in-Some.ensures.cells
          c.loop-number.invariant (subst (λ t. g.R.TakeRow.takes c.loop-number.taker w.in-Some.cells.now t) (sym w.taker-is) w.take_row.ensures)
      | in_default w ↦ let none : length rows ≤ n = w.in_default.ensures.none in absurd (omega (arith, inside, none))
    ]
