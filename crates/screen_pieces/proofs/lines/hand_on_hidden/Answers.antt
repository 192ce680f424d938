-- One row more; in the end all.
use Rattle.std.proofs.Common.{◌≡◌, ℕ, ◌∙◌, subst, arith}
use Rattle.ansi_screen.specs.Edits.{swapped}
use Rattle.ansi_screen.specs.Leaving.{TakesRows}
use Rattle.ansi_screen.specs.Text.{first_rows}
use Rattle.ansi_screen.proofs.LeavingLemmas.{takes-row}
use Rattle.screen_pieces.proofs.lines.hand_on_hidden.Goals as goal

pub loop-row-preserved : goal.loop-row-preserved
loop-row-preserved g c =
    takes-row g.R.TakeRow.takes c.loop-row.row (swapped c.args.screen.now.display) c.hidden_row-cells.result.now
    c.args.taker.now c.loop-row.taker c.take_row.new.self c.hidden_row-cells.ensures.cells c.loop-row.invariant c.take_row.ensures

pub returns : goal.returns
returns g c =
    let all : c.loop-row.row ≡ c.hidden_count-count.result = omega (arith, c.loop-row-test.false, c.loop-row.auto.row-end) in
    subst (λ (n : ℕ). TakesRows g.R.TakeRow.takes c.args.taker.now (first_rows n (swapped c.args.screen.now.display)) c.loop-row.taker)
    (all ∙ c.hidden_count-count.ensures.used) c.loop-row.invariant
